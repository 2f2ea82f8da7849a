-- Pieces that go out one after another.
use Rattle.std.proofs.Common.{◌≡◌, ◌+◌, List, [], ◌∷◌, ◌++◌, Result, Ok, Err, refl, sym, ◌∙◌, ap, append_assoc}
use Rattle.std.proofs.KnownBytes.{Appends-nil, Appends-trans}
use Rattle.std.proofs.lemmas.List.{append-nil}
use Rattle.serving.specs.Pieces.{Piece, Delivers, DeliversAll, DeliversPart, last_state, texts}
use Rattle.target.specs.MachineModel.{MachineModel}
use Rattle.output.specs.Output.{IsCutShort, Put, Writing}
use Rattle.reference.specs.State.{State}

pub texts-append : (xs ys : List Piece) → texts (xs ++ ys) ≡ texts xs ++ texts ys
texts-append [] ys = refl
texts-append (x ∷ xs) ys = rw (texts-append xs ys, append_assoc) refl

pub last-append : (s : State) (xs ys : List Piece) → last_state s (xs ++ ys) ≡ last_state (last_state s xs) ys
last-append s [] ys = refl
last-append s (x ∷ xs) ys = last-append x.state xs ys

-- no piece
pub delivers_none : (m : MachineModel) (a : Writing) → DeliversAll [] m m a a
delivers_none m a = record { went = Appends-nil a.written; stands = refl; quiet = refl }

-- one piece was cut
pub one_cut : (p : Piece) (old new : MachineModel) (a b : Writing) → IsCutShort a.written b.written p.text
    → new ≡ record old { state = p.state } → b.errors ≡ a.errors + 1 → DeliversPart (p ∷ []) old new a b
one_cut p old new a b cut stands failed =
    record { done = []; piece = p; others = []; among = refl; stands = stands; cut = cut; failed = failed }

-- one piece went out, or was cut
pub put_delivers : {E : Type 0} (p : Piece) (old new : MachineModel) (a b : Writing) (result : Result (Unit {0}) E)
    → Put a b p.text result → new ≡ record old { state = p.state } → Delivers (p ∷ []) old new a b result
put_delivers p old new a b (Ok done) put stands =
    record { went = rw (append-nil p.text) put.0; stands = stands; quiet = put.1 }
put_delivers p old new a b (Err error) put stands = one_cut p old new a b put.0 stands put.1

-- some pieces went out, and then more
pub delivers_on : (xs ys : List Piece) (old mid new : MachineModel) (a b c : Writing) → DeliversAll xs old mid a b
    → DeliversAll ys mid new b c → DeliversAll (xs ++ ys) old new a c
delivers_on xs ys old mid new a b c first then = record {
  went = rw texts-append (Appends-trans a.written b.written c.written (texts xs) (texts ys) first.went then.went);
  stands = rw (last-append old.state xs ys)
      (then.stands ∙ ap (λ (m : MachineModel). record m { state = last_state m.state ys }) first.stands);
  quiet = then.quiet ∙ first.quiet;
}

-- some pieces went out, and then one of more was cut
pub cut_on : (xs ys : List Piece) (old mid new : MachineModel) (a b c : Writing) → DeliversAll xs old mid a b
    → DeliversPart ys mid new b c → DeliversPart (xs ++ ys) old new a c
cut_on xs ys old mid new a b c first then = record {
  done = xs ++ then.done;
  piece = then.piece;
  others = then.others;
  among = rw (then.among) (sym (append_assoc xs then.done (then.piece ∷ then.others)));
  stands = then.stands ∙ ap (λ (m : MachineModel). record m { state = then.piece.state }) first.stands;
  cut = record {
    front = then.cut.front;
    byte = then.cut.byte;
    later = then.cut.later;
    whole = then.cut.whole;
    went = rw (texts-append xs then.done, append_assoc)
        (Appends-trans a.written b.written c.written (texts xs) (texts then.done ++ then.cut.front) first.went
        then.cut.went);
  };
  failed = then.failed ∙ ap (λ n. n + 1) first.quiet;
}

-- more pieces would have come
pub cut_before : (xs ys : List Piece) (old new : MachineModel) (a b : Writing) → DeliversPart xs old new a b
    → DeliversPart (xs ++ ys) old new a b
cut_before xs ys old new a b part = record {
  done = part.done;
  piece = part.piece;
  others = part.others ++ ys;
  among = rw (part.among) (append_assoc part.done (part.piece ∷ part.others) ys);
  stands = part.stands;
  cut = part.cut;
  failed = part.failed;
}

-- the pieces of a list that went out so far
pub record HasDelivered (all rest : List Piece) (old new : MachineModel) (a b : Writing) : Type 0 where
  pub done : List Piece
  pub whole : done ++ rest ≡ all
  pub delivers : DeliversAll done old new a b

pub delivers_nothing : (all : List Piece) (m : MachineModel) (a : Writing) → HasDelivered all all m m a a
delivers_nothing all m a = record { done = []; whole = refl; delivers = delivers_none m a }

-- one piece more
pub one_more : (all rest : List Piece) (p : Piece) (old mid new : MachineModel) (a b c : Writing)
    → HasDelivered all (p ∷ rest) old mid a b → DeliversAll (p ∷ []) mid new b c → HasDelivered all rest old new a c
one_more all rest p old mid new a b c so_far then = record {
  done = so_far.done ++ p ∷ [];
  whole = append_assoc so_far.done (p ∷ []) rest ∙ so_far.whole;
  delivers = delivers_on so_far.done (p ∷ []) old mid new a b c so_far.delivers then;
}

-- the last pieces
pub delivers_all : (all rest : List Piece) (old mid new : MachineModel) (a b c : Writing)
    → HasDelivered all rest old mid a b
    → DeliversAll rest mid new b c → DeliversAll all old new a c
delivers_all all rest old mid new a b c so_far then =
    rw (sym so_far.whole) (delivers_on so_far.done rest old mid new a b c so_far.delivers then)

-- the last pieces were cut
pub rest_cut : (all rest : List Piece) (old mid new : MachineModel) (a b c : Writing)
    → HasDelivered all rest old mid a b
    → DeliversPart rest mid new b c → DeliversPart all old new a c
rest_cut all rest old mid new a b c so_far then =
    rw (sym so_far.whole) (cut_on so_far.done rest old mid new a b c so_far.delivers then)

-- the last pieces went out, or were cut
pub delivers_rest : {A E : Type 0} (all rest : List Piece) (old mid new : MachineModel) (a b c : Writing)
    (result : Result A E)
    → HasDelivered all rest old mid a b → Delivers rest mid new b c result → Delivers all old new a c result
delivers_rest all rest old mid new a b c (Ok done) so_far then = delivers_all all rest old mid new a b c so_far then
delivers_rest all rest old mid new a b c (Err error) so_far then = rest_cut all rest old mid new a b c so_far then
