-- The bytes of a session, one after another.
--
-- - `HasAnswered` is the invariant of the loop over bytes: those that were read, the answers to them, and the session
-- then.
-- - The definitions take the first byte apart and the loop adds a last one: `after_snoc` and `answers_snoc` say that
--   the session and its answers after one byte more are those before it and the byte's own, as long as it is open.
-- - `answered_on` makes the step of the loop. Each way out of it has one lemma: `closed` (the session reads no
-- further),
--   `cut_at` and `cut_at_end` (the writer failed), `at_end`, `missed` (the reader failed) and `spent`.
-- - `answered_kept` and `ended` add what a writer that gathers bytes sends before the session waits, and at its end.
use Rattle.std.proofs.Common.{◌≡◌, inl, inr, ℕ, ◌+◌, ◌-◌, ◌^◌, Bool, true, false, List, [], ◌∷◌}
use Rattle.std.proofs.Common.{◌++◌, length, Result, Ok, Err, refl, sym, ◌∙◌, ap, subst, append_assoc}
use Rattle.std.proofs.Common.{length-append}
use Rattle.std.proofs.lemmas.List.{append-nil}
use Rattle.std.specs.Io.KnownBytes.{IsAtEnd, Keeps}
use Rattle.std.proofs.KnownBytes.{Appends-kept, Consumes-nil, Consumes-trans, Consumes-kept}
use Rattle.serving.proofs.Delivering.{delivers_none, delivers_on, cut_on, cut_before}
use Rattle.serving.specs.Conduct.{Conduct, SessionState, after_bytes, answers, course_of, end_answers, next}
use Rattle.serving.specs.Pieces.{Piece, DeliversAll, DeliversAllThenFails, DeliversPart, texts}
use Rattle.serving.specs.declared.sessions.SessionError.{SessionError}
use Rattle.serving.specs.declared.sessions.SessionError.TheVariants.{Read, Write}
use Rattle.serving.specs.Sessions.{AreSoFar, Course, Ends, FailsOnce, FailsToRead, FailsToWrite, ReadsBytes}
use Rattle.serving.specs.Sessions.{HoldsSession, KeepsPut}
use Rattle.serving.specs.Sessions.{NothingWaits, SendsRest, Sessions, TakesNext}
use Rattle.target.specs.MachineModel.{MachineModel}
use Rattle.output.specs.Input.{Reading}
use Rattle.output.specs.Output.{Writing}
use Rattle.reference.specs.State.{State}

-- ---- one byte after others

after_more : {A : Type 0} (c : Conduct A) (t : SessionState A) (x : ℕ) (xs : List ℕ) → c.is_open t.kept ≡ true
    → after_bytes c t (x ∷ xs) ≡ after_bytes c (next c t x) xs
unfolding after_bytes
after_more c t x xs e = rw e refl

-- a session that goes on after a byte was open before it
was_open : {A : Type 0} (c : Conduct A) (t : SessionState A) (x : ℕ) (xs : List ℕ) (o : Bool) → c.is_open t.kept ≡ o
    → c.is_open (after_bytes c t (x ∷ xs)).kept ≡ true
    → (c.is_open t.kept ≡ true) × (c.is_open (after_bytes c (next c t x) xs).kept ≡ true)
unfolding after_bytes
was_open {A} c t x xs true e goes =
    (e, sym (ap (λ (u : SessionState A). c.is_open u.kept) (after_more c t x xs e)) ∙ goes)
was_open c t x xs false e goes = absurd (let wrong : false ≡ true = sym e ∙ (rw e at goes) in cc)

answers_more : {A : Type 0} (c : Conduct A) (t : SessionState A) (x : ℕ) (xs : List ℕ) → c.is_open t.kept ≡ true
    → answers c t (x ∷ xs) ≡ c.answered t.kept t.state x ++ answers c (next c t x) xs
unfolding answers
answers_more c t x xs e = rw e refl

after_none : {A : Type 0} (c : Conduct A) (t : SessionState A) → after_bytes c t [] ≡ t
unfolding after_bytes
after_none c t = refl

answers_none : {A : Type 0} (c : Conduct A) (t : SessionState A) → answers c t [] ≡ []
unfolding answers
answers_none c t = refl

after_snoc : {A : Type 0} (c : Conduct A) (t : SessionState A) (xs : List ℕ) (b : ℕ)
    → c.is_open (after_bytes c t xs).kept ≡ true
    → after_bytes c t (xs ++ b ∷ []) ≡ next c (after_bytes c t xs) b
after_snoc {A} c t [] b goes =
    let e : c.is_open t.kept ≡ true = sym (ap (λ (u : SessionState A). c.is_open u.kept) (after_none c t)) ∙ goes in
    after_more c t b [] e ∙ (after_none c (next c t b) ∙ ap (λ (u : SessionState A). next c u b) (sym (after_none c t)))
after_snoc {A} c t (x ∷ xs) b goes =
    let both = was_open c t x xs (c.is_open t.kept) refl goes in
    after_more c t x (xs ++ b ∷ []) both.0
    ∙ (after_snoc c (next c t x) xs b both.1
    ∙ ap (λ (u : SessionState A). next c u b) (sym (after_more c t x xs both.0)))

answers_snoc : {A : Type 0} (c : Conduct A) (t : SessionState A) (xs : List ℕ) (b : ℕ)
    → c.is_open (after_bytes c t xs).kept ≡ true
    → answers c t (xs ++ b ∷ [])
    ≡ answers c t xs ++ c.answered (after_bytes c t xs).kept (after_bytes c t xs).state b
answers_snoc {A} c t [] b goes =
    let e : c.is_open t.kept ≡ true = sym (ap (λ (u : SessionState A). c.is_open u.kept) (after_none c t)) ∙ goes in
    answers_more c t b [] e
    ∙ (ap (λ (ps : List Piece). c.answered t.kept t.state b ++ ps) (answers_none c (next c t b))
    ∙ (append-nil (c.answered t.kept t.state b)
    ∙ (ap (λ (u : SessionState A). c.answered u.kept u.state b) (sym (after_none c t))
    ∙ ap (λ (ps : List Piece). ps ++ c.answered (after_bytes c t []).kept (after_bytes c t []).state b)
    (sym (answers_none c t)))))
answers_snoc {A} c t (x ∷ xs) b goes =
    let both = was_open c t x xs (c.is_open t.kept) refl goes in
    let rest : SessionState A = after_bytes c (next c t x) xs in
    answers_more c t x (xs ++ b ∷ []) both.0
    ∙ (ap (λ (ps : List Piece). c.answered t.kept t.state x ++ ps) (answers_snoc c (next c t x) xs b both.1)
    ∙ (sym (append_assoc (c.answered t.kept t.state x) (answers c (next c t x) xs) (c.answered rest.kept rest.state b))
    ∙ (ap (λ (u : SessionState A). (c.answered t.kept t.state x ++ answers c (next c t x) xs)
    ++ c.answered u.kept u.state b)
    (sym (after_more c t x xs both.0))
    ∙ ap (λ (ps : List Piece). ps ++ c.answered (after_bytes c t (x ∷ xs)).kept (after_bytes c t (x ∷ xs)).state b)
    (sym (answers_more c t x xs both.0)))))

-- ---- a session after some bytes

abbrev session_at : {A : Type 0} → A → State → SessionState A
session_at k s = record { kept = k; state = s }

-- the session after n bytes: it began with `from`, and now `k` is kept
pub record HasAnswered {A : Type 0} (c : Conduct A) (Ready : A → State → Type 0) (from : A) (s : State) (n : ℕ) (k : A)
    (old new : MachineModel) (before after : Reading) (out out' : Writing) : Type 0 where
  pub given : List ℕ
  pub count : length given ≡ n
  pub reads_bytes : ReadsBytes given before after
  pub now : after_bytes c (session_at from s) given ≡ session_at k new.state
  pub reads_on : c.is_open k ≡ true
  pub delivers : DeliversAll (answers c (session_at from s) given) old new out out'
  pub ready : Ready k new.state

pub begun : {A : Type 0} (c : Conduct A) (Ready : A → State → Type 0) (from : A) (m : MachineModel) (i : Reading)
    (a : Writing)
    → c.is_open from ≡ true → Ready from m.state → HasAnswered c Ready from m.state 0 from m m i i a a
begun c Ready from m i a open_now ready = record {
  given = [];
  count = refl;
  reads_bytes = record { gave = Consumes-nil i.left; quiet = refl };
  now = after_none c (session_at from m.state);
  reads_on = open_now;
  delivers = subst (λ (ps : List Piece). DeliversAll ps m m a a) (sym (answers_none c (session_at from m.state)))
      (delivers_none m a);
  ready = ready;
}

is_open : {A : Type 0} (c : Conduct A) (Ready : A → State → Type 0) (from : A) (s : State) (n : ℕ) (k : A)
    (old new : MachineModel) (i j : Reading) (a b : Writing) (h : HasAnswered c Ready from s n k old new i j a b)
    → c.is_open (after_bytes c (session_at from s) h.given).kept ≡ true
is_open {A} c Ready from s n k old new i j a b h =
    ap (λ (t : SessionState A). c.is_open t.kept) h.now ∙ h.reads_on

reads_more : (given more : List ℕ) (i j l : Reading) → ReadsBytes given i j → ReadsBytes more j l
    → ReadsBytes (given ++ more) i l
reads_more given more i j l x y = record {
  gave = Consumes-trans i.left j.left l.left given more x.gave y.gave;
  quiet = y.quiet ∙ x.quiet;
}

-- the answers to one byte more
answered_now : {A : Type 0} (c : Conduct A) (Ready : A → State → Type 0) (from : A) (s : State) (n : ℕ) (k : A)
    (old mid : MachineModel) (i j : Reading) (a b : Writing) (byte : ℕ)
    (h : HasAnswered c Ready from s n k old mid i j a b)
    → answers c (session_at from s) (h.given ++ byte ∷ []) ≡ answers c (session_at from s) h.given
    ++ c.answered k mid.state byte
answered_now {A} c Ready from s n k old mid i j a b byte h =
    answers_snoc c (session_at from s) h.given byte (is_open c Ready from s n k old mid i j a b h)
    ∙ ap (λ (t : SessionState A). answers c (session_at from s) h.given ++ c.answered t.kept t.state byte) h.now

next_now : {A : Type 0} (c : Conduct A) (Ready : A → State → Type 0) (from : A) (s : State) (n : ℕ) (k : A)
    (old mid : MachineModel) (i j : Reading) (a b : Writing) (byte : ℕ)
    (h : HasAnswered c Ready from s n k old mid i j a b)
    → after_bytes c (session_at from s) (h.given ++ byte ∷ []) ≡ next c (session_at k mid.state) byte
next_now {A} c Ready from s n k old mid i j a b byte h =
    after_snoc c (session_at from s) h.given byte (is_open c Ready from s n k old mid i j a b h)
    ∙ ap (λ (t : SessionState A). next c t byte) h.now

answered_all : {A : Type 0} (c : Conduct A) (Ready : A → State → Type 0) (from : A) (s : State) (n : ℕ) (k : A)
    (old mid new : MachineModel) (i j : Reading) (a b d : Writing) (byte : ℕ)
    (h : HasAnswered c Ready from s n k old mid i j a b)
    → DeliversAll (c.answered k mid.state byte) mid new b d
    → DeliversAll (answers c (session_at from s) (h.given ++ byte ∷ [])) old new a d
answered_all c Ready from s n k old mid new i j a b d byte h then =
    subst (λ (ps : List Piece). DeliversAll ps old new a d)
    (sym (answered_now c Ready from s n k old mid i j a b byte h))
    (delivers_on (answers c (session_at from s) h.given) (c.answered k mid.state byte) old mid new a b d h.delivers
    then)

-- the session after the byte
session_now : {A : Type 0} (c : Conduct A) (k k' : A) (mid new : MachineModel) (b d : Writing) (byte : ℕ)
    → DeliversAll (c.answered k mid.state byte) mid new b d → k' ≡ c.kept k mid.state byte
    → next c (session_at k mid.state) byte ≡ session_at k' new.state
session_now c k k' mid new b d byte then kept =
    ap (λ (u : State). session_at (c.kept k mid.state byte) u) (sym (ap (λ (m : MachineModel). m.state) then.stands))
    ∙ ap (λ x. session_at x new.state) (sym kept)

-- one byte more
pub answered_on : {A : Type 0} (c : Conduct A) (Ready : A → State → Type 0) (from : A) (s : State) (n : ℕ) (k k' : A)
    (old mid new : MachineModel) (i j l : Reading) (a b d : Writing) (byte : ℕ)
    → HasAnswered c Ready from s n k old mid i j a b → ReadsBytes (byte ∷ []) j l
    → DeliversAll (c.answered k mid.state byte) mid new b d → k' ≡ c.kept k mid.state byte → c.is_open k' ≡ true
    → Ready k' new.state → HasAnswered c Ready from s (n + 1) k' old new i l a d
answered_on c Ready from s n k k' old mid new i j l a b d byte h gave then kept goes ready = record {
  given = h.given ++ byte ∷ [];
  count = length-append h.given (byte ∷ []) ∙ ap (λ x. x + 1) h.count;
  reads_bytes = reads_more h.given (byte ∷ []) i j l h.reads_bytes gave;
  now = next_now c Ready from s n k old mid i j a b byte h ∙ session_now c k k' mid new b d byte then kept;
  reads_on = goes;
  delivers = answered_all c Ready from s n k old mid new i j a b d byte h then;
  ready = ready;
}

-- the session reads no further
pub closed : {A : Type 0} (c : Conduct A) (Ready : A → State → Type 0) (from : A) (s : State) (n : ℕ) (k k' : A)
    (old mid new : MachineModel) (i j l : Reading) (a b d : Writing) (byte : ℕ)
    → HasAnswered c Ready from s n k old mid i j a b → ReadsBytes (byte ∷ []) j l
    → DeliversAll (c.answered k mid.state byte) mid new b d → k' ≡ c.kept k mid.state byte → c.is_open k' ≡ false
    → HoldsSession (course_of c from s) old new i l a d
closed {A} c Ready from s n k k' old mid new i j l a b d byte h gave then kept shut = record {
  given = h.given ++ byte ∷ [];
  given_read = reads_more h.given (byte ∷ []) i j l h.reads_bytes gave;
  pieces = answers c (session_at from s) (h.given ++ byte ∷ []);
  ends = inr (inl (
    ap (λ (t : SessionState A). c.is_open t.kept)
        (next_now c Ready from s n k old mid i j a b byte h ∙ session_now c k k' mid new b d byte then kept) ∙ shut,
    refl,
  ));
  delivers = answered_all c Ready from s n k old mid new i j a b d byte h then;
}

-- the writer failed in the answer to a byte
pub cut_at : {A : Type 0} (c : Conduct A) (Ready : A → State → Type 0) (from : A) (s : State) (n : ℕ) (k : A)
    (old mid new : MachineModel) (i j l : Reading) (a b d : Writing) (byte : ℕ)
    → HasAnswered c Ready from s n k old mid i j a b → ReadsBytes (byte ∷ []) j l
    → DeliversPart (c.answered k mid.state byte) mid new b d → FailsToWrite (course_of c from s) old new i l a d
cut_at c Ready from s n k old mid new i j l a b d byte h gave part = record {
  given = h.given ++ byte ∷ [];
  given_read = reads_more h.given (byte ∷ []) i j l h.reads_bytes gave;
  delivers = inl
      (cut_before (answers c (session_at from s) (h.given ++ byte ∷ []))
      (end_answers c (after_bytes c (session_at from s) (h.given ++ byte ∷ []))) old new a d
      (subst (λ (ps : List Piece). DeliversPart ps old new a d)
      (sym (answered_now c Ready from s n k old mid i j a b byte h))
      (cut_on (answers c (session_at from s) h.given) (c.answered k mid.state byte) old mid new a b d h.delivers
      part)));
}

nothing_more : (given : List ℕ) (i j l : Reading) → ReadsBytes given i j → ReadsBytes [] j l → ReadsBytes given i l
nothing_more given i j l x y = subst (λ (bs : List ℕ). ReadsBytes bs i l) (append-nil given)
    (reads_more given [] i j l x y)

-- the end of the input
pub at_end : {A : Type 0} (c : Conduct A) (Ready : A → State → Type 0) (from : A) (s : State) (n : ℕ) (k : A)
    (old mid new : MachineModel) (i j l : Reading) (a b d : Writing) → HasAnswered c Ready from s n k old mid i j a b
    → ReadsBytes [] j l → IsAtEnd l.left → DeliversAll (c.at_end k mid.state) mid new b d
    → HoldsSession (course_of c from s) old new i l a d
at_end {A} c Ready from s n k old mid new i j l a b d h gave end then = record {
  given = h.given;
  given_read = nothing_more h.given i j l h.reads_bytes gave;
  pieces = (course_of c from s).all_answers h.given;
  ends = inl (end, refl);
  delivers = delivers_on (answers c (session_at from s) h.given)
      (end_answers c (after_bytes c (session_at from s) h.given)) old mid new
      a b d h.delivers
      (subst (λ (t : SessionState A). DeliversAll (end_answers c t) mid new b d) (sym h.now) then);
}

-- the writer failed in the answers at the end
pub cut_at_end : {A : Type 0} (c : Conduct A) (Ready : A → State → Type 0) (from : A) (s : State) (n : ℕ) (k : A)
    (old mid new : MachineModel) (i j l : Reading) (a b d : Writing) → HasAnswered c Ready from s n k old mid i j a b
    → ReadsBytes [] j l → DeliversPart (c.at_end k mid.state) mid new b d
    → FailsToWrite (course_of c from s) old new i l a d
cut_at_end {A} c Ready from s n k old mid new i j l a b d h gave part = record {
  given = h.given;
  given_read = nothing_more h.given i j l h.reads_bytes gave;
  delivers = inl
      (cut_on (answers c (session_at from s) h.given) (end_answers c (after_bytes c (session_at from s) h.given)) old
      mid new
      a b d h.delivers
      (subst (λ (t : SessionState A). DeliversPart (end_answers c t) mid new b d) (sym h.now) part));
}

-- the reader failed
missed : {A : Type 0} (c : Conduct A) (Ready : A → State → Type 0) (from : A) (s : State) (n : ℕ) (k : A)
    (old new : MachineModel) (i j l : Reading) (a b : Writing) → HasAnswered c Ready from s n k old new i j a b
    → Keeps j.left l.left → l.misses ≡ j.misses + 1 → FailsToRead (course_of c from s) old new i l a b
missed c Ready from s n k old new i j l a b h keeps more = record {
  given = h.given;
  gave = Consumes-kept i.left j.left l.left h.given h.reads_bytes.gave keeps;
  missed = more ∙ ap (λ x. x + 1) h.reads_bytes.quiet;
  delivers = h.delivers;
}

-- 2^64 - 1 bytes
pub spent : {A : Type 0} (c : Conduct A) (Ready : A → State → Type 0) (from : A) (s : State) (n : ℕ) (k : A)
    (old new : MachineModel) (i j : Reading) (a b : Writing) → HasAnswered c Ready from s n k old new i j a b
    → n ≡ 2 ^ 64 - 1 → HoldsSession (course_of c from s) old new i j a b
spent c Ready from s n k old new i j a b h all = record {
  given = h.given;
  given_read = h.reads_bytes;
  pieces = answers c (session_at from s) h.given;
  ends = inr (inr (h.count ∙ all, refl));
  delivers = h.delivers;
}

-- ---- what waits is sent

delivers_kept : (ps : List Piece) (old new : MachineModel) (a b c : Writing) → DeliversAll ps old new a b → KeepsPut b c
    → DeliversAll ps old new a c
delivers_kept ps old new a b c delivers kept = record {
  went = Appends-kept a.written b.written c.written (texts ps) delivers.went kept.0;
  stands = delivers.stands;
  quiet = kept.1 ∙ delivers.quiet;
}

-- the session after n bytes, once what waits was sent
pub answered_kept : {A : Type 0} (c : Conduct A) (Ready : A → State → Type 0) (from : A) (s : State) (n : ℕ) (k : A)
    (old new : MachineModel) (i j : Reading) (a b d : Writing) → HasAnswered c Ready from s n k old new i j a b
    → KeepsPut b d → HasAnswered c Ready from s n k old new i j a d
answered_kept c Ready from s n k old new i j a b d h kept = record {
  given = h.given;
  count = h.count;
  reads_bytes = h.reads_bytes;
  now = h.now;
  reads_on = h.reads_on;
  delivers = delivers_kept (answers c (session_at from s) h.given) old new a b d h.delivers kept;
  ready = h.ready;
}

then_failed : (ps : List Piece) (old new : MachineModel) (a b c : Writing) → DeliversAll ps old new a b → FailsOnce b c
    → DeliversAllThenFails ps old new a c
then_failed ps old new a b c delivers failed = record {
  put = Appends-kept a.written b.written c.written (texts ps) delivers.went failed.0;
  stands = delivers.stands;
  failed = failed.1 ∙ ap (λ x. x + 1) delivers.quiet;
}

so_far_of_end : (t : Course) (given : List ℕ) (l : Reading) (ps : List Piece) → Ends t given l ps
    → AreSoFar t given l ps
so_far_of_end t given l ps (inl (end, all)) = inr (end, all)
so_far_of_end t given l ps (inr (inl (shut, so_far))) = inl so_far
so_far_of_end t given l ps (inr (inr (count, so_far))) = inl so_far

-- a session that has ended sends what waits
pub ended : (t : Course) (old new : MachineModel) (i l : Reading) (a b c : Writing)
    (result : Result (Unit {0}) SessionError)
    → HoldsSession t old new i l a b → SendsRest b c result → Sessions t old new i l a c result × NothingWaits c result
ended t old new i l a b c (Ok done) h sends = (
  record {
    given = h.given;
    given_read = h.given_read;
    pieces = h.pieces;
    ends = h.ends;
    delivers = delivers_kept h.pieces old new a b c h.delivers sends.0;
  },
  sends.1,
)
ended t old new i l a b c (Err Read) h sends = absurd sends
ended t old new i l a b c (Err Write) h sends = (
  record {
    given = h.given;
    given_read = h.given_read;
    delivers = inr (record {
      pieces = h.pieces;
      so_far = so_far_of_end t h.given l h.pieces h.ends;
      delivers = then_failed h.pieces old new a b c h.delivers sends;
    });
  },
  tt,
)

-- the reader failed, or what waits couldn't be sent before it was called
pub not_taken : {A : Type 0} (c : Conduct A) (Ready : A → State → Type 0) (from : A) (s : State) (n : ℕ) (k : A)
    (old new : MachineModel) (i j l : Reading) (a b d : Writing) (error : SessionError)
    → HasAnswered c Ready from s n k old new i j a b → TakesNext j l b d (Err error)
    → Sessions (course_of c from s) old new i l a d (Err error) × NothingWaits d (Err error)
not_taken c Ready from s n k old new i j l a b d Read h takes = (
  missed c Ready from s n k old new i j l a d (answered_kept c Ready from s n k old new i j a b d h takes.2) takes.0
      takes.1,
  takes.3,
)
not_taken c Ready from s n k old new i j l a b d Write h takes = (
  record {
    given = h.given;
    given_read = subst (λ (r : Reading). ReadsBytes h.given i r) (sym takes.0) h.reads_bytes;
    delivers = inr (record {
      pieces = answers c (session_at from s) h.given;
      so_far = inl refl;
      delivers = then_failed (answers c (session_at from s) h.given) old new a b d h.delivers takes.1;
    });
  },
  tt,
)
