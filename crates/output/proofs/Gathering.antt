-- Lines that wait on a page, after the bytes that a writer took.
use Rattle.std.proofs.Common.{◌≡◌, ℕ, ◌+◌, ◌<◌, ◌≤◌, List, [], ◌∷◌, ◌++◌, length, take, drop, Option, Some, None}
use Rattle.std.proofs.Common.{Result, Ok, Err, refl, sym, ap, ◌∙◌, append_assoc, arith, length-append}
use Rattle.std.proofs.KnownBytes.{Appends-nil, Appends-kept, Keeps-trans, append_known-kept, append_known-moved}
use Rattle.std.proofs.KnownBytes.{append_known-passed}
use Rattle.std.proofs.lemmas.List.{take-append-drop, drop-append-le, drop-drop, append-nil}
use Rattle.std.specs.Io.KnownBytes.{Appends, Keeps, append_known}
use Rattle.platform.specs.declared.event.Event.{Event}
use Rattle.platform.specs.Events.{line}
use Rattle.output.specs.Output.{FlushesAll, IsCutShort, Took, Writing, with_page}

-- the writer took n more bytes of the page
pub moved_on : (start mid new : Option (List ℕ)) (page rest : List ℕ) (at n : ℕ)
    → Keeps start (append_known mid (drop at page)) → rest ≡ drop at page → Appends mid new (take n rest)
    → Keeps start (append_known new (drop (at + n) page))
moved_on start mid new page rest at n kept same took =
    let moved = append_known-moved mid new (take n rest) (drop n rest) rest took (sym (take-append-drop n rest)) in
    let goes : drop n rest ≡ drop (at + n) page = rw same (drop-drop n at page) in
    Keeps-trans start _ _ kept (rw (← goes, ← same) moved)

-- a page that was handed on has nothing left
pub emptied : (page : List ℕ) (at : ℕ) → (page ≡ []) × (at ≡ 0) → drop at page ≡ []
emptied page at (none, start) = rw (none, start) refl

-- a call below, while nothing waits
pub passed_on : {E : Type 0} (start mid new : Writing) (page bytes : List ℕ) (result : Result ℕ E)
    → Keeps start.written (append_known mid.written page) → page ≡ [] → mid.errors ≡ start.errors
    → Took mid new bytes result
    → Took start (with_page page new) bytes result
passed_on start mid new page bytes (Ok taken) kept none same took = (
  took.0,
  rw append-nil at (append_known-passed start.written mid.written new.written page page (take taken bytes) [] kept none
      took.1 (sym (append-nil page))),
  rw same at took.2,
)
passed_on start mid new page bytes (Err error) kept none same took =
    (Keeps-trans start.written _ _ kept (append_known-kept mid.written new.written page took.0), rw same at took.1)

-- what waits below is handed on, while nothing waits on the page
pub flushed_all : {E : Type 0} (start mid new : Writing) (page : List ℕ) (result : Result (Unit {0}) E)
    → Keeps start.written (append_known mid.written page) → page ≡ [] → mid.errors ≡ start.errors
    → FlushesAll mid new result
    → FlushesAll start (with_page page new) result
flushed_all start mid new page (Ok done) kept none same took = (
  Keeps-trans start.written _ _ kept (append_known-kept mid.written new.written page took.0),
  took.1 ∙ same,
  rw none (append-nil new.waits ∙ took.2),
)
flushed_all start mid new page (Err error) kept none same took =
    (Keeps-trans start.written _ _ kept (append_known-kept mid.written new.written page took.0), rw same at took.1)

some_bytes : (old new : Option (List ℕ)) (text : List ℕ) → 0 < length text → Keeps old new → IsCutShort old new text
some_bytes old new [] some kept = absurd (let wrong : 0 < 0 = some in omega arith)
some_bytes old new (byte ∷ later) some kept = record {
  front = [];
  byte = byte;
  later = later;
  whole = refl;
  went = Appends-kept old old new [] (Appends-nil old) kept;
}

some_line : (e : Event) → 0 < length (line e)
unfolding line
some_line e = simp length-append (omega arith)

-- none of a line was taken
pub no_line_taken : (old new : Option (List ℕ)) (e : Event) → Keeps old new → IsCutShort old new (line e)
no_line_taken old new e kept = some_bytes old new (line e) (some_line e) kept

-- a byte was not taken
pub no_byte_taken : (old new : Option (List ℕ)) (byte : ℕ) → Keeps old new → IsCutShort old new (byte ∷ [])
no_byte_taken old new byte kept = some_bytes old new (byte ∷ []) (omega arith) kept

-- a text was put on the page
pub put_on_page : (known : Option (List ℕ)) (page new text : List ℕ) (at : ℕ) → at ≤ length page → new ≡ page ++ text
    → Appends (append_known known (drop at page)) (append_known known (drop at new)) text
put_on_page None page new text at within is = tt
put_on_page (Some xs) page new text at within is =
    ap (λ (bytes : List ℕ). xs ++ drop at bytes) is
    ∙ ap (λ (rest : List ℕ). xs ++ rest) (drop-append-le at page text within)
    ∙ sym (append_assoc xs (drop at page) text)
