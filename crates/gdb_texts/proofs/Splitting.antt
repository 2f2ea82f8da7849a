-- A loop that splits a text at separators: what its index and the start of the part say of the parts that are left.
use Rattle.std.proofs.Common.{◌≡◌, ◌≢◌, ℕ, ◌+◌, ◌-◌, ◌<◌, ◌≤◌, List, [], ◌∷◌, ◌++◌, length, get_or, drop, refl}
use Rattle.std.proofs.Common.{Bool, true, false, ◌==◌, ◌∙◌, suc, add-one, arith, length-drop, sym}
use Rattle.std.proofs.Math.Bool.{or-false}
use Rattle.std.proofs.Math.ListN.{drop_of_length-le}
use Rattle.std.proofs.Math.Seq.{drop-cons, take-suc}
use Rattle.std.proofs.lemmas.Bool.{eq-eqb, ne_eqb}
use Rattle.std.proofs.lemmas.List.{get_or-drop}
use Rattle.std.specs.List.{list_any, slice_range}
use Rattle.gdb_texts.specs.Parts.{parts_from}

-- a separator ends a part
pub ended : (separator : ℕ) (part : List ℕ) (byte : ℕ) (bytes : List ℕ) → byte ≡ separator
    → parts_from separator part (byte ∷ bytes) ≡ part ∷ parts_from separator [] bytes
unfolding parts_from
ended separator part byte bytes is = let same : (byte == separator) ≡ true = eq-eqb byte separator is in rw same refl

-- the end of the text ends a part
pub at_end : (separator : ℕ) (part : List ℕ) → parts_from separator part [] ≡ part ∷ []
unfolding parts_from
at_end separator part = refl

-- any other byte is one more of the part
pub longer : (separator : ℕ) (part : List ℕ) (byte : ℕ) (bytes : List ℕ) → byte ≢ separator
    → parts_from separator part (byte ∷ bytes) ≡ parts_from separator (part ++ byte ∷ []) bytes
unfolding parts_from
longer separator part byte bytes differs =
    let other : (byte == separator) ≡ false = ne_eqb byte separator differs in rw other refl

-- a part with the byte at the index
pub range_longer : (text : List ℕ) (start index : ℕ) → start ≤ index → index < length text
    → slice_range text start index ++ get_or text index 0 ∷ [] ≡ slice_range text start (index + 1)
range_longer text start index order below =
    let more : index + 1 - start ≡ suc (index - start) = omega arith in
    let room : index - start < length (drop start text) = rw length-drop (omega arith) in
    let same : start + (index - start) ≡ index = omega arith in
    rw (more, take-suc (drop start text) (index - start) 0 room, get_or-drop, same) refl

pub at_separator : (text : List ℕ) (separator start index : ℕ) → index < length text
    → get_or text index 0 ≡ separator
    → parts_from separator (slice_range text start index) (drop index text)
    ≡ slice_range text start index ∷ parts_from separator [] (drop (index + 1) text)
at_separator text separator start index below is =
    rw (drop-cons text index 0 below, add-one) (ended separator _ _ _ is)

pub at_other : (text : List ℕ) (separator start index : ℕ) → start ≤ index → index < length text
    → get_or text index 0 ≢ separator
    → parts_from separator (slice_range text start index) (drop index text)
    ≡ parts_from separator (slice_range text start (index + 1)) (drop (index + 1) text)
at_other text separator start index order below differs =
    rw (sym (range_longer text start index order below), drop-cons text index 0 below, add-one)
    (longer separator _ _ _ differs)

-- ---- what is kept from one byte to the next: a value of the parts that are left

-- after a byte that isn't a separator
pub value_longer : {X : Type 0} (value : List (List ℕ) → X) (text : List ℕ) (start index : ℕ) (whole : X) (next : ℕ)
    → next ≡ start → start ≤ index → index < length text → get_or text index 0 ≢ 59
    → value (parts_from 59 (slice_range text start index) (drop index text)) ≡ whole
    → value (parts_from 59 (slice_range text next (index + 1)) (drop (index + 1) text)) ≡ whole
value_longer value text start index whole next e order below differs so =
    rw (e, sym (at_other text 59 start index order below differs)) so

-- at a separator
pub value_ended : {X : Type 0} (value : List (List ℕ) → X) (text : List ℕ) (start index : ℕ) (whole : X)
    → index < length text → get_or text index 0 ≡ 59
    → value (parts_from 59 (slice_range text start index) (drop index text)) ≡ whole
    → value (slice_range text start index ∷ parts_from 59 [] (drop (index + 1) text)) ≡ whole
value_ended value text start index whole below is so = rw (sym (at_separator text 59 start index below is)) so

-- after a separator: a part begins with no bytes
pub value_begun : {X : Type 0} (value : List (List ℕ) → X) (text : List ℕ) (index : ℕ) (whole : X) (next : ℕ)
    → next ≡ index + 1
    → value (parts_from 59 [] (drop (index + 1) text)) ≡ whole
    → value (parts_from 59 (slice_range text next (index + 1)) (drop (index + 1) text)) ≡ whole
value_begun value text index whole next e so =
    let none : index + 1 - (index + 1) ≡ 0 = omega arith in
    let empty : slice_range text next (index + 1) ≡ [] = rw (e, none) refl in
    rw empty so

-- at the end of the text
pub value_last : {X : Type 0} (value : List (List ℕ) → X) (text : List ℕ) (start index : ℕ) (whole : X)
    → length text ≤ index → index ≤ length text
    → value (parts_from 59 (slice_range text start index) (drop index text)) ≡ whole
    → value (slice_range text start (length text) ∷ []) ≡ whole
value_last value text start index whole end within so =
    let none : drop index text ≡ [] = drop_of_length-le text end in
    let all : index ≡ length text = omega arith in
    let e : parts_from 59 (slice_range text start index) (drop index text) ≡ slice_range text start (length text) ∷ []
    = rw (none, at_end, all) refl
    in rw (sym e) so

-- ---- whether a part passes a test

pub any_found : (test : List ℕ → Bool) (part : List ℕ) (parts : List (List ℕ)) (whole : Bool) → test part ≡ true
    → list_any test (part ∷ parts) ≡ whole → true ≡ whole
any_found test part parts whole passes so = rw (sym so, passes) refl

pub any_other : (test : List ℕ → Bool) (part : List ℕ) (parts : List (List ℕ)) (whole : Bool) → test part ≡ false
    → list_any test (part ∷ parts) ≡ whole → list_any test parts ≡ whole
any_other test part parts whole fails so =
    let e : list_any test (part ∷ parts) ≡ list_any test parts = rw fails refl in sym e ∙ so

pub any_last : (test : List ℕ → Bool) (part : List ℕ) (whole : Bool) → list_any test (part ∷ []) ≡ whole
    → test part ≡ whole
any_last test part whole so =
    let e : list_any test (part ∷ []) ≡ test part = or-false (test part) in sym e ∙ so
