-- The registers of a list, one number after the other.
use Rattle.std.proofs.Common.{◌≡◌, ℕ, suc, ◌+◌, ◌-◌, ◌<◌, true, List, [], ◌∷◌, ◌++◌, length, drop, slice_index}
use Rattle.std.proofs.Common.{refl, sym, ap, append_assoc, append-nil, ◌∙◌, arith}
use Rattle.std.specs.List.{filter, range_with_len}
use Rattle.std.proofs.lemmas.List.{drop-drop, get_or-drop}
use Rattle.instruction_set.specs.Registers.{Registers, with_register}
use Rattle.instruction_set.specs.Words.{word_sum, is_bit}
use Rattle.platform.specs.declared.access.Kind.{Kind}
use Rattle.platform.specs.declared.access.Request.{Request}
use Rattle.reference.specs.LoadStoreMultiple.{registers_below, word_request, word_requests, loaded}

-- the registers of a list from one number on, below another
unfoldable pub registers_between : ℕ → ℕ → ℕ → List ℕ
registers_between list low top = filter (λ n. is_bit list n) (range_with_len low (top - low))

-- all of them
pub from_0 : (list top : ℕ) → registers_between list 0 top ≡ registers_below top list
unfolding registers_between registers_below
from_0 list top =
    let e : top - 0 ≡ top = omega arith in
    rw e refl

-- none is left at the end
pub from_top : (list top : ℕ) → registers_between list top top ≡ []
unfolding registers_between
from_top list top =
    let e : top - top ≡ 0 = omega arith in
    rw e refl

-- one that the list has comes first
pub listed : (list low top : ℕ) → low < top → is_bit list low ≡ true
    → registers_between list low top ≡ low ∷ registers_between list (low + 1) top
unfolding registers_between
listed list low top below has =
    let e : top - low ≡ suc (top - (low + 1)) = omega arith in
    rw (e, has) refl

-- ---- accesses

-- what the first register makes
requests_of_one : (kind : Kind) (address n : ℕ) (ns : List ℕ) (r : Registers)
    → word_requests kind address (n ∷ ns) r ≡ word_request kind address n r
    ∷ word_requests kind (word_sum address 4) ns r
unfolding word_requests
requests_of_one kind address n ns r = refl

-- no register makes none
requests_of_none : (kind : Kind) (address : ℕ) (r : Registers) → word_requests kind address [] r ≡ []
unfolding word_requests
requests_of_none kind address r = refl

-- no register comes after the last one, so no request
pub last_request : (kind : Kind) (address list low : ℕ) (r : Registers) (items whole : List Request) → low ≡ 16 →
    items ++ word_requests kind address (registers_between list low 16) r ≡ whole → items ≡ whole
last_request kind address list low r items whole end all =
    let none : word_requests kind address (registers_between list low 16) r ≡ [] =
    rw (end, from_top list 16, requests_of_none) refl in
    sym (append-nil items) ∙ ap (λ rest. items ++ rest) (sym none) ∙ all

-- a register that the list has makes one
pub listed_request : (kind : Kind) (address list low : ℕ) (r : Registers) (items : List Request) → low < 16
    → is_bit list low ≡ true →
    (items ++ word_request kind address low r ∷ [])
    ++ word_requests kind (word_sum address 4) (registers_between list (low + 1) 16) r
    ≡ items ++ word_requests kind address (registers_between list low 16) r
listed_request kind address list low r items below has =
    rw (listed list low 16 below has, requests_of_one)
    (append_assoc items (word_request kind address low r ∷ [])
    (word_requests kind (word_sum address 4) (registers_between list (low + 1) 16) r))

-- ---- values

-- the first register is given the first value
loaded_one : (n : ℕ) (ns values : List ℕ) (r : Registers)
    → loaded (n ∷ ns) values r ≡ loaded ns (drop 1 values) (with_register r n (slice_index values 0))
unfolding loaded
loaded_one n ns values r = refl

-- no register takes none
pub loaded_none : (values : List ℕ) (r : Registers) → loaded [] values r ≡ r
unfolding loaded
loaded_none values r = refl

-- a register that the list has is given the next value
pub listed_loaded : (list low place : ℕ) (values : List ℕ) (r : Registers) → low < 15 → is_bit list low ≡ true →
    loaded (registers_between list (low + 1) 15) (drop (place + 1) values)
    (with_register r low (slice_index values place))
    ≡ loaded (registers_between list low 15) (drop place values) r
listed_loaded list low place values r below has =
    let dropped : drop 1 (drop place values) ≡ drop (place + 1) values = drop-drop 1 place values in
    let first : slice_index (drop place values) 0 ≡ slice_index values place =
    let none : place + 0 ≡ place = omega arith in get_or-drop place values 0 0 ∙ ap (λ k. slice_index values k) none in
    rw (listed list low 15 below has, loaded_one, dropped, first) refl

-- ---- how many they are

-- a register that the list has is one of those left
pub listed_count : (list low : ℕ) → low < 15 → is_bit list low ≡ true →
    length (registers_between list low 15) ≡ length (registers_between list (low + 1) 15) + 1
listed_count list low below has = rw (listed list low 15 below has) (omega arith)

-- the accesses of two registers
pub two_requests : (kind : Kind) (address first second : ℕ) (r : Registers)
    → word_requests kind address (first ∷ second ∷ []) r
    ≡ word_request kind address first r ∷ word_request kind (word_sum address 4) second r ∷ []
unfolding word_requests
two_requests kind address first second r = refl
