-- A word that is written to memory is read back, by its bytes.
use Rattle.std.proofs.Common.{◌≡◌, ℕ, ◌+◌, ◌-◌, ◌^◌, ◌<◌, ◌≤◌, Bool, true, false, List, [], ◌∷◌, length, get_or}
use Rattle.std.proofs.Common.{Option, Some, None, slice_index, refl, sym, ◌∙◌, ap, arith}
use Rattle.std.proofs.lemmas.Bool.Decides.{nat_tests}
use Rattle.platform.specs.Memory.{Block, Memory, block_at, block_with, byte_at, bytes_of, holds, is_in_memory}
use Rattle.platform.specs.Memory.{number_at, number_in, overwritten, with_bytes}
use Rattle.platform.specs.SystemInvariant.{IsApartFrom, IsLaidOut}
use Rattle.physical_memory.proofs.Bytes.{length-with_bytes, written_in}
use Rattle.physical_memory.proofs.Restoring.{not_here, over_here, over_later}

-- the bytes at an address are those of a word
abbrev pub IsWord : Memory → ℕ → ℕ → Type 0
IsWord m a v = (k : ℕ) → k < 4 → byte_at m (a + k) ≡ Some (get_or (bytes_of 4 v) k 0)

-- a byte of the first block, or of a later one
byte_here : (b : Block) (m : Memory) (x : ℕ) → holds b x 1 ≡ true →
    byte_at (b ∷ m) x ≡ Some (slice_index b.bytes (x - b.base))
byte_here b m x e = rw e refl

byte_later : (b : Block) (m : Memory) (x : ℕ) → holds b x 1 ≡ false → byte_at (b ∷ m) x ≡ byte_at m x
byte_later b m x e = rw e refl

-- ---- what was written

written_by : (b : Block) (m : Memory) (a k : ℕ) (bytes : List ℕ) → IsApartFrom b m →
    is_in_memory (b ∷ m) a (length bytes) ≡ true → k < length bytes →
    (is_in_memory m a (length bytes) ≡ true → byte_at (overwritten m a bytes) (a + k) ≡ Some (get_or bytes k 0)) →
    (here : Bool) → holds b a (length bytes) ≡ here →
    byte_at (overwritten (b ∷ m) a bytes) (a + k) ≡ Some (get_or bytes k 0)
written_by b m a k bytes apart there below rest true e =
    let fits : (a - b.base) + length bytes ≤ length b.bytes = grind (arith, nat_tests, e) in
    let size = length-with_bytes b.bytes bytes (a - b.base) fits in
    let inside : holds (block_with b a bytes) (a + k) 1 ≡ true = rw size (grind (arith, nat_tests, e, below)) in
    let place : a + k - b.base ≡ (a - b.base) + k = grind (arith, nat_tests, e) in
    ap (λ w. byte_at w (a + k)) (over_here b m a bytes e)
    ∙ byte_here (block_with b a bytes) m (a + k) inside
    ∙ ap (λ i. Some (slice_index (with_bytes b.bytes (a - b.base) bytes) i)) place
    ∙ ap Some (written_in b.bytes bytes (a - b.base) k fits below)
written_by b m a k bytes apart there below rest false e =
    let later : is_in_memory m a (length bytes) ≡ true = rw e at there in
    let out : holds b (a + k) 1 ≡ false =
    not_here b m a (length bytes) (a + k) 1 apart later (omega arith) (omega (arith, below)) (omega arith) in
    ap (λ w. byte_at w (a + k)) (over_later b m a bytes e)
    ∙ byte_later b (overwritten m a bytes) (a + k) out
    ∙ rest later

-- each of the bytes is there
byte_written : (m : Memory) (a k : ℕ) (bytes : List ℕ) → IsLaidOut m → is_in_memory m a (length bytes) ≡ true →
    k < length bytes → byte_at (overwritten m a bytes) (a + k) ≡ Some (get_or bytes k 0)
byte_written [] a k bytes laid there below = absurd cc
byte_written (b ∷ m) a k bytes laid there below =
    written_by b m a k bytes laid.1 there below (λ later. byte_written m a k bytes laid.2 later below) _ refl

pub word_written : (m : Memory) (a v : ℕ) → IsLaidOut m → is_in_memory m a 4 ≡ true →
    IsWord (overwritten m a (bytes_of 4 v)) a v
word_written m a v laid there k below = byte_written m a k (bytes_of 4 v) laid there below

-- ---- what is read

in_block : (base a v : ℕ) (block : List ℕ) → base ≤ a → v < 2 ^ 32 →
    ((k : ℕ) → k < 4 → get_or block (a + k - base) 0 ≡ get_or (bytes_of 4 v) k 0) → number_in block (a - base) 4 ≡ v
in_block base a v block above small bytes =
    let p0 : a + 0 - base ≡ a - base = omega arith in
    let p1 : a + 1 - base ≡ a - base + 1 = omega arith in
    let p2 : a + 2 - base ≡ a - base + 1 + 1 = omega arith in
    let p3 : a + 3 - base ≡ a - base + 1 + 1 + 1 = omega arith in
    let b0 = ap (λ i. get_or block i 0) (sym p0) ∙ bytes 0 (omega arith) in
    let b1 = ap (λ i. get_or block i 0) (sym p1) ∙ bytes 1 (omega arith) in
    let b2 = ap (λ i. get_or block i 0) (sym p2) ∙ bytes 2 (omega arith) in
    let b3 = ap (λ i. get_or block i 0) (sym p3) ∙ bytes 3 (omega arith) in
    rw (b0, b1, b2, b3) (omega arith)

same_some : (x y : ℕ) → Some x ≡ Some y → x ≡ y
same_some x y e = cc

found_by : (b c : Block) (m : Memory) (a n k : ℕ) → IsApartFrom b m → block_at (b ∷ m) a n ≡ Some c → k < n →
    (block_at m a n ≡ Some c → byte_at m (a + k) ≡ Some (slice_index c.bytes (a + k - c.base))) →
    (here : Bool) → holds b a n ≡ here → byte_at (b ∷ m) (a + k) ≡ Some (slice_index c.bytes (a + k - c.base))
found_by b c m a n k apart found below rest true e =
    let first : Some b ≡ Some c = rw e at found in
    let same : b ≡ c = cc in
    let inside : holds b (a + k) 1 ≡ true = grind (arith, nat_tests, e, below) in
    byte_here b m (a + k) inside ∙ ap (λ (d : Block). Some (slice_index d.bytes (a + k - d.base))) same
found_by b c m a n k apart found below rest false e =
    let later : block_at m a n ≡ Some c = rw e at found in
    let there : is_in_memory m a n ≡ true = rw later refl in
    let out : holds b (a + k) 1 ≡ false =
    not_here b m a n (a + k) 1 apart there (omega arith) (omega (arith, below)) (omega arith) in
    byte_later b m (a + k) out ∙ rest later

-- each byte of what is found
byte_found : (m : Memory) (c : Block) (a n k : ℕ) → IsLaidOut m → block_at m a n ≡ Some c → k < n →
    byte_at m (a + k) ≡ Some (slice_index c.bytes (a + k - c.base))
byte_found [] c a n k laid found below = absurd cc
byte_found (b ∷ m) c a n k laid found below =
    found_by b c m a n k laid.1 found below (λ later. byte_found m c a n k laid.2 later below) _ refl

holding_by : (b c : Block) (m : Memory) (a n : ℕ) → block_at (b ∷ m) a n ≡ Some c →
    (block_at m a n ≡ Some c → holds c a n ≡ true) → (here : Bool) → holds b a n ≡ here → holds c a n ≡ true
holding_by b c m a n found rest true e =
    let first : Some b ≡ Some c = rw e at found in
    let same : b ≡ c = cc in
    rw (← same) e
holding_by b c m a n found rest false e = rest (rw e at found)

-- what is found has the bytes
found_holds : (m : Memory) (c : Block) (a n : ℕ) → block_at m a n ≡ Some c → holds c a n ≡ true
found_holds [] c a n found = absurd cc
found_holds (b ∷ m) c a n found =
    holding_by b c m a n found (found_holds m c a n) _ refl

read_by : (m : Memory) (a x v : ℕ) (found : Option Block) → block_at m a 4 ≡ found → IsLaidOut m →
    number_at m a 4 ≡ Some x → IsWord m a v → v < 2 ^ 32 → x ≡ v
read_by m a x v None f laid is word small = absurd cc (rw f at is)
read_by m a x v (Some b) f laid is word small =
    let number = rw f at is in
    let above : b.base ≤ a = let held = found_holds m b a 4 f in grind (arith, nat_tests, held) in
    let bytes : (k : ℕ) → k < 4 → get_or b.bytes (a + k - b.base) 0 ≡ get_or (bytes_of 4 v) k 0 =
    λ k below. same_some _ _ (sym (byte_found m b a 4 k laid f below) ∙ word k below) in
    sym (same_some _ _ number) ∙ in_block b.base a v b.bytes above small bytes

-- the number that is read there is the word
pub word_read : (m : Memory) (a x v : ℕ) → IsLaidOut m → number_at m a 4 ≡ Some x → IsWord m a v → v < 2 ^ 32 →
    x ≡ v
word_read m a x v laid is word small = read_by m a x v _ refl laid is word small
