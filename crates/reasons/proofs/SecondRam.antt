-- The size of a second RAM, and a number that is refused by one test and so by another.
use Rattle.std.proofs.Common.{◌≡◌, ◌∙◌, ℕ, ◌&&◌, Bool, true, false, if◌then◌else◌, Result, Ok, Err, ap, refl}
use Rattle.board.specs.Values.{where_ok}
use Rattle.platform.specs.Boards.{Numbers, is_apart, is_second_ram, is_second_size, is_whole_blocks}
use Rattle.platform.specs.Map.{is_for_memory}
use Rattle.platform.specs.declared.error.BoardError.{BoardError}
use Rattle.platform.specs.declared.error.BoardError.TheVariants.{OutOfRange}

-- a number that is refused by a test is refused by a narrower one
pub refused_too : (wide narrow : ℕ → Bool) (read : Result ℕ BoardError) (error : BoardError)
    → ((n : ℕ) → wide n ≡ false → narrow n ≡ false) → where_ok wide read ≡ Err error → where_ok narrow read ≡ Err error
refused_too wide narrow (Err other) error narrower refused = refused
refused_too wide narrow (Ok n) error narrower refused = lead (wide n) refl refused
  where
    lead : (b : Bool) → wide n ≡ b → (if b then Ok n else Err OutOfRange) ≡ Err error
        → where_ok narrow (Ok n) ≡ Err error
    lead true is refused = absurd cc
    lead false is refused = rw (narrower n is) refused

-- a second RAM has a size of one
pub no_second_ram : (numbers : Numbers) (base size : ℕ) → is_second_size size ≡ false
    → is_second_ram numbers (record { base = base; size = size }) ≡ false
no_second_ram numbers base size other_size =
    let other = is_for_memory base size && is_apart numbers (record { base = base; size = size }) in
    ap (λ (b : Bool). (is_whole_blocks base && b) && other) other_size ∙ lead (is_whole_blocks base) other
  where
    lead : (b c : Bool) → ((b && false) && c) ≡ false
    lead true c = refl
    lead false c = refl
