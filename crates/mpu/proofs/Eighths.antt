-- The eighths of the address space in which code may stand.
use Rattle.std.proofs.Common.{◌≡◌, ℕ, zero, suc, ◌<◌, refl, arith}
use Rattle.std.specs.Prelude.{◌||◌, ◌==◌, nat_lt}
use Rattle.instruction_set.specs.Words.{is_bit}

-- the bits of 0b0001_1011
pub executable_bits : (eighth : ℕ) → eighth < 8 → is_bit 27 eighth ≡ (nat_lt eighth 2 || (eighth == 3) || (eighth == 4))
executable_bits zero h = refl
executable_bits (suc zero) h = refl
executable_bits (suc (suc zero)) h = refl
executable_bits (suc (suc (suc zero))) h = refl
executable_bits (suc (suc (suc (suc zero)))) h = refl
executable_bits (suc (suc (suc (suc (suc zero))))) h = refl
executable_bits (suc (suc (suc (suc (suc (suc zero)))))) h = refl
executable_bits (suc (suc (suc (suc (suc (suc (suc zero))))))) h = refl
executable_bits (suc (suc (suc (suc (suc (suc (suc (suc eighth)))))))) h = absurd (omega arith)
