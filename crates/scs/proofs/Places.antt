-- The bytes that an access writes lie within its word.
use Rattle.std.proofs.Common.{◌≡◌, ℕ, zero, suc, ◌*◌, ◌/◌, ◌%◌, ◌^◌, ◌<◌, arith}
use Rattle.instruction_set.specs.declared.size.Size.{Size}
use Rattle.instruction_set.specs.declared.size.Size.TheVariants.{Byte, Halfword, Word}
use Rattle.instruction_set.specs.Sizes.{bytes_in}
use Rattle.platform.specs.System.{first_byte}

byte_within : (v k : ℕ) → v < 256 → k < 4 → v * 2 ^ (8 * k) < 2 ^ 32
byte_within v zero small few = omega arith
byte_within v (suc zero) small few = omega arith
byte_within v (suc (suc zero)) small few = omega arith
byte_within v (suc (suc (suc zero))) small few = omega arith
byte_within v (suc (suc (suc (suc k)))) small few = absurd (omega arith)

halfword_within : (v k : ℕ) → v < 65536 → k < 2 → v * 2 ^ (8 * (k * 2)) < 2 ^ 32
halfword_within v zero small few = omega arith
halfword_within v (suc zero) small few = omega arith
halfword_within v (suc (suc k)) small few = absurd (omega arith)

within : (size : Size) (address v : ℕ) → v % 256 ^ bytes_in size * 2 ^ (8 * first_byte size address) < 2 ^ 32
within Byte address v = byte_within (v % 256) (address % 4) (omega arith) (omega arith)
within Halfword address v = halfword_within (v % 65536) (address / 2 % 2) (omega arith) (omega arith)
within Word address v = omega arith

pub placed : (size : Size) (address v : ℕ)
    → v % 256 ^ bytes_in size * 2 ^ (8 * first_byte size address) % 2 ^ 32
    ≡ v % 256 ^ bytes_in size * 2 ^ (8 * first_byte size address)
placed size address v = let small = within size address v in omega arith
