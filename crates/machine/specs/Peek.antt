-- What a debugger sees of the address space, byte by byte (profile).
use Rattle.std.specs.Prelude.{ℕ, ◌*◌, ◌/◌, ◌%◌, ◌^◌, Option, option_map}
use Rattle.access.specs.Peek.{peek_word}
use Rattle.reference.specs.State.{State}

-- byte k of a word, from the lowest
abbrev pub byte_of_word : ℕ → ℕ → ℕ
byte_of_word k word = word / 2 ^ (8 * k) % 256

-- the byte at an address: that of the word that a load by privileged code would return there now, whose effect it
-- hasn't; none where the bus would refuse that load. The MPU isn't asked
abbrev pub peek_byte : State → ℕ → Option ℕ
peek_byte s a = option_map (λ word. byte_of_word (a % 4) word) (peek_word s.registers.exception s.bus (a / 4 * 4))
