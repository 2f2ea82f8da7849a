-- One word of a device (profile): its content, the value that it reads as, and what a store leaves.
use Rattle.std.specs.Prelude.{ℕ, ◌+◌, ◌-◌, ◌*◌, ◌%◌, ◌^◌, if◌then◌else◌, bit_and, bit_or}
use Rattle.devices.specs.declared.device.Device.{Device}
use Rattle.devices.specs.declared.device.Stores.{Stores}
use Rattle.devices.specs.declared.device.Stores.TheVariants.{Kept, Ignored, OnesClear, ZerosClear}

-- a number without the bits of a mask
abbrev pub without : ℕ → ℕ → ℕ
without v mask = bit_and v (2 ^ 32 - 1 - mask)

-- the bits of one number where a mask has them, and those of another elsewhere
abbrev pub chosen : ℕ → ℕ → ℕ → ℕ
chosen mask there elsewhere = bit_or (without elsewhere mask) (bit_and there mask)

-- the content of a word: what is stored and, where it counts, the ticks since the start
abbrev pub content_of : Device → ℕ → ℕ → ℕ
content_of d ticks stored = if d.counts then (stored + ticks) % 2 ^ 32 else stored

-- what is stored where a word gets a content: where it counts, without the ticks since the start
abbrev pub stored_for : Device → ℕ → ℕ → ℕ
stored_for d ticks content = if d.counts then (content + (2 ^ 32 - ticks % 2 ^ 32)) % 2 ^ 32 else content

-- the value of a word with this content, where the content that its bits follow is that one: bits that follow read the
-- bits `by` places below them; then ones read 1, and zeros read 0
abbrev pub value_of : Device → ℕ → ℕ → ℕ
value_of d content followed =
    without (bit_or (chosen d.follows (followed * 2 ^ d.by % 2 ^ 32) content) d.ones) d.zeros

-- what a store of a whole word leaves of a content
abbrev pub after_store : Stores → ℕ → ℕ → ℕ
after_store Kept content value = value
after_store Ignored content value = content
after_store OnesClear content value = without content value
after_store ZerosClear content value = bit_and content value

-- what a store leaves of a content where it covers the bits of a mask
abbrev pub content_after : Device → ℕ → ℕ → ℕ → ℕ
content_after d content mask value = chosen mask (after_store d.stores content value) content
