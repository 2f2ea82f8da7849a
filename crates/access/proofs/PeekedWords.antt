-- What the bus would return to a load of a word by privileged code.
use Rattle.std.proofs.Common.{◌≡◌, ℕ, ◌/◌, ◌*◌, ◌^◌, ◌<◌, ◌==◌, Bool, true, false, Option, Some}
use Rattle.std.proofs.Common.{None, if◌then◌else◌, not, ◌&&◌, refl, sym, ap, arith}
use Rattle.devices.specs.Devices.{read_at}
use Rattle.devices.specs.Laws.{has_device_at}
use Rattle.instruction_set.specs.declared.size.Size.TheVariants.{Word}
use Rattle.platform.specs.declared.access.Rule.TheVariants.{MpuOff}
use Rattle.platform.specs.declared.system.SystemRegister.{SystemRegister}
use Rattle.platform.specs.declared.system.SystemRegister.TheVariants as register
use Rattle.access.specs.Peek.{value_read, word_load, word_of_window, word_outside, peek_word}
use Rattle.platform.specs.Map.{is_in_ppb, is_in_window, tick_register}
use Rattle.platform.specs.Memory.{Memory, is_in_memory, number_at}
use Rattle.platform.specs.Outcomes.{done, within}
use Rattle.platform.specs.Space.{number_read, read_from, memory_access}
use Rattle.platform.specs.System.{System, device_access, has_width, part_of, register_access, register_at}
use Rattle.platform.specs.System.{system_access, word_at}
use Rattle.reference.specs.Accesses.{carried_out}
use Rattle.reference.specs.State.{Bus}

-- each register takes words
takes_words : (which : SystemRegister) → has_width which Word ≡ true
unfolding has_width
takes_words (register.SysTick which) = refl
takes_words (register.Interrupts which k) = refl
takes_words (register.Priorities first) = refl
takes_words (register.Control which) = refl
takes_words (register.Status which) = refl
takes_words (register.Mpu which) = refl
takes_words register.Unlisted = refl

register_read : (x : ℕ) (s : System) (a : ℕ) (which : SystemRegister)
    → (register_access x s MpuOff (word_load a) which).performed
    ≡ done MpuOff (part_of (word_load a) (word_at x s which))
unfolding register_access
register_read x s a which = rw (takes_words which) refl

whole : (a word : ℕ) → word < 2 ^ 32 → part_of (word_load a) word ≡ word
whole a word h = omega arith

pub peek_in_ppb : (x : ℕ) (b : Bus) (a word : ℕ) → a / 4 * 4 ≡ a → is_in_ppb a ≡ true → word < 2 ^ 32
    → word ≡ word_at x b.system (register_at (a / 4 * 4)) → peek_word x b a ≡ Some word
unfolding peek_word carried_out system_access
peek_in_ppb x b a word even ppb small is =
    rw (ppb, register_read x b.system a (register_at (a / 4 * 4)), ← is) (ap Some (whole a word small))

number_peeked : (o : Option ℕ) → value_read (number_read MpuOff o) ≡ o
number_peeked None = refl
number_peeked (Some word) = refl

-- the word that the window or memory has
abbrev word_without_devices : Memory → ℕ → ℕ → Option ℕ
word_without_devices m ticks a = if is_in_window a then word_of_window ticks a else number_at m a 4

read_outside : (m : Memory) (ticks a : ℕ) (in_it tick : Bool) → is_in_window a ≡ in_it → (a == tick_register) ≡ tick
    → value_read (read_from m ticks MpuOff (word_load a)) ≡ word_without_devices m ticks a
read_outside m ticks a true true w t = rw (w, t) refl
read_outside m ticks a true false w t = rw (w, t) refl
read_outside m ticks a false tick w t = rw w (number_peeked (number_at m a 4))

pub peek_elsewhere : (x : ℕ) (b : Bus) (a : ℕ) → is_in_ppb a ≡ false → word_outside b a ≡ peek_word x b a
unfolding peek_word carried_out memory_access device_access
peek_elsewhere x b a ppb = rw ppb (by (not (is_in_memory b.memory a 4) && has_device_at b.system.devices a))
  where
    by : (device : Bool)
        → (if device then read_at b.system.devices b.system.time.ticks a Word
        else word_without_devices b.memory b.system.time.ticks a)
        ≡ value_read (if device
        then within (λ system. record b { system = system }) (device_access b.system MpuOff (word_load a))
        else within (λ memory. record b { memory = memory })
        (memory_access b.memory b.system.time.ticks MpuOff (word_load a))).performed
    by true = sym (number_peeked (read_at b.system.devices b.system.time.ticks a Word))
    by false =
        sym (read_outside b.memory b.system.time.ticks a (is_in_window a) (a == tick_register) refl refl)
