-- The bytes from GDB, and the packets among them (GDB manual, "Overview" of the Remote Serial Protocol).
use Rattle.std.specs.Prelude.{ℕ, ◌+◌, ◌%◌, nat_lt, Bool, false, ◌==◌, if◌then◌else◌, List, [], ◌∷◌, ◌++◌}
use Rattle.std.specs.Prelude.{length, Option, Some, None}
use Rattle.gdb_packets.specs.Digits.{byte_of}
use Rattle.gdb_packets.specs.Escapes.{dollar, hash, unescaped}
use Rattle.gdb_packets.specs.declared.framer.Event.{Event}
use Rattle.gdb_packets.specs.declared.framer.Event.TheVariants as event
use Rattle.gdb_packets.specs.declared.framer.Place.{Place}
use Rattle.gdb_packets.specs.declared.framer.Place.TheVariants.{Outside, Inside, FirstDigit, SecondDigit}

-- the most bytes between `$` and `#`, escapes counted (profile)
abbrev pub max_bytes : ℕ
max_bytes = 4096

pub record Framing : Type 0 where
  -- where the next byte is
  pub place : Place
  -- the bytes since `$`, None where there are more than 4,096
  pub raw : Option (List ℕ)
  -- the sum of the bytes since `$`, modulo 256
  pub checksum : ℕ
  -- the data of the last packet that was whole
  pub content : List ℕ

abbrev pub at_start : Framing
at_start = record { place = Outside; raw = Some []; checksum = 0; content = [] }

-- `$` begins a packet, also within another
abbrev pub begun : Framing → Framing
begun f = record f { place = Inside; raw = Some []; checksum = 0 }

abbrev pub with_raw : Option (List ℕ) → ℕ → Option (List ℕ)
with_raw None byte = None
with_raw (Some raw) byte = if nat_lt (length raw) max_bytes then Some (raw ++ byte ∷ []) else None

abbrev pub with_byte : Framing → ℕ → Framing
with_byte f byte = record f { raw = with_raw f.raw byte; checksum = (f.checksum + byte) % 256 }

-- whether two digits are a checksum
abbrev pub is_checksum : ℕ → Option ℕ → Bool
is_checksum checksum None = false
is_checksum checksum (Some byte) = byte == checksum

-- a packet whose checksum is right
abbrev pub whole_event : Option (List ℕ) → Event
whole_event None = event.TooLong
whole_event (Some raw) = event.Packet

-- the event of a packet's second digit
abbrev pub end_event : Framing → ℕ → ℕ → Event
end_event f first second =
    if is_checksum f.checksum (byte_of first second) then whole_event f.raw else event.WrongChecksum

-- the byte of Ctrl-C
abbrev pub interrupt : ℕ
interrupt = 3

-- `+`
abbrev pub plus : ℕ
plus = 43

-- `-`
abbrev pub minus : ℕ
minus = 45

-- the event of a byte outside packets
abbrev pub outside_event : ℕ → Event
outside_event byte =
    if byte == interrupt then event.Interrupt
    else if byte == plus then event.Acknowledgement
    else if byte == minus then event.Rejection
    else event.Nothing

abbrev pub event_at : Place → Framing → ℕ → Event
event_at Outside f byte = outside_event byte
event_at Inside f byte = event.Nothing
event_at FirstDigit f byte = event.Nothing
event_at (SecondDigit first) f byte = end_event f first byte

-- what a byte makes
abbrev pub event_of : Framing → ℕ → Event
event_of f byte = event_at f.place f byte

abbrev pub after_outside : Framing → ℕ → Framing
after_outside f byte = if byte == dollar then begun f else f

abbrev pub after_inside : Framing → ℕ → Framing
after_inside f byte =
    if byte == dollar then begun f
    else if byte == hash then record f { place = FirstDigit }
    else with_byte f byte

abbrev pub content_of : List ℕ → Option (List ℕ) → List ℕ
content_of last None = last
content_of last (Some raw) = unescaped raw

-- the data after the second digit: the last packet's where this one isn't whole
abbrev pub end_content : Framing → ℕ → ℕ → List ℕ
end_content f first second =
    if is_checksum f.checksum (byte_of first second) then content_of f.content f.raw else f.content

abbrev pub after_end : Framing → ℕ → ℕ → Framing
after_end f first second = record f { place = Outside; content = end_content f first second }

abbrev pub after_at : Place → Framing → ℕ → Framing
after_at Outside f byte = after_outside f byte
after_at Inside f byte = after_inside f byte
after_at FirstDigit f byte = record f { place = SecondDigit byte }
after_at (SecondDigit first) f byte = after_end f first byte

-- the framing after a byte
abbrev pub after : Framing → ℕ → Framing
after f byte = after_at f.place f byte
