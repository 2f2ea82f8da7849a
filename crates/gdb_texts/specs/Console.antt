-- Text for GDB's console (GDB manual, "Stop Reply Packets", O): the firmware's output, lines of a trace, and answers of
-- `monitor`.
use Rattle.std.specs.Prelude.{ℕ, Bool, ◌==◌, if◌then◌else◌, List, [], ◌∷◌, ◌++◌, length}
use Rattle.gdb_packets.specs.Replies.{packet_of}
use Rattle.gdb_texts.specs.Bytes.{bytes_text}

-- the most bytes of text in a packet, so that its data has at most 4,095 bytes (profile)
abbrev pub max_text : ℕ
max_text = 2047

abbrev pub is_full : List ℕ → Bool
is_full text = length text == max_text

-- the packet of some text
abbrev pub console_packet : List ℕ → List ℕ
console_packet text = packet_of (79 ∷ bytes_text text)  -- O

-- ---- text goes out as soon as 2,047 bytes of it wait (profile)

pub record Waiting : Type 0 where
  -- the texts that were sent
  pub sent : List (List ℕ)
  -- the text that waits
  pub text : List ℕ

-- the text that waits is sent, where there is one
abbrev pub flushed : Waiting → Waiting
flushed w = if length w.text == 0 then w else record { sent = w.sent ++ w.text ∷ []; text = [] }

abbrev pub if_full : Waiting → Waiting
if_full w = if is_full w.text then flushed w else w

-- after a byte of text
abbrev pub waiting_with : Waiting → ℕ → Waiting
waiting_with w byte = if_full (record w { text = w.text ++ byte ∷ [] })

-- after some text
unfoldable pub waiting_after : Waiting → List ℕ → Waiting
waiting_after w [] = w
waiting_after w (byte ∷ bytes) = waiting_after (waiting_with w byte) bytes

-- the packets of texts, one after another
unfoldable pub console_packets : List (List ℕ) → List ℕ
console_packets [] = []
console_packets (text ∷ texts) = console_packet text ++ console_packets texts
