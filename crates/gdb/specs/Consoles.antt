-- The text of a run on its way to GDB's console: it is sent as soon as it fills a packet (profile).
use Rattle.std.specs.Prelude.{◌≡◌, ℕ, ◌+◌, ◌==◌, if◌then◌else◌, List, [], ◌∷◌, ◌++◌, length, Option, Some}
use Rattle.std.specs.Prelude.{Result, Ok, Err}
use Rattle.gdb_texts.specs.Console.{console_packet, is_full}
use Rattle.output.specs.Output.{IsCutShort, WritesAll, Writing}

-- the text that waits for its packet, and the last byte of the run's text
pub record Console : Type 0 where
  pub waiting : List ℕ
  pub last : Option ℕ

abbrev pub console_from : Option ℕ → Console
console_from last = record { waiting = []; last = last }

abbrev pub emptied : Console → Console
emptied c = record c { waiting = [] }

abbrev pub with_byte : Console → ℕ → Console
with_byte c byte = record { waiting = c.waiting ++ byte ∷ []; last = Some byte }

-- a full packet is sent at once

abbrev pub if_full : Console → Console
if_full c = if is_full c.waiting then emptied c else c

abbrev pub packet_if_full : Console → List ℕ
packet_if_full c = if is_full c.waiting then console_packet c.waiting else []

-- after one more byte
abbrev pub console_with : Console → ℕ → Console
console_with c byte = if_full (with_byte c byte)

abbrev pub sent_with : Console → ℕ → List ℕ
sent_with c byte = packet_if_full (with_byte c byte)

-- after more text
unfoldable pub console_after : Console → List ℕ → Console
console_after c [] = c
console_after c (byte ∷ bytes) = console_after (console_with c byte) bytes

-- the packets that it fills
unfoldable pub sent_by : Console → List ℕ → List ℕ
sent_by c [] = []
sent_by c (byte ∷ bytes) = sent_with c byte ++ sent_by (console_with c byte) bytes

-- the packet of what waits, where there is text
abbrev pub flush_text : Console → List ℕ
flush_text c = if length c.waiting == 0 then [] else console_packet c.waiting

-- more text was put, and the packets that it fills went out
abbrev pub Shown : Writing → Writing → Console → Console → List ℕ → Type 0
Shown out out' c c' text = WritesAll out out' (sent_by c text) × (c' ≡ console_after c text)

-- a call failed, and a proper prefix of these packets went out
abbrev pub ShownInPart : Writing → Writing → Console → List ℕ → Type 0
ShownInPart out out' c text =
    IsCutShort out.written out'.written (sent_by c text) × (out'.errors ≡ out.errors + 1)

abbrev pub ShowsText : {E : Type 0} → Writing → Writing → Console → Console → List ℕ → Result (Unit {0}) E → Type 0
ShowsText out out' c c' text (Ok done) = Shown out out' c c' text
ShowsText out out' c c' text (Err error) = ShownInPart out out' c text
