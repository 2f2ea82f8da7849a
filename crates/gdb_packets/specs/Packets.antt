-- What a packet asks for (GDB manual, "Packets" and "General Query Packets").
use Rattle.std.specs.Prelude.{ℕ, ◌*◌, ◌/◌, nat_lt, Bool, true, false, ◌&&◌, ◌||◌, ◌==◌, if◌then◌else◌, List, []}
use Rattle.std.specs.Prelude.{◌∷◌, length, take, drop, codes, bytes_eq, Option, Some, None}
use Rattle.gdb_packets.specs.Numbers.{Parts, are_digits, number, parted, two_numbers}
use Rattle.gdb_packets.specs.declared.packets.PointKind.{PointKind}
use Rattle.gdb_packets.specs.declared.packets.PointKind.TheVariants as kind
use Rattle.gdb_packets.specs.declared.packets.Request.{Request}
use Rattle.gdb_packets.specs.declared.packets.Request.TheVariants as request

-- what is asked for, and the bytes after the fields
pub record Packet : Type 0 where
  pub request : Request
  pub tail : List ℕ

-- a packet with no tail
abbrev pub asked : Request → Packet
asked r = record { request = r; tail = [] }

-- a packet whose tail follows `count` bytes
abbrev pub tailed : Request → ℕ → List ℕ → Packet
tailed r count content = record { request = r; tail = drop count content }

-- `:`
abbrev pub colon : ℕ
colon = 58

-- `=`
abbrev pub equals_sign : ℕ
equals_sign = 61

abbrev pub malformed : Packet
malformed = asked request.Malformed

abbrev pub begins_with : List ℕ → List ℕ → Bool
begins_with prefix text = bytes_eq (take (length prefix) text) prefix

-- a packet whose tail is `count` digits
abbrev pub has_digits : Request → ℕ → List ℕ → Packet
has_digits r count digits = if are_digits count digits then record { request = r; tail = digits } else malformed

-- ---- m, M, X

abbrev pub read_memory : Option (ℕ × ℕ) → Packet
read_memory None = malformed
read_memory (Some range) = if range.1 == 0 then malformed else asked (request.ReadMemory range.0 range.1)

abbrev pub write_digits : Option (ℕ × ℕ) → List ℕ → Packet
write_digits None digits = malformed
write_digits (Some range) digits = has_digits (request.WriteMemory range.0 range.1) (2 * range.1) digits

abbrev pub write_parts : Option Parts → Packet
write_parts None = malformed
write_parts (Some parts) = write_digits (two_numbers parts.front) parts.rest

-- M address,length:digits
abbrev pub write_memory : List ℕ → Packet
write_memory rest = write_parts (parted colon rest)

abbrev pub write_bytes : Option (ℕ × ℕ) → List ℕ → Packet
write_bytes None bytes = malformed
write_bytes (Some range) bytes =
    if range.1 == length bytes then record { request = request.WriteBinary range.0 range.1; tail = bytes }
    else malformed

abbrev pub binary_parts : Option Parts → Packet
binary_parts None = malformed
binary_parts (Some parts) = write_bytes (two_numbers parts.front) parts.rest

-- X address,length:bytes
abbrev pub write_binary : List ℕ → Packet
write_binary rest = binary_parts (parted colon rest)

-- ---- p, P

abbrev pub read_one : Option ℕ → Packet
read_one None = malformed
read_one (Some n) = asked (request.ReadRegister n)

abbrev pub register_digits : Option ℕ → List ℕ → Packet
register_digits None digits = malformed
register_digits (Some n) digits = has_digits (request.WriteRegister n) 8 digits

abbrev pub register_parts : Option Parts → Packet
register_parts None = malformed
register_parts (Some parts) = register_digits (number parts.front) parts.rest

-- P number=digits
abbrev pub write_register : List ℕ → Packet
write_register rest = register_parts (parted equals_sign rest)

-- ---- c, C, s, S: without an address (profile)

abbrev pub unless_more : Request → List ℕ → Packet
unless_more r rest = if length rest == 0 then asked r else malformed

abbrev pub read_signal : Request → Option ℕ → Packet
read_signal r None = malformed
read_signal r (Some signal) = asked r

-- ---- threads: there is thread 1 alone (profile)

abbrev pub is_small : Option ℕ → Bool
is_small None = false
is_small (Some thread) = nat_lt thread 2

-- thread 1, any thread (0), or all threads (-1)
abbrev pub is_thread : List ℕ → Bool
is_thread text = if bytes_eq text (codes "-1") then true else is_small (number text)

-- Hg thread, Hc thread
abbrev pub read_thread : List ℕ → Packet
read_thread rest =
    if (begins_with (codes "g") rest || begins_with (codes "c") rest) && is_thread (drop 1 rest)
    then asked request.SelectThread
    else malformed

abbrev pub read_described : Request → List ℕ → Packet
read_described r rest = if bytes_eq rest (codes "1") then asked r else malformed

-- ---- Z, z

abbrev pub kind_of : ℕ → Option PointKind
kind_of digit =
    if digit == 48 then Some kind.SoftwareBreakpoint  -- 0
    else if digit == 49 then Some kind.HardwareBreakpoint  -- 1
    else if digit == 50 then Some kind.WriteWatchpoint  -- 2
    else if digit == 51 then Some kind.ReadWatchpoint  -- 3
    else if digit == 52 then Some kind.AccessWatchpoint  -- 4
    else None

-- whether a length of 0 is refused
abbrev pub needs_length : PointKind → Bool
needs_length kind.SoftwareBreakpoint = false
needs_length kind.HardwareBreakpoint = false
needs_length kind.WriteWatchpoint = true
needs_length kind.ReadWatchpoint = true
needs_length kind.AccessWatchpoint = true

abbrev pub comma_numbers : List ℕ → Option (ℕ × ℕ)
comma_numbers text = if begins_with (codes ",") text then two_numbers (drop 1 text) else None

abbrev pub point : Bool → PointKind → ℕ → ℕ → Request
point inserts k a n = if inserts then request.Insert k a n else request.Remove k a n

abbrev pub point_at : Bool → PointKind → Option (ℕ × ℕ) → Packet
point_at inserts k None = malformed
point_at inserts k (Some range) =
    if needs_length k && range.1 == 0 then malformed else asked (point inserts k range.0 range.1)

abbrev pub point_of : Bool → Option PointKind → List ℕ → Packet
point_of inserts None numbers = asked request.Unknown
point_of inserts (Some k) numbers = point_at inserts k (comma_numbers numbers)

-- Z kind,address,length and z kind,address,length
abbrev pub point_packet : Bool → List ℕ → Packet
point_packet inserts [] = asked request.Unknown
point_packet inserts (digit ∷ numbers) = point_of inserts (kind_of digit) numbers

-- ---- names with a sign

-- qRcmd,digits: two for each byte
abbrev pub read_command : List ℕ → Packet
read_command digits = has_digits request.Monitor (length digits / 2 * 2) digits

abbrev pub read_region : Option ℕ → Packet
read_region None = malformed
read_region (Some a) = asked (request.MemoryRegion a)

abbrev pub read_description : Option (ℕ × ℕ) → Packet
read_description None = malformed
read_description (Some range) = asked (request.ReadDescription range.0 range.1)

-- qXfer:features:read:target.xml:offset,length
abbrev pub read_annex : List ℕ → Packet
read_annex text =
    if begins_with (codes "target.xml:") text then read_description (two_numbers (drop 11 text))
    else asked request.NoAnnex

-- qXfer:memory-map:read::offset,length
abbrev pub read_map : Option (ℕ × ℕ) → Packet
read_map None = malformed
read_map (Some range) = asked (request.ReadMemoryMap range.0 range.1)

unfoldable pub by_prefix : List ℕ → Packet
by_prefix content =
    if begins_with (codes "qRcmd,") content then read_command (drop 6 content)
    else if begins_with (codes "qThreadExtraInfo,") content then
    read_described request.ThreadDescription (drop 17 content)
    else if begins_with (codes "qMemoryRegionInfo:") content then read_region (number (drop 18 content))
    else if begins_with (codes "qXfer:features:read:") content then read_annex (drop 20 content)
    else if begins_with (codes "qXfer:memory-map:read::") content then read_map (two_numbers (drop 23 content))
    else if begins_with (codes "qXfer:memory-map:read:") content then malformed
    else asked request.Unknown

-- a name alone, or with a sign and what follows it
unfoldable pub with_tail : List ℕ → Packet
with_tail content =
    if bytes_eq content (codes "D") || begins_with (codes "D;") content then tailed request.Detach 2 content
    else if bytes_eq content (codes "vKill") || begins_with (codes "vKill;") content then
    tailed request.KillProcess 6 content
    else if bytes_eq content (codes "vRun") || begins_with (codes "vRun;") content then tailed request.Run 5 content
    else if bytes_eq content (codes "qSupported") || begins_with (codes "qSupported:") content then
    tailed request.Supported 11 content
    else if begins_with (codes "vCont;") content then tailed request.Resume 6 content
    else by_prefix content

-- ---- names

unfoldable pub by_name : List ℕ → Packet
by_name content =
    if bytes_eq content (codes "?") then asked request.StopReason
    else if bytes_eq content (codes "g") then asked request.ReadRegisters
    else if bytes_eq content (codes "!") then asked request.ExtendedMode
    else if bytes_eq content (codes "k") then asked request.Kill
    else if bytes_eq content (codes "bs") then asked request.ReverseStep
    else if bytes_eq content (codes "bc") then asked request.ReverseContinue
    else if bytes_eq content (codes "QStartNoAckMode") then asked request.StartNoAckMode
    else if bytes_eq content (codes "vCont?") then asked request.ResumeActions
    else if bytes_eq content (codes "qAttached") then asked request.Attached
    else if bytes_eq content (codes "qC") then asked request.CurrentThread
    else if bytes_eq content (codes "qfThreadInfo") then asked request.FirstThreads
    else if bytes_eq content (codes "qsThreadInfo") then asked request.MoreThreads
    else with_tail content

-- a packet by its first letter, or else by its name
unfoldable pub by_letter : ℕ → List ℕ → List ℕ → Packet
by_letter letter rest content =
    if letter == 109 then read_memory (two_numbers rest)  -- m
    else if letter == 77 then write_memory rest  -- M
    else if letter == 88 then write_binary rest  -- X
    else if letter == 112 then read_one (number rest)  -- p
    else if letter == 80 then write_register rest  -- P
    else if letter == 71 then has_digits request.WriteRegisters 184 rest  -- G
    else if letter == 99 then unless_more request.Continue rest  -- c
    else if letter == 67 then read_signal request.Continue (number rest)  -- C
    else if letter == 115 then unless_more request.Step rest  -- s
    else if letter == 83 then read_signal request.Step (number rest)  -- S
    else if letter == 72 then read_thread rest  -- H
    else if letter == 84 then read_described request.ThreadAlive rest  -- T
    else if letter == 90 then point_packet true rest  -- Z
    else if letter == 122 then point_packet false rest  -- z
    else if letter == 70 then record { request = request.FileReply; tail = rest }  -- F
    else if letter == 82 then asked request.Restart  -- R
    else by_name content

unfoldable pub packet_of : List ℕ → Packet
packet_of [] = asked request.Unknown
packet_of (letter ∷ rest) = by_letter letter rest (letter ∷ rest)
