-- The devices that were read are wired as a machine needs it. First for one device more after those before it; then
-- what the table of a device says of it; then the script.
use Rattle.std.proofs.Common.{◌≡◌, ◌∙◌, ℕ, ◌+◌, ◌%◌, ◌^◌, ◌<◌, ◌≤◌, ◌==◌, bit_and, Bool, true, false, ◌&&◌, ◌||◌, not}
use Rattle.std.proofs.Common.{nat_le}
use Rattle.std.proofs.Common.{nat_lt, if◌then◌else◌, List, [], ◌∷◌, ◌++◌, codes, Option, Some, None, IfSome, is_some}
use Rattle.std.proofs.Common.{unwrap_or, Result, Ok, Err, refl, sym, ap, subst, arith}
use Rattle.std.proofs.lemmas.Bool.{eqb-true, leb-true, ltb-true}
use Rattle.std.proofs.lemmas.Bool.Decides.{nat_tests}
use Rattle.toml.specs.Data.{Data, Items, no_items, item, Members, as_bool, as_table, get_member}
use Rattle.devices.specs.declared.device.Device.{Device}
use Rattle.devices.specs.declared.device.Line.{Line}
use Rattle.devices.specs.declared.device.Poke.{Poke as ThePoke}
use Rattle.devices.specs.Lines.{is_line_of}
use Rattle.devices.specs.Table.{device_at, has}
use Rattle.platform.specs.Wiring.{AreWired, DriveApart, HasSteadyLine, HaveSteadyLines, IsUndriven, followed_by}
use Rattle.platform.specs.Wiring.{LeavesDriven, has_steady_value, is_driven, is_on_driven, is_steady}
use Rattle.platform.specs.declared.error.BoardError.{BoardError}
use Rattle.platform.specs.declared.error.BoardError.TheVariants.{OutOfRange}
use Rattle.platform.specs.declared.script.ScriptedEvent.{ScriptedEvent}
use Rattle.platform.specs.declared.script.Signal.{Signal}
use Rattle.platform.specs.declared.script.Signal.TheVariants.{Rise, Fall, Pulse, Nmi, Poke}
use Rattle.platform.specs.Boards.{Numbers, is_tick}
use Rattle.board.specs.declared.device_parts.Effects.{Effects}
use Rattle.board.specs.Devices.{Span, Values, address_where, bits_at, checked, counts_in, device_in, device_of}
use Rattle.board.specs.Devices.{devices_at, devices_in, effects_in, flag, has_32_bits, is_device_base, is_device_line}
use Rattle.board.specs.Devices.{is_device_size, is_device_word, is_followed, is_in_device, known_keys, line_in, line_of}
use Rattle.board.specs.Devices.{listed_device}
use Rattle.board.specs.Devices.{max_devices, span_in, stores_at, values_in}
use Rattle.board.specs.Texts.{change, device_signal, event_in, interrupt_keys, interrupt_signal, is_free_line, nmi}
use Rattle.board.specs.Texts.{nmi_keys, nmi_signal, poke_keys, poke_signal, script_in, signal_in, timely_event}
use Rattle.board.specs.Values.{◌>>=◌, number, number_or, of_kind, only, tables_at, where_ok, word}
use Rattle.board.proofs.Lines.{made, passed}
use Rattle.board.proofs.Ordered.{both, front, in_range, timely_if}

-- ---- one device more: which device has an address

abbrev or_else : Option Device → Option Device → Option Device
or_else None other = other
or_else (Some d) other = Some d

abbrev own : Device → ℕ → Option Device
own d a = if has d a then Some d else None

at_more : (ds : List Device) (d : Device) (a : ℕ) → device_at (ds ++ d ∷ []) a ≡ or_else (device_at ds a) (own d a)
at_more [] d a = refl
at_more (e ∷ es) d a = lead (has e a) (at_more es d a)
  where
    lead : (b : Bool) → device_at (es ++ d ∷ []) a ≡ or_else (device_at es a) (own d a)
        → (if b then Some e else device_at (es ++ d ∷ []) a) ≡ or_else (if b then Some e else device_at es a) (own d a)
    lead true h = refl
    lead false h = h

found_before : (ds : List Device) (d : Device) (a : ℕ) → is_steady (device_at ds a) ≡ true
    → device_at (ds ++ d ∷ []) a ≡ device_at ds a
found_before ds d a steady = at_more ds d a ∙ lead (device_at ds a) steady
  where
    lead : (o : Option Device) → is_steady o ≡ true → or_else o (own d a) ≡ o
    lead None is = absurd cc
    lead (Some e) is = refl

off : (b : Bool) → not b ≡ true → b ≡ false
off true is = absurd cc
off false is = refl

both_true : (b c : Bool) → (b && c) ≡ true → (b ≡ true) × (c ≡ true)
both_true true c is = (refl, is)
both_true false c is = absurd cc

-- what is steady stays so
steady_more : (ds : List Device) (d : Device) (a : ℕ) → is_steady (device_at ds a) ≡ true
    → is_steady (device_at (ds ++ d ∷ []) a) ≡ true
steady_more ds d a steady = ap is_steady (found_before ds d a steady) ∙ steady

value_of : (ds : List Device) (a : ℕ) (found : Option Device) → device_at ds a ≡ found → is_steady found ≡ true
    → is_steady (device_at ds (followed_by found a)) ≡ true → has_steady_value ds a ≡ true
value_of ds a found is first second = rw is (rw (first, second) refl)

value_more : (ds : List Device) (d : Device) (a : ℕ) → has_steady_value ds a ≡ true
    → has_steady_value (ds ++ d ∷ []) a ≡ true
value_more ds d a steady =
    let (first, second) = both_true (is_steady (device_at ds a)) _ steady in
    value_of (ds ++ d ∷ []) a (device_at ds a) (found_before ds d a first) first
    (steady_more ds d (followed_by (device_at ds a) a) second)

-- ---- what the table of a device says of it, after the devices before it

record Parts : Type 0 where
  base : ℕ
  size : ℕ
  of : Option ℕ
  counts : Bool
  line : Option Line

abbrev parts_of : Device → Parts
parts_of d = record { base = d.base; size = d.size; of = d.of; counts = d.counts; line = d.line }

abbrev span_at : Parts → Span
span_at p = record { base = p.base; size = p.size }

-- a line of a device: no device before drives it, the words are its own and don't count, and what enables it doesn't
record IsNewLine (ds : List Device) (p : Parts) (line : Line) : Type 0 where
  free : is_driven ds line.number ≡ false
  ticks : p.counts ≡ false
  first : is_in_device ds p.base ≡ false
  enable : is_followed ds (span_at p) line.enable ≡ true

record IsAdded (ds : List Device) (p : Parts) : Type 0 where
  bytes : 4 ≤ p.size
  of : IfSome p.of (λ o. is_followed ds (span_at p) o ≡ true)
  line : IfSome p.line (IsNewLine ds p)

-- a word that can be followed is steady, if it isn't of a device that counts
followed_steady : (ds : List Device) (d : Device) (a : ℕ) → d.counts ≡ false
    → is_followed ds (span_at (parts_of d)) a ≡ true → is_steady (device_at (ds ++ d ∷ []) a) ≡ true
followed_steady ds d a ticks is =
    ap is_steady (at_more ds d a) ∙ lead (device_at ds a) (has d a) (a % 4 == 0) is
  where
    lead : (found : Option Device) (owned whole : Bool)
        → ((whole && (is_some found || owned)) && not (counts_in found)) ≡ true
        → is_steady (or_else found (if owned then Some d else None)) ≡ true
    lead None true whole is = rw ticks refl
    lead None false true is = absurd cc
    lead None false false is = absurd cc
    lead (Some e) owned true is = is
    lead (Some e) owned false is = absurd cc

-- each steady word has a steady value
abbrev Follow : List Device → Type 0
Follow ds = (a : ℕ) → is_steady (device_at ds a) ≡ true → has_steady_value ds a ≡ true

follow_more : (ds : List Device) (d : Device) → Follow ds → IsAdded ds (parts_of d) → Follow (ds ++ d ∷ [])
follow_more ds d before added a steady = lead (device_at ds a) refl
  where
    followed : d.counts ≡ false → (o : Option ℕ) → IfSome o (λ o. is_followed ds (span_at (parts_of d)) o ≡ true)
        → is_steady (device_at (ds ++ d ∷ []) (unwrap_or o a)) ≡ true
    followed ticks None is = steady
    followed ticks (Some o) is = followed_steady ds d o ticks is

    new : (b : Bool) → device_at (ds ++ d ∷ []) a ≡ (if b then Some d else None)
        → has_steady_value (ds ++ d ∷ []) a ≡ true
    new false is = absurd (cc (sym steady ∙ ap is_steady is))
    new true is =
        let counting : not d.counts ≡ true = sym (ap is_steady is) ∙ steady in
        value_of (ds ++ d ∷ []) a (Some d) is counting (followed (off d.counts counting) d.of added.of)

    lead : (found : Option Device) → device_at ds a ≡ found → has_steady_value (ds ++ d ∷ []) a ≡ true
    lead None is = new (has d a) (at_more ds d a ∙ ap (λ (o : Option Device). or_else o (own d a)) is)
    lead (Some e) is =
        let here : device_at (ds ++ d ∷ []) a ≡ Some e =
        at_more ds d a ∙ ap (λ (o : Option Device). or_else o (own d a)) is in
        let old : is_steady (device_at ds a) ≡ true = ap is_steady is ∙ sym (ap is_steady here) ∙ steady in
        value_more ds d a (before a old)

-- ---- no two devices drive the same interrupt

driven_more : (ds : List Device) (d : Device) (n : ℕ) → is_driven ds n ≡ false → is_line_of d.line n ≡ false
    → is_driven (ds ++ d ∷ []) n ≡ false
driven_more [] d n none other = rw other refl
driven_more (e ∷ es) d n none other =
    lead (is_line_of e.line n) none (λ (none : is_driven es n ≡ false). driven_more es d n none other)
  where
    lead : (b : Bool) → (b || is_driven es n) ≡ false
        → (is_driven es n ≡ false → is_driven (es ++ d ∷ []) n ≡ false) → (b || is_driven (es ++ d ∷ []) n) ≡ false
    lead true is after = absurd cc
    lead false is after = after is

neither : (b c : Bool) → (b || c) ≡ false → (b ≡ false) × (c ≡ false)
neither true c is = absurd cc
neither false c is = (refl, is)

turned : (l k : Line) → is_line_of (Some l) k.number ≡ false → is_line_of (Some k) l.number ≡ false
turned l k is = grind (arith, nat_tests)

-- the line of a device that doesn't drive another one's interrupt
undriven_more : (es : List Device) (d : Device) (old new : Option Line) → d.line ≡ new → IsUndriven es old
    → IfSome new (λ l. is_line_of old l.number ≡ false) → IsUndriven (es ++ d ∷ []) old
undriven_more es d None new is before other = tt
undriven_more es d (Some l) None is before other = driven_more es d l.number before (rw is refl)
undriven_more es d (Some l) (Some k) is before other =
    driven_more es d l.number before (rw is (turned l k other))

first_free : (e : Device) (es : List Device) (line : Option Line)
    → IfSome line (λ l. is_driven (e ∷ es) l.number ≡ false)
    → IfSome line (λ l. is_line_of e.line l.number ≡ false)
first_free e es None free = free
first_free e es (Some l) free = (neither (is_line_of e.line l.number) (is_driven es l.number) free).0

others_free : (e : Device) (es : List Device) (line : Option Line)
    → IfSome line (λ l. is_driven (e ∷ es) l.number ≡ false) → IfSome line (λ l. is_driven es l.number ≡ false)
others_free e es None free = free
others_free e es (Some l) free = (neither (is_line_of e.line l.number) (is_driven es l.number) free).1

drive_more : (ds : List Device) (d : Device) → DriveApart ds → IfSome d.line (λ l. is_driven ds l.number ≡ false)
    → DriveApart (ds ++ d ∷ [])
drive_more [] d apart free = (lead d.line, tt)
  where
    lead : (line : Option Line) → IsUndriven [] line
    lead None = tt
    lead (Some l) = refl
drive_more (e ∷ es) d apart free = (
  undriven_more es d e.line d.line refl apart.0 (first_free e es d.line free),
  drive_more es d apart.1 (others_free e es d.line free),
)

-- ---- the words that a level depends on

line_more : (ds : List Device) (d e : Device) (line : Option Line) → HasSteadyLine ds e line
    → HasSteadyLine (ds ++ d ∷ []) e line
line_more ds d e None steady = tt
line_more ds d e (Some l) steady = (value_more ds d e.base steady.0, value_more ds d l.enable steady.1)

lines_more : (ds : List Device) (d : Device) (all : List Device) → HaveSteadyLines ds all
    → HasSteadyLine (ds ++ d ∷ []) d d.line → HaveSteadyLines (ds ++ d ∷ []) (all ++ d ∷ [])
lines_more ds d [] steady new = (new, tt)
lines_more ds d (e ∷ es) steady new = (line_more ds d e e.line steady.0, lines_more ds d es steady.1 new)

has_base : (d : Device) → 4 ≤ d.size → has d d.base ≡ true
has_base d bytes = grind (arith, nat_tests)

base_steady : (ds : List Device) (d : Device) → 4 ≤ d.size → d.counts ≡ false → is_in_device ds d.base ≡ false
    → is_steady (device_at (ds ++ d ∷ []) d.base) ≡ true
base_steady ds d bytes ticks first =
    ap is_steady (at_more ds d d.base) ∙ lead (device_at ds d.base) (has d d.base) first (has_base d bytes)
  where
    lead : (found : Option Device) (owned : Bool) → is_some found ≡ false → owned ≡ true
        → is_steady (or_else found (if owned then Some d else None)) ≡ true
    lead None true none is = rw ticks refl
    lead None false none is = absurd cc
    lead (Some e) owned none is = absurd cc

new_line : (ds : List Device) (d : Device) → Follow (ds ++ d ∷ []) → 4 ≤ d.size → (line : Option Line)
    → IfSome line (IsNewLine ds (parts_of d)) → HasSteadyLine (ds ++ d ∷ []) d line
new_line ds d follow bytes None new = tt
new_line ds d follow bytes (Some l) new = (
  follow d.base (base_steady ds d bytes new.ticks new.first),
  follow l.enable (followed_steady ds d l.enable new.ticks new.enable),
)

-- ---- all of it

record IsWired (ds : List Device) : Type 0 where
  apart : DriveApart ds
  follow : Follow ds
  steady : HaveSteadyLines ds ds

undriven_new : (ds : List Device) (p : Parts) (line : Option Line) → IfSome line (IsNewLine ds p)
    → IfSome line (λ l. is_driven ds l.number ≡ false)
undriven_new ds p None new = new
undriven_new ds p (Some l) new = new.free

wired_more : (ds : List Device) (d : Device) → IsWired ds → IsAdded ds (parts_of d) → IsWired (ds ++ d ∷ [])
wired_more ds d before added =
    let follow : Follow (ds ++ d ∷ []) = follow_more ds d before.follow added in
    record {
      apart = drive_more ds d before.apart (undriven_new ds (parts_of d) d.line added.line);
      follow = follow;
      steady = lines_more ds d ds before.steady (new_line ds d follow added.bytes d.line added.line);
    }

-- ---- a device that was read

size_of : (numbers : Numbers) (before base size : ℕ) → is_device_size numbers before base size ≡ true → 4 ≤ size
size_of numbers before base size is = grind (arith, nat_tests)

span_is : (numbers : Numbers) (before : ℕ) (table : Members) (span : Span) → span_in numbers before table ≡ Ok span
    → 4 ≤ span.size
unfolding span_in
span_is numbers before table span taken =
    let (base, at_base) = both (where_ok is_device_base (number (get_member (codes "base") table))) _ span taken in
    let read = number_or 4 (get_member (codes "size") table) in
    let (size, at_size) = both (where_ok (is_device_size numbers before base) read) _ span at_base.1 in
    let passed : is_device_size numbers before base size ≡ true =
    in_range (is_device_size numbers before base) read size at_size.0 in
    let given : Span = record { base = base; size = size } in
    let same : given ≡ span = cc in
    subst (λ (s : Span). 4 ≤ s.size) same (size_of numbers before base size passed)

address_is : (ok : ℕ → Bool) (value : Option Data) (of : Option ℕ) → address_where ok value ≡ Ok of
    → IfSome of (λ o. ok o ≡ true)
address_is ok None of taken =
    let same : None ≡ of = cc in
    subst (λ (of : Option ℕ). IfSome of (λ o. ok o ≡ true)) same tt
address_is ok (Some value) of taken =
    let (address, at_address) = both (where_ok ok (number (Some value))) _ of taken in
    let same : Some address ≡ of = cc in
    subst (λ (of : Option ℕ). IfSome of (λ o. ok o ≡ true)) same
    (in_range ok (number (Some value)) address at_address.0)

values_are : (devices : List Device) (span : Span) (table : Members) (values : Values)
    → values_in devices span table ≡ Ok values → IfSome values.of (λ o. is_followed devices span o ≡ true)
unfolding values_in
values_are devices span table values taken =
    let (start, at_start) = both (bits_at (codes "start") table) _ values taken in
    let (ones, at_ones) = both (bits_at (codes "ones") table) _ values at_start.1 in
    let zeros_read = where_ok (λ n. bit_and n ones == 0) (bits_at (codes "zeros") table) in
    let (zeros, at_zeros) = both zeros_read _ values at_ones.1 in
    let (stores, at_stores) = both (stores_at (get_member (codes "stores") table)) _ values at_zeros.1 in
    let (follows, at_follows) = both (bits_at (codes "follows") table) _ values at_stores.1 in
    let by_read = where_ok (λ n. nat_lt n 32) (number_or 1 (get_member (codes "by") table)) in
    let (by, at_by) = both by_read _ values at_follows.1 in
    let read = address_where (is_followed devices span) (get_member (codes "of") table) in
    let (of, at_of) = both read _ values at_by.1 in
    let (counts, at_counts) = both (flag (get_member (codes "counts") table)) _ values at_of.1 in
    let same : of ≡ values.of = ap (λ (read : Result Values BoardError). of_read read) at_counts.1 in
    subst (λ (of : Option ℕ). IfSome of (λ o. is_followed devices span o ≡ true)) same
    (address_is (is_followed devices span) (get_member (codes "of") table) of at_of.0)
  where
    of_read : Result Values BoardError → Option ℕ
    of_read (Ok values) = values.of
    of_read (Err error) = None

line_parts : (interrupts : ℕ) (devices : List Device) (p : Parts) (n enable : ℕ) (line : Line)
    → is_device_line interrupts devices (span_at p) p.counts n ≡ true
    → is_followed devices (span_at p) enable ≡ true → line.number ≡ n → line.enable ≡ enable → IsNewLine devices p line
line_parts interrupts devices p n enable line is followed number enabled =
    let (below, others) = both_true (nat_lt n interrupts) _ is in
    let (free, rest) = both_true (not (is_driven devices n)) _ others in
    let (ticks, first) = both_true (not p.counts) _ rest in
    record {
      free = rw number (off (is_driven devices n) free);
      ticks = off p.counts ticks;
      first = off (is_in_device devices p.base) first;
      enable = rw enabled followed;
    }

line_is : (interrupts : ℕ) (devices : List Device) (p : Parts) (table : Members) (value : Option Data)
    (line : Option Line) → line_in interrupts devices (span_at p) p.counts table value ≡ Ok line
    → IfSome line (IsNewLine devices p)
unfolding line_in line_of
line_is interrupts devices p table None line taken =
    let same : None ≡ line = cc in
    subst (λ (line : Option Line). IfSome line (IsNewLine devices p)) same tt
line_is interrupts devices p table (Some value) line taken =
    let ok = is_device_line interrupts devices (span_at p) p.counts in
    let followed = is_followed devices (span_at p) in
    let (n, at_n) = both (where_ok ok (number (Some value))) _ line taken in
    let read = number (get_member (codes "enable") table) in
    let (enable, at_enable) = both (where_ok followed read) _ line at_n.1 in
    let (small, same) = made (nat_lt n 240) _ line at_enable.1 in
    subst (λ (line : Option Line). IfSome line (IsNewLine devices p)) same
    (line_parts interrupts devices p n enable _ (in_range ok (number (Some value)) n at_n.0)
    (in_range followed read enable at_enable.0) refl refl)

-- a device has the parts of its table
has_parts : (span : Span) (values : Values) (effects : Effects) (line : Option Line) (device : Device)
    → device_of span values effects line ≡ Ok device
    → parts_of device ≡ (record {
      base = span.base;
      size = span.size;
      of = values.of;
      counts = values.counts;
      line = line;
    })
unfolding device_of
has_parts span values effects line device taken =
    let (near, at_near) = passed (nat_lt values.by 32) (ltb-true values.by 32) _ device taken in
    let (base, at_base) = passed (span.base % 4 == 0) (eqb-true (span.base % 4) 0) _ device at_near in
    let (size, at_size) = passed (span.size % 4 == 0) (eqb-true (span.size % 4) 0) _ device at_base in
    let end = span.base + span.size in
    let (within, at_within) = passed (nat_le end (2 ^ 32)) (leb-true end (2 ^ 32)) _ device at_size in
    sym (ap (λ (read : Result Device BoardError). parts_read read) at_within)
  where
    parts_read : Result Device BoardError → Parts
    parts_read (Ok d) = parts_of d
    parts_read (Err error) = record { base = 0; size = 0; of = None; counts = false; line = None }

device_is : (numbers : Numbers) (before : ℕ) (devices : List Device) (table : Members) (device : Device)
    → device_in numbers before devices table ≡ Ok device → IsAdded devices (parts_of device)
unfolding device_in
device_is numbers before devices table device taken =
    let (span, at_span) = both (span_in numbers before table) _ device taken in
    let (values, at_values) = both (values_in devices span table) _ device at_span.1 in
    let (effects, at_effects) = both (effects_in devices span table) _ device at_values.1 in
    let value = get_member (codes "line") table in
    let (line, at_line) = both (line_in numbers.interrupts devices span values.counts table value) _ device
    at_effects.1 in
    let (known, at_known) = both (known_keys table) _ device at_line.1 in
    let p : Parts = record {
      base = span.base;
      size = span.size;
      of = values.of;
      counts = values.counts;
      line = line;
    } in
    rw (has_parts span values effects line device at_known.1) (record {
      bytes = span_is numbers before table span at_span.0;
      of = values_are devices span table values at_values.0;
      line = line_is numbers.interrupts devices p table value line at_line.0;
    })

listed_is : (numbers : Numbers) (before : ℕ) (devices : List Device) (value : Data) (device : Device)
    → listed_device numbers before devices value ≡ Ok device → IsAdded devices (parts_of device)
unfolding listed_device
listed_is numbers before devices value device taken =
    let (table, at_table) = both (of_kind (as_table value)) _ device taken in
    device_is numbers before devices table device at_table.1

devices_are : (numbers : Numbers) (before : ℕ) (devices : List Device) (items : Items) (all : List Device)
    → devices_in numbers before devices items ≡ Ok all → IsWired devices → IsWired all
unfolding devices_in
devices_are numbers before devices no_items all taken are =
    let same : devices ≡ all = cc in
    subst IsWired same are
devices_are numbers before devices (item value others) all taken are =
    let (device, at_device) = both (listed_device numbers before devices value) _ all taken in
    devices_are numbers (before + device.size) (devices ++ device ∷ []) others all at_device.1
    (wired_more devices device are (listed_is numbers before devices value device at_device.0))

wired_at : (numbers : Numbers) (document : Members) (all : List Device) → devices_at numbers document ≡ Ok all
    → IsWired all
unfolding devices_at
wired_at numbers document all taken =
    let (tables, at_tables) = both (tables_at max_devices (get_member (codes "device") document)) _ all taken in
    devices_are numbers 0 [] tables all at_tables.1 (record { apart = tt; follow = none; steady = tt })
  where
    none : Follow []
    none a is = absurd cc

-- ---- the script

-- a signal isn't on an interrupt that a device drives
abbrev Leaves : List Device → Signal → Type 0
Leaves devices signal = is_on_driven devices signal ≡ false

change_leaves : (devices : List Device) (n : ℕ) (rise fall pulse : Bool) (signal : Signal) → is_driven devices n ≡ false
    → (if rise then Ok (Rise n) else if fall then Ok (Fall n) else if pulse then Ok (Pulse n) else Err OutOfRange)
    ≡ Ok signal → Leaves devices signal
change_leaves devices n true fall pulse signal free taken =
    let same : Rise n ≡ signal = cc in subst (Leaves devices) same free
change_leaves devices n false true pulse signal free taken =
    let same : Fall n ≡ signal = cc in subst (Leaves devices) same free
change_leaves devices n false false true signal free taken =
    let same : Pulse n ≡ signal = cc in subst (Leaves devices) same free
change_leaves devices n false false false signal free taken = cc

interrupt_leaves : (interrupts : ℕ) (devices : List Device) (event : Members) (signal : Signal)
    → interrupt_signal interrupts devices event ≡ Ok signal → Leaves devices signal
unfolding interrupt_signal
interrupt_leaves interrupts devices event signal taken =
    let ok = is_free_line interrupts devices in
    let read = number (get_member (codes "line") event) in
    let (n, at_n) = both (where_ok ok read) _ signal taken in
    let (name, at_name) = both (word (get_member (codes "what") event)) _ signal at_n.1 in
    let (change, at_change) = both (change n name) _ signal at_name.1 in
    let (known, at_known) = both (only interrupt_keys event) _ signal at_change.1 in
    let same : change ≡ signal = cc in
    let free = (both_true (nat_lt n interrupts) _ (in_range ok read n at_n.0)).1 in
    subst (Leaves devices) same (change_leaves devices n _ _ _ change (off (is_driven devices n) free) at_change.0)

poke_leaves : (devices : List Device) (value : Data) (event : Members) (signal : Signal)
    → poke_signal devices value event ≡ Ok signal → Leaves devices signal
unfolding poke_signal
poke_leaves devices value event signal taken =
    let (address, at_address) = both (where_ok (is_device_word devices) (number (Some value))) _ signal taken in
    let (content, at_content) = both (where_ok has_32_bits (number (get_member (codes "value") event))) _ signal
    at_address.1 in
    let (known, at_known) = both (only poke_keys event) _ signal at_content.1 in
    let poke : ThePoke = record { address = address; value = content } in
    let same : Poke poke ≡ signal = cc in
    subst (Leaves devices) same refl

nmi_is : (devices : List Device) (value : Option Bool) (signal : Signal) → nmi value ≡ Ok signal → Leaves devices signal
nmi_is devices None signal taken = cc
nmi_is devices (Some false) signal taken = cc
nmi_is devices (Some true) signal taken = let same : Nmi ≡ signal = cc in subst (Leaves devices) same refl

nmi_leaves : (devices : List Device) (value : Data) (event : Members) (signal : Signal)
    → nmi_signal value event ≡ Ok signal → Leaves devices signal
unfolding nmi_signal
nmi_leaves devices value event signal taken =
    let (what, at_what) = both (nmi (as_bool value)) _ signal taken in
    let (known, at_known) = both (only nmi_keys event) _ signal at_what.1 in
    let same : what ≡ signal = cc in
    subst (Leaves devices) same (nmi_is devices (as_bool value) what at_what.0)

device_signal_leaves : (interrupts : ℕ) (devices : List Device) (event : Members) (value : Option Data)
    (signal : Signal) → device_signal interrupts devices event value ≡ Ok signal → Leaves devices signal
device_signal_leaves interrupts devices event None signal taken = interrupt_leaves interrupts devices event signal taken
device_signal_leaves interrupts devices event (Some value) signal taken = poke_leaves devices value event signal taken

signal_leaves : (interrupts : ℕ) (devices : List Device) (event : Members) (value : Option Data) (signal : Signal)
    → signal_in interrupts devices event value ≡ Ok signal → Leaves devices signal
signal_leaves interrupts devices event None signal taken =
    device_signal_leaves interrupts devices event (get_member (codes "poke") event) signal taken
signal_leaves interrupts devices event (Some value) signal taken = nmi_leaves devices value event signal taken

event_leaves : (interrupts : ℕ) (devices : List Device) (fields : Members) (event : ScriptedEvent)
    → event_in interrupts devices fields ≡ Ok event → Leaves devices event.what
unfolding event_in
event_leaves interrupts devices fields event taken =
    let (at, at_tick) = both (where_ok is_tick (number (get_member (codes "at") fields))) _ event taken in
    let value = get_member (codes "nmi") fields in
    let (what, at_what) = both (signal_in interrupts devices fields value) _ event at_tick.1 in
    let given : ScriptedEvent = record { at = at; what = what } in
    let same : given ≡ event = cc in
    subst (λ (e : ScriptedEvent). Leaves devices e.what) same
    (signal_leaves interrupts devices fields value what at_what.0)

timely_leaves : (interrupts : ℕ) (devices : List Device) (before : ℕ) (value : Data) (event : ScriptedEvent)
    → timely_event interrupts devices before value ≡ Ok event → Leaves devices event.what
unfolding timely_event
timely_leaves interrupts devices before value event taken =
    let (fields, at_fields) = both (of_kind (as_table value)) _ event taken in
    let (read, at_read) = both (event_in interrupts devices fields) _ event at_fields.1 in
    let (late, same) = timely_if (nat_lt read.at before) read event at_read.1 in
    subst (λ (e : ScriptedEvent). Leaves devices e.what) same (event_leaves interrupts devices fields read at_read.0)

script_leaves : (interrupts : ℕ) (devices : List Device) (before : ℕ) (items : Items) (events : List ScriptedEvent)
    → script_in interrupts devices before items ≡ Ok events → LeavesDriven devices events
unfolding script_in
script_leaves interrupts devices before no_items events taken =
    let same : [] ≡ events = cc in subst (LeavesDriven devices) same tt
script_leaves interrupts devices before (item value values) events taken =
    let (event, at_event) = both (timely_event interrupts devices before value) _ events taken in
    let (others, at_others) = front event (script_in interrupts devices event.at values) events at_event.1 in
    subst (LeavesDriven devices) at_others.1 (
      timely_leaves interrupts devices before value event at_event.0,
      script_leaves interrupts devices event.at values others at_others.0,
    )

-- devices and a script that were read are wired
pub are_wired : (numbers : Numbers) (document : Members) (devices : List Device) (interrupts before : ℕ) (items : Items)
    (events : List ScriptedEvent) → devices_at numbers document ≡ Ok devices
    → script_in interrupts devices before items ≡ Ok events → AreWired devices events
are_wired numbers document devices interrupts before items events read scripted =
    let wired = wired_at numbers document devices read in
    record {
      apart = wired.apart;
      steady = wired.steady;
      script = script_leaves interrupts devices before items events scripted;
    }
