-- The lines of devices that were read are interrupts of the board.
use Rattle.std.proofs.Common.{◌≡◌, ℕ, ◌+◌, ◌%◌, ◌^◌, ◌<◌, ◌==◌, Bool, true, false, nat_le, nat_lt, List, [], ◌∷◌, ◌++◌}
use Rattle.std.proofs.Common.{codes, Option, Some, None}
use Rattle.std.proofs.Common.{Result, Ok, Err, refl, sym, ap, subst, arith}
use Rattle.std.proofs.lemmas.Bool.{eqb-true, leb-true, ltb-true}
use Rattle.std.proofs.lemmas.Bool.Decides.{nat_tests}
use Rattle.toml.specs.Data.{Data, Items, no_items, item, Members, as_table, get_member}
use Rattle.devices.specs.declared.device.Device.{Device}
use Rattle.devices.specs.declared.device.Line.{Line}
use Rattle.platform.specs.declared.error.BoardError.{BoardError}
use Rattle.platform.specs.Boards.{Numbers}
use Rattle.platform.specs.SystemInvariant.{HasLineOfBoard, HaveLinesOfBoard}
use Rattle.board.specs.declared.device_parts.Effects.{Effects}
use Rattle.board.specs.Devices.{Span, Values, checked, device_in, device_of, devices_at, devices_in, effects_in}
use Rattle.board.specs.Devices.{is_device_line}
use Rattle.board.specs.Devices.{is_followed, known_keys, line_in, line_of, listed_device, max_devices, span_in}
use Rattle.board.specs.Devices.{values_in}
use Rattle.board.specs.Values.{◌>>=◌, number, of_kind, tables_at, where_ok}
use Rattle.board.proofs.Ordered.{both, in_range}

-- what is made where a test holds
pub made : {A : Type 0} → (b : Bool) (make : b ≡ true → A) (a : A) → checked b make ≡ Ok a
    → (holds : b ≡ true) × (make holds ≡ a)
made true make a is = (refl, cc)
made false make a is = absurd cc

below : (interrupts : ℕ) (devices : List Device) (span : Span) (counts : Bool) (interrupt : ℕ)
    → is_device_line interrupts devices span counts interrupt ≡ true → interrupt < interrupts
below interrupts devices span counts interrupt is = grind (arith, nat_tests)

line_is : (interrupts : ℕ) (devices : List Device) (span : Span) (counts : Bool) (table : Members)
    (value : Option Data) (line : Option Line) → line_in interrupts devices span counts table value ≡ Ok line
    → HasLineOfBoard interrupts line
unfolding line_in line_of
line_is interrupts devices span counts table None line taken =
    let same : None ≡ line = cc in
    subst (HasLineOfBoard interrupts) same tt
line_is interrupts devices span counts table (Some value) line taken =
    let ok = is_device_line interrupts devices span counts in
    let (interrupt, at_interrupt) = both (where_ok ok (number (Some value))) _ line taken in
    let (enable, at_enable) = both (where_ok (is_followed devices span) (number (get_member (codes "enable") table))) _
    line at_interrupt.1 in
    let (small, same) = made (nat_lt interrupt 240) _ line at_enable.1 in
    let passed : ok interrupt ≡ true = in_range ok (number (Some value)) interrupt at_interrupt.0 in
    subst (HasLineOfBoard interrupts) same (below interrupts devices span counts interrupt passed)

-- a test that was passed
pub passed : {A P : Type 0} → (b : Bool) (make : b ≡ true → P) (next : P → Result A BoardError) (a : A)
    → (checked b make >>= next) ≡ Ok a → (p : P) × (next p ≡ Ok a)
passed true make next a is = (make refl, is)
passed false make next a is = absurd cc

-- a device has the line of its table
has_line : (span : Span) (values : Values) (effects : Effects) (line : Option Line) (device : Device)
    → device_of span values effects line ≡ Ok device → line ≡ device.line
unfolding device_of
has_line span values effects line device taken =
    let (near, at_near) = passed (nat_lt values.by 32) (ltb-true values.by 32) _ device taken in
    let (base, at_base) = passed (span.base % 4 == 0) (eqb-true (span.base % 4) 0) _ device at_near in
    let (size, at_size) = passed (span.size % 4 == 0) (eqb-true (span.size % 4) 0) _ device at_base in
    let end = span.base + span.size in
    let (within, at_within) = passed (nat_le end (2 ^ 32)) (leb-true end (2 ^ 32)) _ device at_size in
    ap (λ (read : Result Device BoardError). line_read read) at_within
  where
    line_read : Result Device BoardError → Option Line
    line_read (Ok d) = d.line
    line_read (Err error) = None

device_is : (numbers : Numbers) (before : ℕ) (devices : List Device) (table : Members) (device : Device)
    → device_in numbers before devices table ≡ Ok device → HasLineOfBoard numbers.interrupts device.line
unfolding device_in
device_is numbers before devices table device taken =
    let (span, at_span) = both (span_in numbers before table) _ device taken in
    let (values, at_values) = both (values_in devices span table) _ device at_span.1 in
    let (effects, at_effects) = both (effects_in devices span table) _ device at_values.1 in
    let read = line_in numbers.interrupts devices span values.counts table (get_member (codes "line") table) in
    let (line, at_line) = both read _ device at_effects.1 in
    let (known, at_known) = both (known_keys table) _ device at_line.1 in
    subst (HasLineOfBoard numbers.interrupts) (has_line span values effects line device at_known.1)
    (line_is numbers.interrupts devices span values.counts table (get_member (codes "line") table) line at_line.0)

listed_is : (numbers : Numbers) (before : ℕ) (devices : List Device) (value : Data) (device : Device)
    → listed_device numbers before devices value ≡ Ok device → HasLineOfBoard numbers.interrupts device.line
unfolding listed_device
listed_is numbers before devices value device taken =
    let (table, at_table) = both (of_kind (as_table value)) _ device taken in
    device_is numbers before devices table device at_table.1

-- one device more
one_more : (interrupts : ℕ) (devices : List Device) (device : Device) → HaveLinesOfBoard interrupts devices
    → HasLineOfBoard interrupts device.line → HaveLinesOfBoard interrupts (devices ++ device ∷ [])
one_more interrupts [] device before here = (here, tt)
one_more interrupts (d ∷ ds) device before here = (before.0, one_more interrupts ds device before.1 here)

lines_are : (numbers : Numbers) (before : ℕ) (devices : List Device) (items : Items) (all : List Device)
    → devices_in numbers before devices items ≡ Ok all → HaveLinesOfBoard numbers.interrupts devices
    → HaveLinesOfBoard numbers.interrupts all
unfolding devices_in
lines_are numbers before devices no_items all taken are =
    let same : devices ≡ all = cc in
    subst (HaveLinesOfBoard numbers.interrupts) same are
lines_are numbers before devices (item value others) all taken are =
    let (device, at_device) = both (listed_device numbers before devices value) _ all taken in
    lines_are numbers (before + device.size) (devices ++ device ∷ []) others all at_device.1
    (one_more numbers.interrupts devices device are (listed_is numbers before devices value device at_device.0))

pub lines_at : (numbers : Numbers) (document : Members) (all : List Device) → devices_at numbers document ≡ Ok all
    → HaveLinesOfBoard numbers.interrupts all
unfolding devices_at
lines_at numbers document all taken =
    let (tables, at_tables) = both (tables_at max_devices (get_member (codes "device") document)) _ all taken in
    lines_are numbers 0 [] tables all at_tables.1 tt
