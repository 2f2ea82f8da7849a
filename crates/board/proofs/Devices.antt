-- Devices that were read: a device of its parts, and no device has an address past the address space.
use Rattle.std.proofs.Common.{◌≡◌, ◌∙◌, ℕ, ◌+◌, ◌%◌, ◌^◌, ◌<◌, ◌≤◌, Bool, true, false, nat_le, nat_lt, ◌==◌, List, []}
use Rattle.std.proofs.Common.{◌∷◌}
use Rattle.std.proofs.Common.{◌++◌, Option, Some, None, Result, Ok, Err, drop, get_or, length, length-append, ap}
use Rattle.std.proofs.Common.{refl, sym}
use Rattle.std.proofs.Common.{arith}
use Rattle.std.proofs.Math.ListN.{drop_of_length-le}
use Rattle.std.proofs.Props.{props}
use Rattle.std.proofs.lemmas.Bool.{eqb-true, leb-true, ltb-true}
use Rattle.std.proofs.lemmas.Bool.Decides.{nat_tests}
use Rattle.toml.proofs.Views.{items_view-drop}
use Rattle.toml.specs.View.{view, items_view}
use Rattle.toml.specs.declared.value.Value.{Value}
use Rattle.devices.specs.declared.device.Device.{Device}
use Rattle.devices.specs.declared.device.Line.{Line}
use Rattle.devices.specs.Table.{device_at, has}
use Rattle.platform.specs.declared.error.BoardError.{BoardError}
use Rattle.board.specs.declared.device_parts.Effects.{Effects}
use Rattle.platform.specs.Boards.{Numbers}
use Rattle.board.specs.Devices.{Span, Values, checked, device_of, devices_in, has_32_bits, line_of, listed_device}
use Rattle.board.specs.Values.{◌>>=◌}

-- a test that is passed, by any proof of what it tests
checked_by : {A P : Type 0} → (b : Bool) (make : b ≡ true → P) → IsProp P → (next : P → Result A BoardError) (p : P)
    → b ≡ true → (checked b make >>= next) ≡ next p
checked_by true make prop next p holds = ap next (prop (make refl) p)
checked_by false make prop next p holds = absurd cc

pub device_of_is : (span : Span) (values : Values) (effects : Effects) (line : Option Line) (near : values.by < 32)
    (base : span.base % 4 ≡ 0) (size : span.size % 4 ≡ 0) (within : span.base + span.size ≤ 2 ^ 32)
    → device_of span values effects line ≡ Ok (record {
      base = span.base;
      size = span.size;
      start = values.start;
      ones = values.ones;
      zeros = values.zeros;
      stores = values.stores;
      follows = values.follows;
      by = values.by;
      of = values.of;
      counts = values.counts;
      console = effects.console;
      load_poke = effects.load_poke;
      store_poke = effects.store_poke;
      line = line;
      near = near;
      base_is_whole = base;
      size_is_whole = size;
      within = within;
    })
unfolding device_of
device_of_is span values effects line near base size within =
    let near_prop : IsProp (values.by < 32) = hlevel props in
    let base_prop : IsProp (span.base % 4 ≡ 0) = hlevel props in
    let size_prop : IsProp (span.size % 4 ≡ 0) = hlevel props in
    let within_prop : IsProp (span.base + span.size ≤ 2 ^ 32) = hlevel props in
    let is_near : nat_lt values.by 32 ≡ true = grind (arith, nat_tests) in
    let is_base : (span.base % 4 == 0) ≡ true = grind (arith, nat_tests) in
    let is_size : (span.size % 4 == 0) ≡ true = grind (arith, nat_tests) in
    let is_within : nat_le (span.base + span.size) (2 ^ 32) ≡ true = grind (arith, nat_tests) in
    checked_by _ (ltb-true values.by 32) near_prop _ near is_near
    ∙ checked_by _ (eqb-true (span.base % 4) 0) base_prop _ base is_base
    ∙ checked_by _ (eqb-true (span.size % 4) 0) size_prop _ size is_size
    ∙ checked_by _ (leb-true (span.base + span.size) (2 ^ 32)) within_prop _ within is_within

-- a device ends in the address space
none_has : (d : Device) (a : ℕ) → has_32_bits a ≡ false → has d a ≡ false
none_has d a past =
    let within : d.base + d.size ≤ 2 ^ 32 = d.within in
    grind (arith, nat_tests)

-- so no device has an address past it
pub none_past : (devices : List Device) (a : ℕ) → has_32_bits a ≡ false → device_at devices a ≡ None
none_past [] a past = refl
none_past (d ∷ ds) a past = rw (none_has d a past) (none_past ds a past)

-- ---- a line of its parts

pub line_of_is : (interrupt enable : ℕ) (small : interrupt < 240)
    → line_of interrupt enable ≡ Ok (Some (record {
      number = interrupt;
      enable = enable;
      number_is_small = small;
    }))
unfolding line_of
line_of_is interrupt enable small =
    let small_prop : IsProp (interrupt < 240) = hlevel props in
    let is_small : nat_lt interrupt 240 ≡ true = grind (arith, nat_tests) in
    let line : interrupt < 240 → Line = λ (small : interrupt < 240). record {
      number = interrupt;
      enable = enable;
      number_is_small = small;
    } in
    lead (nat_lt interrupt 240) (λ passed. Some (line (ltb-true interrupt 240 passed))) (Some (line small)) is_small
    (λ passed. ap (λ (small : interrupt < 240). Some (line small)) (small_prop (ltb-true interrupt 240 passed) small))
  where
    lead : {A : Type 0} → (b : Bool) (make : b ≡ true → A) (a : A) → b ≡ true → ((holds : b ≡ true) → make holds ≡ a)
        → checked b make ≡ Ok a
    lead true make a is same = ap Ok (same refl)
    lead false make a is same = absurd cc

-- ---- the loop over the tables

-- the table at an index, and those after it
devices_in-next : (numbers : Numbers) (before : ℕ) (found : List Device) (values : List Value) (index : ℕ)
    (value : Value) → index < length values → value ≡ get_or values index value
    → devices_in numbers before found (items_view (drop index values))
    ≡ (listed_device numbers before found (view value)
    >>= (λ device. devices_in numbers (before + device.size) (found ++ device ∷ [])
    (items_view (drop (index + 1) values))))
unfolding devices_in
devices_in-next numbers before found values index value below is = rw (items_view-drop values index value below, ← is)

-- a table that is refused
pub refused : (numbers : Numbers) (before : ℕ) (found given : List Device) (values : List Value) (index : ℕ)
    (value : Value) (all : Result (List Device) BoardError) (error : BoardError) → index < length values
    → value ≡ get_or values index value → given ≡ found → listed_device numbers before given (view value) ≡ Err error
    → devices_in numbers before found (items_view (drop index values)) ≡ all → all ≡ Err error
refused numbers before found given values index value all error below is same outside whole =
    let outside : listed_device numbers before found (view value) ≡ Err error = rw (← same) outside in
    sym whole ∙ devices_in-next numbers before found values index value below is
    ∙ ap (λ (read : Result Device BoardError). read
    >>= (λ device. devices_in numbers (before + device.size) (found ++ device ∷ [])
    (items_view (drop (index + 1) values)))) outside

-- a table that is taken
pub taken : (numbers : Numbers) (before : ℕ) (found given next : List Device) (values : List Value) (index : ℕ)
    (value : Value) (all : Result (List Device) BoardError) (device : Device) (size : ℕ) → index < length values
    → value ≡ get_or values index value → given ≡ found → listed_device numbers before given (view value) ≡ Ok device
    → size ≡ device.size → next ≡ found ++ device ∷ []
    → devices_in numbers before found (items_view (drop index values)) ≡ all
    → devices_in numbers (before + size) next (items_view (drop (index + 1) values)) ≡ all
taken numbers before found given next values index value all device size below is same inside sized longer whole =
    let inside : listed_device numbers before found (view value) ≡ Ok device = rw (← same) inside in
    rw (sized, longer)
    (ap (λ (read : Result Device BoardError). read
    >>= (λ device. devices_in numbers (before + device.size) (found ++ device ∷ [])
    (items_view (drop (index + 1) values)))) (sym inside)
    ∙ sym (devices_in-next numbers before found values index value below is) ∙ whole)

-- no table is left
pub finished : (numbers : Numbers) (before : ℕ) (found : List Device) (values : List Value) (index : ℕ)
    (all : Result (List Device) BoardError) → length values ≤ index
    → devices_in numbers before found (items_view (drop index values)) ≡ all → all ≡ Ok found
unfolding devices_in
finished numbers before found values index all past whole =
    let nothing : drop index values ≡ [] = drop_of_length-le values past in
    sym whole ∙ ap (λ (left : List Value). devices_in numbers before found (items_view left)) nothing

pub one_longer : (found next : List Device) (device : Device) (n : ℕ) → next ≡ found ++ device ∷ []
    → length found ≡ n → length next ≡ n + 1
one_longer found next device n longer is = rw (longer, length-append found (device ∷ []), is) refl
