-- What a table of a device means (profile): its keys one after another, each tested where it is read, so that the first
-- refusal is the result.
use Rattle.std.specs.Prelude.{◌≡◌, ℕ, ◌+◌, ◌%◌, ◌^◌, ◌<◌, ◌≤◌, Bool, true, false, ◌&&◌, ◌||◌, ◌==◌, not, nat_le, nat_lt}
use Rattle.std.specs.Prelude.{bit_and, if◌then◌else◌, is_some, List, [], ◌∷◌, ◌++◌, codes, bytes_eq, Option, Some, None}
use Rattle.std.specs.Prelude.{Result, Ok, Err, refl}
use Rattle.std.proofs.lemmas.Bool.{eqb-true, leb-true, ltb-true}
use Rattle.toml.specs.Data.{Data, Items, no_items, item, Members, as_bool, as_str, as_table, get_member}
use Rattle.devices.specs.declared.device.Device.{Device}
use Rattle.devices.specs.declared.device.Line.{Line}
use Rattle.devices.specs.declared.device.Poke.{Poke}
use Rattle.devices.specs.declared.device.Stores.{Stores}
use Rattle.devices.specs.declared.device.Stores.TheVariants.{Kept, Ignored, OnesClear, ZerosClear}
use Rattle.devices.specs.Table.{device_at}
use Rattle.platform.specs.Wiring.{is_driven}
use Rattle.platform.specs.declared.error.BoardError.{BoardError}
use Rattle.platform.specs.declared.error.BoardError.TheVariants.{OutOfRange, UnknownKey}
use Rattle.platform.specs.Boards.{Numbers, RamSpan}
use Rattle.platform.specs.Map.{are_apart, ram_base}
use Rattle.board.specs.declared.device_parts.Effects.{Effects}
use Rattle.board.specs.Values.{◌>>=◌, has_only, number, number_or, of_kind, tables_at, where_ok}

-- ---- single values

-- a number of 32 bits
abbrev pub has_32_bits : ℕ → Bool
has_32_bits n = nat_lt n (2 ^ 32)

-- the 32 bits at a key that may be missing: then they are 0
abbrev pub bits_at : List ℕ → Members → Result ℕ BoardError
bits_at key table = where_ok has_32_bits (number_or 0 (get_member key table))

-- the boolean at a key that may be missing: then it is false
abbrev pub flag : Option Data → Result Bool BoardError
flag None = Ok false
flag (Some value) = of_kind (as_bool value)

-- what a store does, by its name
abbrev pub stores_named : List ℕ → Result Stores BoardError
stores_named name =
    if bytes_eq name (codes "kept") then Ok Kept
    else if bytes_eq name (codes "ignored") then Ok Ignored
    else if bytes_eq name (codes "ones-clear") then Ok OnesClear
    else if bytes_eq name (codes "zeros-clear") then Ok ZerosClear
    else Err OutOfRange

abbrev pub stores_at : Option Data → Result Stores BoardError
stores_at None = Ok Kept
stores_at (Some value) = do
  name ← of_kind (as_str value)
  stores_named name

-- what is made where a test holds
abbrev pub checked : {A : Type 0} → (b : Bool) → (b ≡ true → A) → Result A BoardError
checked true make = Ok (make refl)
checked false make = Err OutOfRange

-- ---- where a device is

-- the Private Peripheral Bus has a mebibyte from here on
abbrev pub ppb_base : ℕ
ppb_base = 0xE000_0000

abbrev pub ppb_size : ℕ
ppb_size = 0x10_0000

-- no byte of the span is in the second RAM, if there is one
abbrev pub is_beside : Option RamSpan → ℕ → ℕ → Bool
is_beside None base size = true
is_beside (Some second) base size = are_apart second.base second.size base size

-- no byte of the span is in memory or in the Private Peripheral Bus
abbrev pub is_outside : Numbers → ℕ → ℕ → Bool
is_outside numbers base size =
    are_apart numbers.flash_base numbers.flash_size base size
    && (are_apart ram_base numbers.ram_size base size
    && (is_beside numbers.second_ram base size && are_apart ppb_base ppb_size base size))

-- all devices of a board have a mebibyte at most
abbrev pub max_device_bytes : ℕ
max_device_bytes = 0x10_0000

-- a device may begin here
abbrev pub is_device_base : ℕ → Bool
is_device_base base = (base % 4 == 0) && nat_le base 0xFFFF_FFFC

-- and have this many bytes
abbrev pub is_device_bytes : ℕ → Bool
is_device_bytes size = (size % 4 == 0) && (nat_le 4 size && nat_le size 65536)

-- likewise on a board with these numbers, where the devices before it have `before` bytes
abbrev pub is_device_size : Numbers → ℕ → ℕ → ℕ → Bool
is_device_size numbers before base size =
    is_device_bytes size
    && (nat_le (base + size) (2 ^ 32)
    && (is_outside numbers base size && nat_le (before + size) max_device_bytes))

pub record Span : Type 0 where
  pub base : ℕ
  pub size : ℕ

unfoldable pub span_in : Numbers → ℕ → Members → Result Span BoardError
span_in numbers before table = do
  base ← where_ok is_device_base (number (get_member (codes "base") table))
  size ← where_ok (is_device_size numbers before base) (number_or 4 (get_member (codes "size") table))
  Ok (record { base = base; size = size })

-- ---- words that a table names: of a device before it, or of its own

abbrev pub is_own : Span → ℕ → Bool
is_own span a = nat_le span.base a && nat_lt a (span.base + span.size)

-- whether one of some devices has the address
abbrev pub is_in_device : List Device → ℕ → Bool
is_in_device devices a = is_some (device_at devices a)

-- the address of a word of one of some devices
abbrev pub is_device_word : List Device → ℕ → Bool
is_device_word devices a = (a % 4 == 0) && is_in_device devices a

abbrev pub is_named : List Device → Span → ℕ → Bool
is_named devices span a = (a % 4 == 0) && (is_in_device devices a || is_own span a)

-- whether a device, if there is one, counts
abbrev pub counts_in : Option Device → Bool
counts_in None = false
counts_in (Some d) = d.counts

-- such a word that doesn't count, by the devices before
abbrev pub is_followed : List Device → Span → ℕ → Bool
is_followed devices span a = is_named devices span a && not (counts_in (device_at devices a))

-- ---- what its words read as

pub record Values : Type 0 where
  pub start : ℕ
  pub ones : ℕ
  pub zeros : ℕ
  pub stores : Stores
  pub follows : ℕ
  pub by : ℕ
  pub of : Option ℕ
  pub counts : Bool

-- the address at a key that may be missing
abbrev pub address_where : (ℕ → Bool) → Option Data → Result (Option ℕ) BoardError
address_where ok None = Ok None
address_where ok (Some value) = do
  address ← where_ok ok (number (Some value))
  Ok (Some address)

unfoldable pub values_in : List Device → Span → Members → Result Values BoardError
values_in devices span table = do
  start ← bits_at (codes "start") table
  ones ← bits_at (codes "ones") table
  zeros ← where_ok (λ n. bit_and n ones == 0) (bits_at (codes "zeros") table)
  stores ← stores_at (get_member (codes "stores") table)
  follows ← bits_at (codes "follows") table
  by ← where_ok (λ n. nat_lt n 32) (number_or 1 (get_member (codes "by") table))
  of ← address_where (is_followed devices span) (get_member (codes "of") table)
  counts ← flag (get_member (codes "counts") table)
  Ok (record {
    start = start;
    ones = ones;
    zeros = zeros;
    stores = stores;
    follows = follows;
    by = by;
    of = of;
    counts = counts;
  })

-- ---- what a load and a store do

-- the poke whose address is at one key, where there is one, and its value at another
abbrev pub poke_where : (ℕ → Bool) → List ℕ → Members → Option Data → Result (Option Poke) BoardError
poke_where ok key table None = Ok None
poke_where ok key table (Some value) = do
  address ← where_ok ok (number (Some value))
  content ← where_ok has_32_bits (number (get_member key table))
  Ok (Some (record { address = address; value = content }))

unfoldable pub effects_in : List Device → Span → Members → Result Effects BoardError
effects_in devices span table = do
  console ← flag (get_member (codes "console") table)
  load_poke ←
      poke_where (is_named devices span) (codes "load_value") table (get_member (codes "load_poke") table)
  store_poke ←
      poke_where (is_named devices span) (codes "store_value") table (get_member (codes "store_poke") table)
  Ok (record { console = console; load_poke = load_poke; store_poke = store_poke })

-- ---- its line

-- an interrupt of the board that no device before drives, for a device whose first word is its own and doesn't count
abbrev pub is_device_line : ℕ → List Device → Span → Bool → ℕ → Bool
is_device_line interrupts devices span counts interrupt =
    nat_lt interrupt interrupts
    && (not (is_driven devices interrupt) && (not counts && not (is_in_device devices span.base)))

-- a line of its parts; the test is one that its number has passed
unfoldable pub line_of : ℕ → ℕ → Result (Option Line) BoardError
line_of interrupt enable =
    checked (nat_lt interrupt 240) (λ small. Some (record {
      number = interrupt;
      enable = enable;
      number_is_small = ltb-true interrupt 240 small;
    }))

-- a line and the word that enables it, none that counts
unfoldable pub line_in : ℕ → List Device → Span → Bool → Members → Option Data → Result (Option Line) BoardError
line_in interrupts devices span counts table None = Ok None
line_in interrupts devices span counts table (Some value) = do
  interrupt ← where_ok (is_device_line interrupts devices span counts) (number (Some value))
  enable ← where_ok (is_followed devices span) (number (get_member (codes "enable") table))
  line_of interrupt enable

-- ---- one table, and all

abbrev pub device_keys : List (List ℕ)
device_keys =
    codes "base" ∷ codes "size" ∷ codes "start" ∷ codes "ones" ∷ codes "zeros" ∷ codes "stores" ∷ codes "follows"
    ∷ codes "by" ∷ codes "of" ∷ codes "counts" ∷ codes "console" ∷ codes "load_poke" ∷ codes "load_value"
    ∷ codes "store_poke" ∷ codes "store_value" ∷ codes "line" ∷ codes "enable" ∷ []

abbrev pub has_key : List ℕ → Members → Bool
has_key key table = is_some (get_member key table)

-- a table has a key only beside another one
abbrev pub goes_with : List ℕ → List ℕ → Members → Bool
goes_with other key table = has_key other table || not (has_key key table)

-- each key of a table is one of a device, and the table has the one that it goes with
abbrev pub has_device_keys : Members → Bool
has_device_keys table =
    has_only device_keys table
    && (goes_with (codes "load_poke") (codes "load_value") table
    && (goes_with (codes "store_poke") (codes "store_value") table
    && goes_with (codes "line") (codes "enable") table))

abbrev pub known_keys : Members → Result Members BoardError
known_keys table = if has_device_keys table then Ok table else Err UnknownKey

-- a device of these parts; the tests are those that its parts have passed
unfoldable pub device_of : Span → Values → Effects → Option Line → Result Device BoardError
device_of span values effects line = do
  near ← checked (nat_lt values.by 32) (ltb-true values.by 32)
  base ← checked (span.base % 4 == 0) (eqb-true (span.base % 4) 0)
  size ← checked (span.size % 4 == 0) (eqb-true (span.size % 4) 0)
  within ← checked (nat_le (span.base + span.size) (2 ^ 32)) (leb-true (span.base + span.size) (2 ^ 32))
  Ok (record {
    base = span.base;
    size = span.size;
    start = values.start;
    ones = values.ones;
    zeros = values.zeros;
    stores = values.stores;
    follows = values.follows;
    by = values.by;
    of = values.of;
    counts = values.counts;
    console = effects.console;
    load_poke = effects.load_poke;
    store_poke = effects.store_poke;
    line = line;
    near = near;
    base_is_whole = base;
    size_is_whole = size;
    within = within;
  })

-- a device after those before it, which have `before` bytes
unfoldable pub device_in : Numbers → ℕ → List Device → Members → Result Device BoardError
device_in numbers before devices table = do
  span ← span_in numbers before table
  values ← values_in devices span table
  effects ← effects_in devices span table
  line ← line_in numbers.interrupts devices span values.counts table (get_member (codes "line") table)
  known ← known_keys table
  device_of span values effects line

-- a device of a list of tables
unfoldable pub listed_device : Numbers → ℕ → List Device → Data → Result Device BoardError
listed_device numbers before devices value = do
  table ← of_kind (as_table value)
  device_in numbers before devices table

-- the devices of a list of tables, after those before it, which have `before` bytes
unfoldable pub devices_in : Numbers → ℕ → List Device → Items → Result (List Device) BoardError
devices_in numbers before devices no_items = Ok devices
devices_in numbers before devices (item value others) = do
  device ← listed_device numbers before devices value
  devices_in numbers (before + device.size) (devices ++ device ∷ []) others

-- a board has at most this many devices
abbrev pub max_devices : ℕ
max_devices = 256

-- the devices of a document
unfoldable pub devices_at : Numbers → Members → Result (List Device) BoardError
devices_at numbers document = do
  tables ← tables_at max_devices (get_member (codes "device") document)
  devices_in numbers 0 [] tables
