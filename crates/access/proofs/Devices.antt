-- Which accesses are to devices.
use Rattle.std.proofs.Common.{◌≡◌, ℕ, Bool, true, false, not, ◌&&◌, ◌||◌, List, [], ◌∷◌, Option, Some, None}
use Rattle.std.proofs.Common.{is_some, refl, sym}
use Rattle.devices.specs.Devices.{DeviceWords, position_from}
use Rattle.devices.proofs.Positions.{first_has, none_have as none_found}
use Rattle.devices.specs.Laws.{has_device_at}
use Rattle.instruction_set.specs.Sizes.{bytes_in}
use Rattle.platform.specs.declared.access.Access.{Access}
use Rattle.platform.specs.Kinds.{is_load, is_store}
use Rattle.platform.specs.Memory.{is_in_memory}
use Rattle.platform.specs.System.{has_devices}
use Rattle.reference.specs.Accesses.{is_to_device}
use Rattle.reference.specs.State.{Bus}

-- the last of three tests that hold
third : (x y z : Bool) → (x && (y && z)) ≡ true → z ≡ true
third true true z e = e
third true false z e = absurd cc
third false y z e = absurd cc

-- an access to a device is to a word that there is
pub device_there : (b : Bus) (a : Access) → is_to_device b a ≡ true → has_device_at b.system.devices a.address ≡ true
device_there b a e =
    third (is_load a.kind || is_store a.kind) (not (is_in_memory b.memory a.address (bytes_in a.size)))
    (has_device_at b.system.devices a.address) e

no_third : (x y : Bool) → (x && (y && false)) ≡ false
no_third true true = refl
no_third true false = refl
no_third false y = refl

not_third : (x z : Bool) → (x && (false && z)) ≡ false
not_third true z = refl
not_third false z = refl

none_have : (ds : List DeviceWords) (a : ℕ) → has_devices ds ≡ false → has_device_at ds a ≡ false
none_have [] a e = refl
none_have (d ∷ ds) a e = absurd cc

-- where the board describes none, none is
pub no_device : (b : Bus) (a : Access) → has_devices b.system.devices ≡ false → is_to_device b a ≡ false
no_device b a e =
    rw (none_have b.system.devices a.address e)
    (no_third (is_load a.kind || is_store a.kind) (not (is_in_memory b.memory a.address (bytes_in a.size))))

-- an access to memory isn't
pub in_memory : (b : Bus) (a : Access) → is_in_memory b.memory a.address (bytes_in a.size) ≡ true →
    is_to_device b a ≡ false
in_memory b a e = rw e (not_third (is_load a.kind || is_store a.kind) (has_device_at b.system.devices a.address))

-- a device is found where one has the address
pub some_where_had : (ds : List DeviceWords) (a : ℕ) (at : Option ℕ) → at ≡ position_from 0 ds a →
    is_some at ≡ has_device_at ds a
some_where_had ds a None e = sym (none_found ds a (sym e))
some_where_had ds a (Some k) e = sym (first_has ds a k (sym e))
