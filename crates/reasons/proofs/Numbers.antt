-- Why a value is refused, by its kind.
use Rattle.std.proofs.Common.{◌≡◌, ℕ, ℤ, pos, negsuc, Bool, true, false, List, Option, Some, None, is_some, Ok, Err}
use Rattle.std.proofs.Common.{arith}
use Rattle.devices.specs.declared.device.Stores.{Stores}
use Rattle.board.specs.Devices.{stores_named}
use Rattle.board.specs.Texts.{change, nmi}
use Rattle.board.specs.Values.{whole}
use Rattle.platform.specs.declared.error.BoardError.{BoardError}
use Rattle.platform.specs.declared.error.BoardError.TheVariants.{WrongKind, OutOfRange}

-- an integer that is refused is below 0
pub below_zero : (value : Option ℤ) (error : BoardError) → whole value ≡ Err error → is_some value ≡ true
    → error ≡ OutOfRange
below_zero (Some (pos n)) error refused is = cc
below_zero (Some (negsuc n)) error refused is = cc
below_zero None error refused is = cc

pub no_integer : (value : Option ℤ) (error : BoardError) → whole value ≡ Err error → is_some value ≡ false
    → error ≡ WrongKind
no_integer (Some value) error refused is = cc
no_integer None error refused is = cc

-- what is read as a whole number is an integer
pub is_integer : (value : Option ℤ) (n : ℕ) → whole value ≡ Ok n → is_some value ≡ true
is_integer (Some value) n read = cc
is_integer None n read = cc

-- a boolean that is refused is false
pub false_nmi : (value : Option Bool) (error : BoardError) → nmi value ≡ Err error → is_some value ≡ true
    → error ≡ OutOfRange
false_nmi (Some true) error refused is = cc
false_nmi (Some false) error refused is = cc
false_nmi None error refused is = cc

pub no_boolean : (value : Option Bool) (error : BoardError) → nmi value ≡ Err error → is_some value ≡ false
    → error ≡ WrongKind
no_boolean (Some value) error refused is = cc
no_boolean None error refused is = cc

-- a word that names no change is out of range
pub no_change : (line : ℕ) (name : List ℕ) (error : BoardError) → change line name ≡ Err error → error ≡ OutOfRange
no_change line name error refused = grind arith

-- likewise a word that names nothing that a store does
pub no_stores : (name : List ℕ) (error : BoardError) → stores_named name ≡ Err error → error ≡ OutOfRange
no_stores name error refused = grind arith

pub ruleset integer_lemmas = (below_zero, no_integer, is_integer)

pub ruleset nmi_lemmas = (false_nmi, no_boolean)
