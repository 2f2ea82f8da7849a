-- Of devices that have no address in common, each that has an address is the first that has it.
use Rattle.std.proofs.Common.{◌≡◌, ℕ, zero, suc, ◌+◌, ◌<◌, Bool, true, false, ◌&&◌, List, [], ◌∷◌, length}
use Rattle.std.proofs.Common.{slice_index_or, Some, refl, ap, arith, ◌∙◌}
use Rattle.std.proofs.lemmas.Bool.{and_parts}
use Rattle.std.proofs.lemmas.Bool.Decides.{nat_tests}
use Rattle.devices.specs.declared.device.Device.{Device}
use Rattle.devices.specs.Apart.{are_apart, are_two_apart, is_apart_from}
use Rattle.devices.specs.Devices.{DeviceWords, position_from}
use Rattle.devices.specs.Table.{has}

-- of two such devices only one has an address
only_one : (d e : Device) (a : ℕ) → are_two_apart d e ≡ true → has e a ≡ true → has d a ≡ false
only_one d e a apart there = by (has d a) refl
  where
    by : (x : Bool) → has d a ≡ x → x ≡ false
    by true h = absurd grind (arith, nat_tests, apart, there, h)
    by false h = refl

not_before : (d : Device) (ds : List DeviceWords) (a c : ℕ) (x : DeviceWords) → is_apart_from d ds ≡ true →
    c < length ds → has (slice_index_or ds c x).device a ≡ true → has d a ≡ false
not_before d [] a c x apart small there = absurd (let wrong : ⊥ = omega arith in wrong)
not_before d (e ∷ es) a zero x apart small there =
    only_one d e.device a (and_parts (are_two_apart d e.device) (is_apart_from d es) apart).0 there
not_before d (e ∷ es) a (suc c) x apart small there =
    not_before d es a c x (and_parts (are_two_apart d e.device) (is_apart_from d es) apart).1 (omega arith) there

first_of_all : (k : ℕ) (ds : List DeviceWords) (a c : ℕ) (x : DeviceWords) → are_apart ds ≡ true →
    c < length ds → has (slice_index_or ds c x).device a ≡ true → position_from k ds a ≡ Some (k + c)
first_of_all k [] a c x apart small there = absurd (let wrong : ⊥ = omega arith in wrong)
first_of_all k (d ∷ ds) a zero x apart small there =
    (let same : k ≡ k + 0 = omega arith in rw there (ap (λ n. Some n) same))
first_of_all k (d ∷ ds) a (suc c) x apart small there =
    let (one, others) = and_parts (is_apart_from d.device ds) (are_apart ds) apart in
    let h : has d.device a ≡ false = not_before d.device ds a c x one (omega arith) there in
    let same : suc k + c ≡ k + suc c = omega arith in
    rw h (first_of_all (suc k) ds a c x others (omega arith) there ∙ ap (λ n. Some n) same)

pub near_is_first : (ds : List DeviceWords) (a c : ℕ) (x : DeviceWords) → are_apart ds ≡ true → c < length ds →
    has (slice_index_or ds c x).device a ≡ true → position_from 0 ds a ≡ Some c
near_is_first ds a c x apart small there =
    let same : 0 + c ≡ c = omega arith in
    first_of_all 0 ds a c x apart small there ∙ ap (λ n. Some n) same
