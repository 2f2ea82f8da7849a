-- The digits of ticks as they are kept for the head of a line: all but the last one.
use Rattle.std.specs.Prelude.{◌≡◌, ℕ, zero, suc, ◌/◌, ◌%◌, ◌^◌, ◌<◌, ◌≤◌, List, [], take, decimal}

-- the digits of a tenth of a number: none where it is below ten
abbrev pub front_of : ℕ → List ℕ
front_of zero = []
front_of (suc tenth) = decimal (suc tenth)

-- the first `count` of the bytes `front` are the digits before the last one, of the ten ticks from `first` on
pub record AreDigits (front : List ℕ) (count first : ℕ) : Type 0 where
  pub front_digits : take count front ≡ front_of (first / 10)
  pub whole_ten : first % 10 ≡ 0
  pub few : count ≤ 20
  pub fits : first < 2 ^ 64
