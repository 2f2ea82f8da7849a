-- What settles is settled: where no two levels are of the same interrupt, each interrupt is at its level after all.
use Rattle.std.proofs.Common.{◌≡◌, ◌≢◌, ◌<◌, ℕ, Bool, true, false, not, ◌==◌, List, [], ◌∷◌, ◌++◌, Option, Some, None}
use Rattle.std.proofs.Common.{length, refl, sym, ◌∙◌}
use Rattle.std.proofs.lemmas.Bool.{both_ways, cond_both, eq-eqb, not-false, not-true, or_parts}
use Rattle.std.proofs.lemmas.List.{get_or-set_other, get_or-set_same, length-set}
use Rattle.devices.specs.declared.device.Line.{Line}
use Rattle.devices.specs.declared.level.Level.{Level}
use Rattle.devices.specs.Devices.{DeviceWords}
use Rattle.devices.specs.Lines.{is_line_of, level_of, level_on, levels_by}
use Rattle.line_laws.specs.LineLaw.{AreAt}
use Rattle.platform.specs.declared.exception.TheConstants.{MAX_INTERRUPTS}
use Rattle.platform.specs.declared.script.Signal.{Signal}
use Rattle.platform.specs.declared.script.Signal.TheVariants.{Rise, Fall, Pulse, Nmi, Poke}
use Rattle.platform.specs.System.{System, with_level, with_levels}
use Rattle.platform.specs.SystemInvariant.{table_of}
use Rattle.platform.specs.Time.{is_high, with_signal}
use Rattle.platform.specs.Wiring.{DriveApart, IsUndriven, is_driven}

-- ---- one level

pub signal_length : (high : List Bool) (what : Signal) → length (with_signal high what) ≡ length high
signal_length high (Rise interrupt) = length-set high interrupt true
signal_length high (Fall interrupt) = length-set high interrupt false
signal_length high (Pulse interrupt) = refl
signal_length high Nmi = refl
signal_length high (Poke p) = refl

-- there is an input for each interrupt that there can be
abbrev pub HasInputs : System → Type 0
HasInputs s = length s.time.high ≡ MAX_INTERRUPTS

level_inputs : (s : System) (l : Level) → HasInputs s → HasInputs (with_level s l)
level_inputs s l h =
    cond_both (not l.is_high) _ _ HasInputs (λ e. signal_length s.time.high (Fall l.number) ∙ h)
    (λ e. cond_both (is_high s.time l.number) _ _ HasInputs (λ f. h)
    (λ f. signal_length s.time.high (Rise l.number) ∙ h))

level_reached : (s : System) (l : Level) → HasInputs s → is_high (with_level s l).time l.number ≡ l.is_high
level_reached s l h =
    let there : l.number < length s.time.high = rw h l.number_is_small in
    cond_both (not l.is_high) _ _ (λ (t : System). is_high t.time l.number ≡ l.is_high)
    (λ e. get_or-set_same s.time.high l.number false false there ∙ sym (not-true l.is_high e))
    (λ e. cond_both (is_high s.time l.number) _ _ (λ (t : System). is_high t.time l.number ≡ l.is_high)
    (λ f. f ∙ sym (not-false l.is_high e))
    (λ f. get_or-set_same s.time.high l.number true false there ∙ sym (not-false l.is_high e)))

level_leaves : (s : System) (l : Level) (n : ℕ) → n ≢ l.number
    → is_high (with_level s l).time n ≡ is_high s.time n
level_leaves s l n other =
    cond_both (not l.is_high) _ _ (λ (t : System). is_high t.time n ≡ is_high s.time n)
    (λ e. get_or-set_other s.time.high l.number n false false other)
    (λ e. cond_both (is_high s.time l.number) _ _ (λ (t : System). is_high t.time n ≡ is_high s.time n) (λ f. refl)
    (λ f. get_or-set_other s.time.high l.number n true false other))

-- ---- a list of levels

-- none of these levels is of an interrupt
abbrev AreOfOthers : ℕ → List Level → Type 0
AreOfOthers n [] = Unit {0}
AreOfOthers n (l ∷ ls) = (n ≢ l.number) × AreOfOthers n ls

-- no two of them are of the same interrupt
abbrev AreApart : List Level → Type 0
AreApart [] = Unit {0}
AreApart (l ∷ ls) = AreOfOthers l.number ls × AreApart ls

levels_leave : (s : System) (ls : List Level) (n : ℕ) → AreOfOthers n ls
    → is_high (with_levels s ls).time n ≡ is_high s.time n
levels_leave s [] n others = refl
levels_leave s (l ∷ ls) n others = levels_leave (with_level s l) ls n others.1 ∙ level_leaves s l n others.0

levels_reached : (s : System) (ls : List Level) → AreApart ls → HasInputs s → AreAt (with_levels s ls).time ls
levels_reached s [] apart h = tt
levels_reached s (l ∷ ls) apart h = (
  levels_leave (with_level s l) ls l.number apart.0 ∙ level_reached s l h,
  levels_reached (with_level s l) ls apart.1 (level_inputs s l h),
)

-- ---- the levels of devices

different : (a b : ℕ) → (b == a) ≡ false → a ≢ b
different a b e = λ same. both_ways (b == a) e (eq-eqb b a (sym same))

module _ (value : ℕ → Option ℕ) where
  of_others : (ds : List DeviceWords) (n : ℕ) → is_driven (table_of ds) n ≡ false → AreOfOthers n (levels_by value ds)
  unfolding level_on
  of_others [] n none = tt
  of_others (d ∷ ds) n none =
      let parts = or_parts (is_line_of d.device.line n) (is_driven (table_of ds) n) none in
      by d.device.line parts.0 (of_others ds n parts.1)
    where
      by : (line : Option Line) → is_line_of line n ≡ false → AreOfOthers n (levels_by value ds)
          → AreOfOthers n (level_of value d.device line ++ levels_by value ds)
      by None other rest = rest
      by (Some line) other rest = (different n line.number other, rest)

  pub are_apart : (ds : List DeviceWords) → DriveApart (table_of ds) → AreApart (levels_by value ds)
  unfolding level_on
  are_apart [] apart = tt
  are_apart (d ∷ ds) apart = by d.device.line apart.0 (are_apart ds apart.1)
    where
      by : (line : Option Line) → IsUndriven (table_of ds) line → AreApart (levels_by value ds)
          → AreApart (level_of value d.device line ++ levels_by value ds)
      by None alone rest = rest
      by (Some line) alone rest = (of_others ds line.number alone, rest)

-- after the levels of devices were applied, each is reached
pub devices_reached : (s : System) (value : ℕ → Option ℕ) (ds : List DeviceWords) → DriveApart (table_of ds)
    → HasInputs s → AreAt (with_levels s (levels_by value ds)).time (levels_by value ds)
devices_reached s value ds apart h = levels_reached s (levels_by value ds) (are_apart value ds apart) h
