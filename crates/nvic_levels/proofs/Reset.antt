-- After a reset no exception is in a set, and the settings are those of the reset.
use Rattle.std.proofs.Common.{◌≡◌, ℕ, ◌<◌, ◌≤◌, lit<, false, List, replicate, slice_index, refl, sym, subst}
use Rattle.std.proofs.Math.Nat.{min-le_right}
use Rattle.nvic.specs.declared.settings.Settings.{Settings}
use Rattle.nvic.specs.Settings.{settings_of}
use Rattle.nvic_levels.proofs.KeptLevels.{view_of}
use Rattle.nvic_levels.proofs.Lists.{flags_none}
use Rattle.nvic_levels.specs.Sets.{flags, level, is_waiting, IsKept}
use Rattle.platform.specs.declared.exception.TheConstants.{EXCEPTIONS, MAX_INTERRUPTS}
use Rattle.platform.specs.Priorities.{is_in_words, reset_nvic}

-- a set has no exception
abbrev HasNone : List ℕ → Type 0
HasNone set = (x : ℕ) → is_in_words set x ≡ false

kept_none : (levels : List (List ℕ)) (held enabled priorities : List ℕ)
    → ((p : ℕ) → HasNone (level levels p)) → HasNone held → IsKept levels held enabled priorities
kept_none levels held enabled priorities none out = record {
  in_level = λ p x h t. absurd (let f = none p x in let w : ⊥ = cc in w);
  in_held = λ x h t. absurd (let f = out x in let w : ⊥ = cc in w);
}

seen_none : (levels : List (List ℕ)) (held priorities : List ℕ)
    → ((p : ℕ) → HasNone (level levels p)) → HasNone held
    → flags (is_waiting levels held priorities) ≡ replicate EXCEPTIONS false
seen_none levels held priorities none out =
    flags_none (is_waiting levels held priorities) (λ x h. rw (out x, none (slice_index priorities x) x) refl)

set_none : (set : List ℕ) → HasNone set → flags (is_in_words set) ≡ replicate EXCEPTIONS false
set_none set none = flags_none (is_in_words set) (λ x h. none x)

-- the invariant of `BitLevels`
pub reset_kept : (levels : List (List ℕ)) (held enabled : List ℕ) (settings : Settings) (interrupts bits : ℕ)
    → ((p : ℕ) → HasNone (level levels p)) → HasNone held → settings ≡ settings_of (reset_nvic interrupts bits)
    → (settings.group < 8) × (settings.interrupts ≤ MAX_INTERRUPTS) × IsKept levels held enabled settings.priorities
reset_kept levels held enabled settings interrupts bits none out e =
    let P : Settings → Type 0 = λ s. (s.group < 8) × (s.interrupts ≤ MAX_INTERRUPTS)
    × IsKept levels held enabled s.priorities in
    subst P (sym e) (
      lit< tt,
      min-le_right interrupts MAX_INTERRUPTS,
      kept_none levels held enabled (replicate EXCEPTIONS 0) none out,
    )

-- what a contract sees
pub reset_is : (levels : List (List ℕ)) (held enabled active : List ℕ) (settings : Settings) (interrupts bits : ℕ)
    → ((p : ℕ) → HasNone (level levels p)) → HasNone held → HasNone enabled → HasNone active
    → settings ≡ settings_of (reset_nvic interrupts bits)
    → view_of levels held enabled active settings.priorities settings.group settings.masks settings.interrupts
    settings.priority_bits
    ≡ reset_nvic interrupts bits
reset_is levels held enabled active settings interrupts bits none out off idle e =
    let P : Settings → Type 0 = λ s.
    view_of levels held enabled active s.priorities s.group s.masks s.interrupts s.priority_bits
    ≡ reset_nvic interrupts bits in
    subst P (sym e)
    (rw (seen_none levels held (replicate EXCEPTIONS 0) none out, set_none enabled off, set_none active idle) refl)
