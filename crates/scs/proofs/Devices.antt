-- Devices: what their accesses leave, the pokes of a tick, and the levels of lines, made or foreseen.
use Rattle.std.proofs.Common.{◌≡◌, ◌≢◌, ℕ, ◌+◌, ◌<◌, Bool, true, false, not, ◌||◌, ◌==◌, if◌then◌else◌}
use Rattle.std.proofs.Common.{List, [], ◌∷◌, length, Option, Some, None, option_map, refl, sym, ◌∙◌, ap, arith}
use Rattle.std.proofs.Common.{slice_index_or}
use Rattle.std.proofs.lemmas.Bool.{cond_both}
use Rattle.std.proofs.lemmas.Bool.Decides.{nat_tests}
use Rattle.devices.specs.declared.device.Poke.{Poke}
use Rattle.devices.specs.declared.level.Level.{Level}
use Rattle.devices.specs.Devices.{DeviceWords, Word, loaded, position_from, value_in}
use Rattle.devices.specs.Devices.{word_at as word_of}
use Rattle.devices.specs.Laws.{has_device_at}
use Rattle.devices.proofs.Positions.{first_has}
use Rattle.devices.specs.Lines.{levels}
use Rattle.devices.specs.Parts.{part}
use Rattle.devices.specs.Pokes.{poked_all}
use Rattle.devices.specs.Table.{has}
use Rattle.nvic.proofs.Adding.{rise_is_put}
use Rattle.nvic.proofs.Due.{due_is_pended, nothing_is_pended}
use Rattle.platform.specs.declared.access.Request.{Request}
use Rattle.platform.specs.declared.access.Rule.{Rule}
use Rattle.platform.specs.declared.script.Signal.TheVariants.{Fall, Rise}
use Rattle.platform.specs.Kinds.{is_store}
use Rattle.platform.specs.Outcomes.{LeavesUnlessDone, Outcome}
use Rattle.platform.specs.Priorities.{Nvic, is_in_words, with_due}
use Rattle.platform.specs.Space.{number_read}
use Rattle.platform.specs.System.{System, after_pokes, after_tick, has_devices, device_access, loaded_from_device}
use Rattle.platform.specs.System.{on_interrupts, pokes_of, settled, time_passed, with_devices, with_level, with_levels}
use Rattle.platform.specs.System.{with_pended}
use Rattle.platform.specs.Time.{IsSetOf, events_at, is_high, pends, tick_pends, time_after_tick, with_events}
use Rattle.platform.specs.Time.{with_signal}
use Rattle.scs.specs.LineLevels.{are_pokes, with_due_and_high}

pub any_by_length : (ds : List DeviceWords) → not (length ds == 0) ≡ has_devices ds
any_by_length [] = refl
any_by_length (d ∷ ds) = grind (arith, nat_tests)

-- ---- accesses

found : (ds : List DeviceWords) (a : ℕ) → has_device_at ds a ≡ true → word_of ds a ≢ None
found [] a there = absurd cc
found (d ∷ ds) a there = by (has d.device a) refl (found ds a)
  where
    by : (b : Bool) → has d.device a ≡ b → (has_device_at ds a ≡ true → word_of ds a ≢ None) → word_of (d ∷ ds) a ≢ None
    by true h rest none = absurd cc (rw h at none)
    by false h rest none = rest (rw h at there) (rw h at none)

abbrev Keeps : System → Outcome System → Type 0
Keeps s o = LeavesUnlessDone o.performed s o.after

pub load_keeps : (s : System) (rule : Rule) (q : Request) → has_device_at s.devices q.access.address ≡ true →
    Keeps s (loaded_from_device s rule q)
load_keeps s rule q there = by (word_of s.devices q.access.address) refl
  where
    by : (w : Option Word) → word_of s.devices q.access.address ≡ w →
        LeavesUnlessDone (number_read rule (option_map (part q.access.address q.access.size)
        (value_in s.devices s.time.ticks q.access.address w))) s
        (settled (with_devices s (loaded s.devices s.time.ticks q.access.address)))
    by None e = absurd (found s.devices q.access.address there e)
    by (Some w) e = tt

-- an access to a device is done
pub device_leaves : (s : System) (rule : Rule) (q : Request) → has_device_at s.devices q.access.address ≡ true →
    LeavesUnlessDone (device_access s rule q).performed s (device_access s rule q).after
unfolding device_access
device_leaves s rule q there =
    cond_both (is_store q.access.kind) _ _ (Keeps s) (λ e. tt) (λ e. load_keeps s rule q there)

-- where the device is found by its number

abbrev IsThere : System → Request → ℕ → Type 0
IsThere s q at = position_from 0 s.devices q.access.address ≡ Some at

pub load_keeps_at : (s : System) (at : ℕ) (rule : Rule) (q : Request) → IsThere s q at →
    Keeps s (loaded_from_device s rule q)
load_keeps_at s at rule q there = load_keeps s rule q (first_has s.devices q.access.address at there)

pub device_leaves_at : (s : System) (at : ℕ) (rule : Rule) (q : Request) → IsThere s q at →
    LeavesUnlessDone (device_access s rule q).performed s (device_access s rule q).after
device_leaves_at s at rule q there = device_leaves s rule q (first_has s.devices q.access.address at there)

-- ---- the pokes of a tick

abbrev next_pokes : System → List Poke
next_pokes s = pokes_of (events_at (s.time.ticks + 1) s.time.script)

abbrev poked_next : System → List DeviceWords
poked_next s = poked_all s.devices (s.time.ticks + 1) (next_pokes s)

where_any : (s : System) (ps : List Poke) → are_pokes ps ≡ true →
    after_pokes s ps ≡ settled (with_devices s (poked_all s.devices s.time.ticks ps))
where_any s [] e = absurd cc
where_any s (p ∷ ps) e = refl

where_none : (s : System) (ps : List Poke) → are_pokes ps ≡ false →
    after_pokes s ps ≡ with_devices s (poked_all s.devices s.time.ticks ps)
where_none s [] e = refl
where_none s (p ∷ ps) e = absurd cc

pub tick_with_pokes : (s : System) → are_pokes (next_pokes s) ≡ true →
    after_tick s ≡ settled (with_devices (time_passed s) (poked_next s))
unfolding after_tick time_after_tick
tick_with_pokes s e = where_any (time_passed s) (next_pokes s) e

pub tick_without_pokes : (s : System) → are_pokes (next_pokes s) ≡ false →
    after_tick s ≡ with_devices (time_passed s) (poked_next s)
unfolding after_tick time_after_tick
tick_without_pokes s e = where_none (time_passed s) (next_pokes s) e

pub ruleset tick_lemmas = (tick_with_pokes, tick_without_pokes)

-- ---- the levels of lines: what they do to exceptions and interrupts depends on these alone

abbrev nvic_by : Nvic → List Bool → Level → Nvic
nvic_by n high l =
    if not l.is_high then with_pended n (pends (Fall l.number))
    else if slice_index_or high l.number false then n
    else with_pended n (pends (Rise l.number))

abbrev high_by : List Bool → Level → List Bool
high_by high l =
    if not l.is_high then with_signal high (Fall l.number)
    else if slice_index_or high l.number false then high
    else with_signal high (Rise l.number)

nvic_level : (s : System) (l : Level) → (with_level s l).nvic ≡ nvic_by s.nvic s.time.high l
nvic_level s l = by (not l.is_high) (is_high s.time l.number)
  where
    by : (a b : Bool) →
        (if a then on_interrupts s (Fall l.number)
        else (if b then s else on_interrupts s (Rise l.number))).nvic
        ≡ (if a then with_pended s.nvic (pends (Fall l.number))
        else (if b then s.nvic else with_pended s.nvic (pends (Rise l.number))))
    by true b = refl
    by false true = refl
    by false false = refl

high_level : (s : System) (l : Level) → (with_level s l).time.high ≡ high_by s.time.high l
high_level s l = by (not l.is_high) (is_high s.time l.number)
  where
    by : (a b : Bool) →
        (if a then on_interrupts s (Fall l.number)
        else (if b then s else on_interrupts s (Rise l.number))).time.high
        ≡ (if a then with_signal s.time.high (Fall l.number)
        else (if b then s.time.high else with_signal s.time.high (Rise l.number)))
    by true b = refl
    by false true = refl
    by false false = refl

same_levels : (s t : System) (ls : List Level) → s.nvic ≡ t.nvic → s.time.high ≡ t.time.high →
    (with_levels s ls).nvic ≡ (with_levels t ls).nvic
same_levels s t [] n h = n
same_levels s t (l ∷ ls) n h =
    same_levels (with_level s l) (with_level t l) ls
    (nvic_level s l
    ∙ ap (λ (m : Nvic). nvic_by m s.time.high l) n
    ∙ ap (λ (high : List Bool). nvic_by t.nvic high l) h
    ∙ sym (nvic_level t l))
    (high_level s l ∙ ap (λ (high : List Bool). high_by high l) h ∙ sym (high_level t l))

-- ---- what the next tick makes pending

pub peeked : (s : System) (due : List ℕ) → IsSetOf due (tick_pends s.time) → are_pokes (next_pokes s) ≡ false →
    with_due s.nvic due ≡ (after_tick s).nvic
peeked s due same none =
    due_is_pended s.nvic due (tick_pends s.time) same
    ∙ sym (ap (λ (t : System). t.nvic) (tick_without_pokes s none))

pub peeked_levels : (s : System) (due : List ℕ) (high : List Bool) → IsSetOf due (tick_pends s.time) →
    high ≡ with_events s.time.high (events_at (s.time.ticks + 1) s.time.script) → are_pokes (next_pokes s) ≡ true →
    (with_levels (with_due_and_high s due high) (levels (poked_next s) (s.time.ticks + 1))).nvic ≡ (after_tick s).nvic
unfolding settled time_after_tick
peeked_levels s due high same is any =
    same_levels (with_due_and_high s due high) (with_devices (time_passed s) (poked_next s))
    (levels (poked_next s) (s.time.ticks + 1)) (due_is_pended s.nvic due (tick_pends s.time) same) is
    ∙ sym (ap (λ (t : System). t.nvic) (tick_with_pokes s any))

-- ---- one level, seen

pub falls : (s : System) (due : List ℕ) (high : List Bool) (l : Level) → l.is_high ≡ false →
    with_level (with_due_and_high s due high) l ≡ with_due_and_high s due (with_signal high (Fall l.number))
falls s due high l low =
    rw low (ap (λ (n : Nvic). record s {
      nvic = n;
      time = record s.time { high = with_signal high (Fall l.number) };
    }) (nothing_is_pended (with_due s.nvic due) (pends (Fall l.number)) (λ x. refl)))

pub stays : (s : System) (due : List ℕ) (high : List Bool) (l : Level) → l.is_high ≡ true →
    slice_index_or high l.number false ≡ true → with_level (with_due_and_high s due high) l
    ≡ with_due_and_high s due high
stays s due high l up held = rw (up, held) refl

pub rises : (s : System) (due more : List ℕ) (high : List Bool) (l : Level) → l.is_high ≡ true →
    slice_index_or high l.number false ≡ false →
    ((y : ℕ) → y < 256 → is_in_words more y ≡ (pends (Rise l.number) y || is_in_words due y)) →
    with_level (with_due_and_high s due high) l ≡ with_due_and_high s more (with_signal high (Rise l.number))
rises s due more high l up low same =
    rw (up, low) (ap (λ (n : Nvic). record s {
      nvic = n;
      time = record s.time { high = with_signal high (Rise l.number) };
    }) (sym (rise_is_put s.nvic due more l.number l.number_is_small same)))

-- the same where the interrupt and what is high after it have names of their own
pub rises_to : (s : System) (due more : List ℕ) (high up : List Bool) (l : Level) (i : ℕ) → i ≡ l.number →
    l.is_high ≡ true → slice_index_or high l.number false ≡ false →
    ((y : ℕ) → y < 256 → is_in_words more y ≡ (pends (Rise i) y || is_in_words due y)) →
    up ≡ with_signal high (Rise i) → with_level (with_due_and_high s due high) l ≡ with_due_and_high s more up
rises_to s due more high up l i is on low same e =
    rises s due more high l on low (λ y small. same y small ∙ ap (λ k. pends (Rise k) y || is_in_words due y) is)
    ∙ ap (λ (h : List Bool). with_due_and_high s more h) (sym (e ∙ ap (λ k. with_signal high (Rise k)) is))

pub ruleset seen_lemmas = (falls, stays)
