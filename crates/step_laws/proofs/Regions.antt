-- A step leaves the registers of the MPU as they are, unless one of its events is a write to the Private Peripheral
-- Bus that was carried out: an access does so, and no other change of the bus touches these registers.
--
-- - `none_first` and `none_later`: without such a write among the events, there is none in each part of them.
-- - `register_stays` splits on what a write to a register changes, and `access_stays` takes it to the bus.
use Rattle.std.proofs.Common.{◌≡◌, ℕ, true, false, not, ◌||◌, List, [], ◌∷◌, ◌++◌, ◌*◌, ◌/◌, Result, Ok, Err}
use Rattle.std.proofs.Common.{refl, sym, ◌∙◌}
use Rattle.std.proofs.lemmas.Bool.{cond_both, or_parts}
use Rattle.std.proofs.lemmas.List.Folds.{list_any-append}
use Rattle.platform.specs.declared.access.Kind.{Kind}
use Rattle.platform.specs.declared.access.Kind.TheVariants.{Store}
use Rattle.platform.specs.declared.access.Request.{Request}
use Rattle.platform.specs.declared.access.Rule.{Rule}
use Rattle.platform.specs.declared.event.Event.{Event}
use Rattle.platform.specs.declared.stop.Stop.{Stop}
use Rattle.platform.specs.declared.system.SystemRegister.{SystemRegister}
use Rattle.platform.specs.declared.system.SystemRegister.TheVariants as register
use Rattle.platform.specs.Kinds.{is_load, is_probe, is_store, is_write}
use Rattle.platform.specs.Map.{is_in_ppb}
use Rattle.platform.specs.Outcomes.{Outcome, within}
use Rattle.platform.specs.Regions.{Mpu}
use Rattle.platform.specs.System.{System, after_read, has_access, has_width, register_access, register_at}
use Rattle.platform.specs.System.{register_written, system_access, write_performed}
use Rattle.reference.specs.Accesses.{is_to_device, access_lines, carried_out, decision, perform}
use Rattle.reference.specs.State.{Bus}
use Rattle.step_laws.specs.RegionLaw.{RegionsStay, some_writes_system, writes_system}
use Rattle.step_laws.proofs.Settling.{device_mpu, tick_mpu}
use Rattle.step_laws.proofs.BusRules.{BusRules, bus_keeps}

-- ---- events one after another

none_first : (xs ys : List Event) → some_writes_system (xs ++ ys) ≡ false → some_writes_system xs ≡ false
none_first xs ys e = (or_parts _ _ (sym (list_any-append (λ (event : Event). writes_system event.what) xs ys) ∙ e)).0

none_later : (xs ys : List Event) → some_writes_system (xs ++ ys) ≡ false → some_writes_system ys ≡ false
none_later xs ys e = (or_parts _ _ (sym (list_any-append (λ (event : Event). writes_system event.what) xs ys) ∙ e)).1

-- ---- one access

-- a store is a write
store_writes : (k : Kind) → is_store k ≡ true → is_write k ≡ true
store_writes Store e = refl
store_writes other e = absurd cc

-- an access to the Private Peripheral Bus leaves these registers, unless its event is such a write
abbrev SystemStays : ℕ → Request → Mpu → Outcome System → Type 0
SystemStays tick q old o = some_writes_system (access_lines tick q o.performed) ≡ false → o.after.mpu ≡ old

read_stays : (s : System) (it : SystemRegister) → (after_read s it).mpu ≡ s.mpu
unfolding after_read
read_stays s (register.SysTick it) = refl
read_stays s (register.Interrupts it word) = refl
read_stays s (register.Priorities first) = refl
read_stays s (register.Control it) = refl
read_stays s (register.Status it) = refl
read_stays s (register.Mpu it) = refl
read_stays s register.Unlisted = refl

write_stays : (tick : ℕ) (q : Request) (s : System) (rule : Rule) (r : Result System Stop)
    → is_write q.access.kind ≡ true → is_in_ppb q.access.address ≡ true
    → SystemStays tick q s.mpu (write_performed s rule r)
write_stays tick q s rule (Ok after) writing there none = absurd cc
write_stays tick q s rule (Err why) writing there none = refl

register_stays : (tick x : ℕ) (s : System) (rule : Rule) (q : Request) (it : SystemRegister)
    → is_in_ppb q.access.address ≡ true → SystemStays tick q s.mpu (register_access x s rule q it)
unfolding register_access
register_stays tick x s rule q it there =
    cond_both (not (has_access s q)) _ _ (SystemStays tick q s.mpu) (λ e none. refl)
    (λ e. cond_both (not (has_width it q.access.size)) _ _ (SystemStays tick q s.mpu) (λ f none. refl)
    (λ f. cond_both (is_store q.access.kind) _ _ (SystemStays tick q s.mpu)
    (λ g. write_stays tick q s rule (register_written s q it) (store_writes q.access.kind g) there)
    (λ g none. read_stays s it)))

system_stays : (tick x : ℕ) (s : System) (rule : Rule) (q : Request) → is_in_ppb q.access.address ≡ true
    → SystemStays tick q s.mpu (system_access x s rule q)
unfolding system_access
system_stays tick x s rule q there =
    cond_both (is_load q.access.kind || is_store q.access.kind) _ _ (SystemStays tick q s.mpu)
    (λ e. register_stays tick x s rule q (register_at (q.access.address / 4 * 4)) there) (λ e none. refl)

-- likewise of an access of the bus
abbrev BusStays : ℕ → Request → Mpu → Outcome Bus → Type 0
BusStays tick q old o = SystemStays tick q old (within (λ (b : Bus). b.system) o)

carried_stays : (exception tick : ℕ) (b : Bus) (rule : Rule) (q : Request)
    → BusStays tick q b.system.mpu (carried_out exception b rule q)
unfolding carried_out
carried_stays exception tick b rule q =
    cond_both (is_probe q.access.kind) _ _ (BusStays tick q b.system.mpu) (λ e none. refl)
    (λ e. cond_both (is_in_ppb q.access.address) _ _ (BusStays tick q b.system.mpu)
    (λ there. system_stays tick exception b.system rule q there)
    (λ away. cond_both (is_to_device b q.access) _ _ (BusStays tick q b.system.mpu)
    (λ f none. device_mpu b.system rule q) (λ f none. refl)))

access_stays : (exception tick : ℕ) (b : Bus) (q : Request)
    → BusStays tick q b.system.mpu (perform exception b q)
unfolding perform
access_stays exception tick b q =
    cond_both (decision b q).granted _ _ (BusStays tick q b.system.mpu)
    (λ e. carried_stays exception tick b (decision b q).rule q) (λ e none. refl)

-- ---- the step

region_rules : (old : Mpu) → BusRules (λ b events. some_writes_system events ≡ false → b.system.mpu ≡ old)
region_rules old = record {
  access = λ x tick b events q stayed none.
      access_stays x tick b q (none_later events _ none) ∙ stayed (none_first events _ none);
  nvic = λ b events n stayed. stayed;
  status = λ b events st stayed. stayed;
  line = λ b events e other stayed none. stayed (none_first events (e ∷ []) none);
}

pub regions_stay : RegionsStay
regions_stay s = bus_keeps (region_rules s.bus.system.mpu) s (λ none. refl) (λ none. tick_mpu s.bus.system)
