-- Steps keep the sizes of memory and the devices.
use Rattle.std.proofs.Common.{◌≡◌, ◌∙◌, ◌+◌, ◌-◌, ◌≤◌, ℕ, zero, suc, false, List, [], ◌∷◌, ap, arith, drop, refl}
use Rattle.std.proofs.Common.{slice_index_or, sym}
use Rattle.devices.specs.declared.device.Device.{Device}
use Rattle.devices.specs.Copies.{HaveSameDevices}
use Rattle.devices.specs.Devices.{DeviceWords}
use Rattle.gdb_past.specs.Places.{AreOfOneMachine, Board, Extent, devices_in, extents}
use Rattle.platform.specs.Memory.{Memory}
use Rattle.reference.specs.Run.{after}
use Rattle.reference.specs.State.{State}
use Rattle.reference.specs.Step.{step}
use Rattle.physical_memory.specs.Sizes.{HaveSameSizes}
use Rattle.step_laws.proofs.Sizes.{step_board}
use Rattle.step_laws.specs.SizeLaw.{AreOfOneBoard}

-- memories that have the same sizes have the same extents, and the other way round
pub extents_alike : (m k : Memory) → HaveSameSizes m k → extents m ≡ extents k
extents_alike [] [] h = refl
extents_alike (b ∷ m) (c ∷ k) h = rw (h.0.base, h.0.size, h.0.is_writable, extents_alike m k h.1) refl
extents_alike [] (c ∷ k) h = absurd h
extents_alike (b ∷ m) [] h = absurd h

pub sizes_alike : (m k : Memory) → extents m ≡ extents k → HaveSameSizes m k
sizes_alike [] [] e = tt
sizes_alike (b ∷ m) (c ∷ k) e =
    let none : Extent = record { base = 0; size = 0; is_writable = false } in
    let first = ap (λ (xs : List Extent). slice_index_or xs 0 none) e in (
      record {
        base = sym (ap (λ (x : Extent). x.base) first);
        size = sym (ap (λ (x : Extent). x.size) first);
        is_writable = sym (ap (λ (x : Extent). x.is_writable) first);
        bytes = λ i f. absurd cc;
      },
      sizes_alike m k (ap (λ (xs : List Extent). drop 1 xs) e),
    )
sizes_alike [] (c ∷ k) e = absurd cc
sizes_alike (b ∷ m) [] e = absurd cc

pub heads_alike : (d e : Device) (ds es : List Device) → d ∷ ds ≡ e ∷ es → d ≡ e
heads_alike d e ds es h = ap (λ (xs : List Device). slice_index_or xs 0 d) h

pub devices_alike : (ds es : List DeviceWords) → HaveSameDevices ds es → devices_in ds ≡ devices_in es
devices_alike [] [] h = refl
devices_alike (d ∷ ds) (e ∷ es) h = rw (h.0, devices_alike ds es h.1) refl
devices_alike [] (e ∷ es) h = absurd h
devices_alike (d ∷ ds) [] h = absurd h

pub same_devices : (ds es : List DeviceWords) → devices_in ds ≡ devices_in es → HaveSameDevices ds es
same_devices [] [] h = tt
same_devices (d ∷ ds) (e ∷ es) h = (
  heads_alike d.device e.device (devices_in ds) (devices_in es) h,
  same_devices ds es (ap (λ (xs : List Device). drop 1 xs) h),
)
same_devices [] (e ∷ es) h = absurd cc
same_devices (d ∷ ds) [] h = absurd cc

-- buses of one board are those of the same machine, and the other way round
pub board_alike : (s u : State) → AreOfOneBoard s.bus u.bus → AreOfOneMachine s u
board_alike s u h =
    rw (
      extents_alike s.bus.memory u.bus.memory h.0,
      devices_alike s.bus.system.devices u.bus.system.devices h.1,
    )
    refl

pub same_board : (s u : State) → AreOfOneMachine s u → AreOfOneBoard s.bus u.bus
same_board s u h = (
  sizes_alike s.bus.memory u.bus.memory (ap (λ (b : Board). b.extents) h),
  same_devices s.bus.system.devices u.bus.system.devices (ap (λ (b : Board). b.devices) h),
)

pub same_refl : (s : State) → AreOfOneMachine s s
same_refl s = refl

pub same_sym : (s u : State) → AreOfOneMachine s u → AreOfOneMachine u s
same_sym s u h = sym h

pub same_trans : (s u v : State) → AreOfOneMachine s u → AreOfOneMachine u v → AreOfOneMachine s v
same_trans s u v h i = h ∙ i

pub same_step : (s : State) → AreOfOneMachine s (step s).state
same_step s = board_alike s (step s).state (step_board s)

pub same_after : (n : ℕ) (s : State) → AreOfOneMachine s (after n s)
unfolding after
same_after zero s = same_refl s
same_after (suc n) s = same_trans s (after n s) (step (after n s)).state (same_after n s) (same_step (after n s))

-- ---- steps, one after another

pub after_none : (s : State) → after 0 s ≡ s
unfolding after
after_none s = refl

pub after_more : (n m : ℕ) (s : State) → m ≡ suc n → after m s ≡ (step (after n s)).state
unfolding after
after_more n m s e = rw e refl

-- steps after other steps
pub after_then : (n m : ℕ) (s : State) → after m (after n s) ≡ after (n + m) s
unfolding after
after_then n zero s = ap (λ i. after i s) (omega arith)
after_then n (suc m) s =
    ap (λ (t : State). (step t).state) (after_then n m s) ∙ sym (after_more (n + m) (n + suc m) s (omega arith))

pub after_from : (from to : ℕ) (m s t : State) → from ≤ to → s ≡ after from m → t ≡ after (to - from) s
    → t ≡ after to m
after_from from to m s t order here there =
    let whole : from + (to - from) ≡ to = omega (arith, order) in
    there ∙ (ap (λ (u : State). after (to - from) u) here
    ∙ (after_then from (to - from) m ∙ ap (λ i. after i m) whole))
