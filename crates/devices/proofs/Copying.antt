-- Lists of the same devices: words are copied device by device, and what is done to words leaves the devices.
use Rattle.std.proofs.Common.{◌≡◌, ℕ, zero, suc, ◌+◌, ◌<◌, ◌++◌, List, [], ◌∷◌, length, take, drop}
use Rattle.std.proofs.Common.{slice_set, slice_index_or, refl, ap, arith, add-one}
use Rattle.std.proofs.Common.{Bool, true, false, Option, Some, None}
use Rattle.instruction_set.specs.declared.size.Size.{Size}
use Rattle.devices.specs.declared.device.Poke.{Poke}
use Rattle.devices.specs.Copies.{HaveSameDevices}
use Rattle.devices.specs.Devices.{DeviceWords, Word, after_store_in, loaded_in, poked, poked_by, stored_content}
use Rattle.devices.specs.Table.{has}

-- a list whose first n elements were copied
abbrev pub copied_to : ℕ → List DeviceWords → List DeviceWords → List DeviceWords
copied_to n ds es = take n es ++ drop n ds

pub same_length : (ds es : List DeviceWords) → HaveSameDevices ds es → length ds ≡ length es
same_length [] [] s = refl
same_length (d ∷ ds) (e ∷ es) s = ap suc (same_length ds es s.1)
same_length [] (e ∷ es) s = absurd s
same_length (d ∷ ds) [] s = absurd s

pub copied_length : (ds es : List DeviceWords) (n : ℕ) → HaveSameDevices ds es → length (copied_to n ds es) ≡ length ds
copied_length ds es zero s = refl
copied_length [] [] (suc n) s = refl
copied_length (d ∷ ds) (e ∷ es) (suc n) s = ap suc (copied_length ds es n s.1)
copied_length [] (e ∷ es) (suc n) s = absurd s
copied_length (d ∷ ds) [] (suc n) s = absurd s

-- the next device is the same
pub copied_device : (ds es : List DeviceWords) (n : ℕ) (x y : DeviceWords) → HaveSameDevices ds es → n < length es →
    (slice_index_or (copied_to n ds es) n x).device ≡ (slice_index_or es n y).device
copied_device [] [] n x y s small = absurd (let wrong : ⊥ = omega arith in wrong)
copied_device (d ∷ ds) (e ∷ es) zero x y s small = s.0
copied_device (d ∷ ds) (e ∷ es) (suc n) x y s small = copied_device ds es n x y s.1 (omega arith)
copied_device [] (e ∷ es) n x y s small = absurd s
copied_device (d ∷ ds) [] n x y s small = absurd s

-- and takes its words
pub copied_more : (ds es : List DeviceWords) (n : ℕ) (y : DeviceWords) → HaveSameDevices ds es → n < length es →
    slice_set (copied_to n ds es) n (slice_index_or es n y) ≡ copied_to (n + 1) ds es
copied_more ds es n y s small = rw add-one (more ds es n y s small)
  where
    more : (ds es : List DeviceWords) (n : ℕ) (y : DeviceWords) → HaveSameDevices ds es → n < length es →
        slice_set (copied_to n ds es) n (slice_index_or es n y) ≡ copied_to (suc n) ds es
    more [] [] n y s small = absurd (let wrong : ⊥ = omega arith in wrong)
    more (d ∷ ds) (e ∷ es) zero y s small = refl
    more (d ∷ ds) (e ∷ es) (suc n) y s small = ap (λ tail. e ∷ tail) (more ds es n y s.1 (omega arith))
    more [] (e ∷ es) n y s small = absurd s
    more (d ∷ ds) [] n y s small = absurd s

-- at the end all are copied
pub copied_all : (ds es : List DeviceWords) → HaveSameDevices ds es → copied_to (length es) ds es ≡ es
copied_all [] [] s = refl
copied_all (d ∷ ds) (e ∷ es) s = ap (λ tail. e ∷ tail) (copied_all ds es s.1)
copied_all [] (e ∷ es) s = absurd s
copied_all (d ∷ ds) [] s = absurd s

pub ruleset copying_lemmas = (same_length, copied_length, copied_device, copied_more, copied_all)

-- a poke leaves the devices
pub same_after_poke : (ds es : List DeviceWords) (ticks a v : ℕ) → HaveSameDevices ds es →
    HaveSameDevices (poked ds ticks a v) es
same_after_poke [] [] ticks a v s = s
same_after_poke (d ∷ ds) (e ∷ es) ticks a v s = by (has d.device a) refl (same_after_poke ds es ticks a v s.1)
  where
    by : (b : Bool) → has d.device a ≡ b → HaveSameDevices (poked ds ticks a v) es →
        HaveSameDevices (poked (d ∷ ds) ticks a v) (e ∷ es)
    by true h rest = rw h s
    by false h rest = rw h (s.0, rest)
same_after_poke [] (e ∷ es) ticks a v s = absurd s
same_after_poke (d ∷ ds) [] ticks a v s = absurd s

pub same_after_poke_by : (ds es : List DeviceWords) (ticks : ℕ) (p : Option Poke) → HaveSameDevices ds es →
    HaveSameDevices (poked_by ds ticks p) es
same_after_poke_by ds es ticks None s = s
same_after_poke_by ds es ticks (Some p) s = same_after_poke ds es ticks p.address p.value s

-- and so do a load and a store
pub same_after_load : (ds es : List DeviceWords) (ticks : ℕ) (word : Option Word) → HaveSameDevices ds es →
    HaveSameDevices (loaded_in ds ticks word) es
same_after_load ds es ticks None s = s
same_after_load ds es ticks (Some w) s = same_after_poke_by ds es ticks w.device.load_poke s

pub same_after_store : (ds es : List DeviceWords) (ticks a : ℕ) (size : Size) (v : ℕ) (word : Option Word) →
    HaveSameDevices ds es → HaveSameDevices (after_store_in ds ticks a size v word) es
same_after_store ds es ticks a size v None s = s
same_after_store ds es ticks a size v (Some w) s =
    let content : ℕ = stored_content w ticks a size v in
    same_after_poke_by (poked ds ticks a content) es ticks w.device.store_poke
    (same_after_poke ds es ticks a content s)
