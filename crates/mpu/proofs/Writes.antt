-- The registers are sound after a reset, and stay so after each write.
use Rattle.std.proofs.Common.{◌≡◌, ℕ, zero, suc, ◌*◌, ◌/◌, ◌%◌, ◌<◌, ◌⊎◌, true, false, not, ◌&&◌, Bool, nat_lt}
use Rattle.std.proofs.Common.{if◌then◌else◌, replicate, slice_index_or, Result, Ok, Err, refl, arith, inl, inr}
use Rattle.std.proofs.lemmas.Bool.{ltb-true, cond_both}
use Rattle.instruction_set.specs.Words.{is_bit}
use Rattle.platform.specs.declared.mpu.MpuRegister.{MpuRegister}
use Rattle.platform.specs.declared.mpu.MpuRegister.TheVariants as register
use Rattle.platform.specs.declared.mpu.MpuStop.{MpuStop}
use Rattle.platform.specs.declared.mpu.MpuStop.TheVariants as stop
use Rattle.platform.specs.declared.mpu.Region.{Region}
use Rattle.platform.specs.Regions.{Mpu, IsSound, region, empty, fresh, write, write_base, after_write, selected, based}
use Rattle.platform.specs.Regions.{with_attributes, kept_attributes, is_accepted, is_on, is_on_below_zero}
use Rattle.mpu.proofs.Sound.{with_region-sound}

after-write-taken : (m n : Mpu) (b : Bool) (why : MpuStop)
    → IsSound m → (b ≡ true → IsSound n) → IsSound (after_write m (if b then Ok n else Err why))
after-write-taken m n true why s t = t refl
after-write-taken m n false why s t = s

after-write-stopped : (m n : Mpu) (b : Bool) (why : MpuStop)
    → IsSound m → IsSound n → IsSound (after_write m (if b then Err why else Ok n))
after-write-stopped m n true why s t = s
after-write-stopped m n false why s t = t

selected-sound : (m : Mpu) (k : ℕ) → IsSound m → IsSound (after_write m (selected m k))
selected-sound m k s = after-write-taken m (record m { number = k }) (nat_lt k m.count) stop.Region s (λ h. record {
  count_known = s.count_known;
  number_within = ltb-true k m.count h;
  control_small = s.control_small;
  sixteen = s.sixteen;
  based = s.based;
  taken = s.taken;
})

based-sound : (m : Mpu) (r : Result Mpu MpuStop) (value : ℕ) → IsSound m → IsSound (after_write m r)
    → IsSound (after_write m (based r value))
based-sound m (Ok n) value s t =
    with_region-sound n n.number (record (region n n.number) { base = value / 32 * 32 }) t (omega arith)
    (t.taken n.number)
based-sound m (Err why) value s t = s

write_base-sound : (m : Mpu) (value : ℕ) → IsSound m → IsSound (after_write m (write_base m value))
write_base-sound m value s =
    based-sound m (if is_bit value 4 then selected m (value % 16) else Ok m) value s
    (cond_both (is_bit value 4) (selected m (value % 16)) (Ok m) (λ r. IsSound (after_write m r))
    (λ e. selected-sound m (value % 16) s) (λ e. s))

pub sound_after_write : (m : Mpu) (r : MpuRegister) (value : ℕ) → IsSound m → IsSound (after_write m (write m r value))
unfolding write
sound_after_write m register.Type value s = s
sound_after_write m register.Control value s =
    after-write-stopped m (record m { control = value % 8 }) (is_on_below_zero value && not (is_on value)) stop.Control
    s
    (record {
      count_known = s.count_known;
      number_within = s.number_within;
      control_small = omega arith;
      sixteen = s.sixteen;
      based = s.based;
      taken = s.taken;
    })
sound_after_write m register.Number value s = selected-sound m (value % 256) s
sound_after_write m register.Base value s = write_base-sound m value s
sound_after_write m register.Attributes value s =
    after-write-taken m (with_attributes m m.number (kept_attributes value)) (is_accepted (kept_attributes value))
    stop.Region s
    (λ h. with_region-sound m m.number (record (region m m.number) { attributes = kept_attributes value }) s
    (s.based m.number) h)

-- each of `n` empty regions is empty
each-empty : (P : Region → Type 0) (n k : ℕ) → P empty → P (slice_index_or (replicate n empty) k empty)
each-empty P zero k e = e
each-empty P (suc n) zero e = e
each-empty P (suc n) (suc k) e = each-empty P n k e

pub sound_at_reset : (count : ℕ) → ((count ≡ 8) ⊎ (count ≡ 16)) → IsSound (fresh count)
sound_at_reset count known = record {
  count_known = known;
  number_within = lead known;
  control_small = omega arith;
  sixteen = refl;
  based = λ k. each-empty (λ r. r.base % 32 ≡ 0) 16 k refl;
  taken = λ k. each-empty (λ r. is_accepted r.attributes ≡ true) 16 k refl;
}
  where
    lead : ((count ≡ 8) ⊎ (count ≡ 16)) → 0 < count
    lead (inl e) = omega arith
    lead (inr e) = omega arith
