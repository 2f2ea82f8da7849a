-- A run of unprivileged code in a world keeps the bytes of RAM that the world may not write.
use Rattle.std.proofs.Common.{◌≡◌, ◌∙◌, ◌+◌, ℕ, Bool, true, false, not, ◌&&◌, if◌then◌else◌, [], ◌∷◌, ap, refl, subst}
use Rattle.std.proofs.Common.{sym}
use Rattle.access_map.proofs.SameSettings.{same_decisions}
use Rattle.access_map.specs.declared.world.World.{World}
use Rattle.access_map.specs.Settings.{IsSameSetting}
use Rattle.access_map.specs.Worlds.{rights_at}
use Rattle.platform.specs.declared.access.Decision.{Decision}
use Rattle.platform.specs.declared.access.Kind.TheVariants.{Store}
use Rattle.platform.specs.Memory.{Agree, Block, BlocksAgree, Memory}
use Rattle.reference.specs.State.{State}
use Rattle.physical_memory.proofs.Blocks.{agree_self}
use Rattle.task_laws.specs.Sight.{KeepsDenied, Same, denies_store, is_seen}
use Rattle.world_laws.specs.WorldLaw.{AgreeButRams, AgreeButWritten, HaveSameRams, may_write, with_rams, with_rams_of}
use Rattle.survey_run.specs.WorldRuns.{world_of}

-- a state looks the same as itself
pub looks_itself : (s : State) → Same s s
looks_itself s = record { memory = agree_self (is_seen s) s.bus.memory; rest = refl }

-- a byte that the world of a state may not write is one that a store of unprivileged code is denied
denied : (v : World) (u : State) (a : ℕ) → IsSameSetting v (world_of u) → not (may_write v a) ≡ denies_store u a
unfolding rights_at
denied v u a same = ap (λ (d : Decision). not d.granted) (same_decisions v (world_of u) a Store same)

-- one block: the one of the run takes its place where a store may change it
module _ (v : World) (u : State) (here : IsSameSetting v (world_of u)) where
  chosen : (writes : Bool) (b c d : Block) → b.is_writable ≡ writes → (if writes then c else b) ≡ b
      → BlocksAgree (denies_store u) c d
      → BlocksAgree (λ a. not (b.is_writable && may_write v a)) b (if writes then d else b)
  chosen false b c d is same kept = record { base = refl; size = refl; is_writable = refl; bytes = λ k e. refl }
  chosen true b c d is same kept =
      let agree : BlocksAgree (denies_store u) b d =
      subst (λ (x : Block). BlocksAgree (denies_store u) x d) same kept in
      record {
        base = agree.base;
        size = agree.size;
        is_writable = agree.is_writable;
        bytes = λ k e. agree.bytes k (sym (denied v u (b.base + k) here)
            ∙ ap (λ (x : Bool). not (x && may_write v (b.base + k))) (sym is) ∙ e);
      }

  only_rams : (m w n : Memory) → with_rams m w ≡ m → Agree (denies_store u) w n → AgreeButRams v m (with_rams m n)
  only_rams [] w n same kept = tt
  only_rams (b ∷ m) [] [] same kept = self_but_rams (b ∷ m)
    where
      self_but_rams : (x : Memory) → AgreeButRams v x x
      self_but_rams [] = tt
      self_but_rams (y ∷ x) =
          (record { base = refl; size = refl; is_writable = refl; bytes = λ k e. refl }, self_but_rams x)
  only_rams (b ∷ m) [] (d ∷ n) same kept = absurd kept
  only_rams (b ∷ m) (c ∷ w) [] same kept = absurd kept
  only_rams (b ∷ m) (c ∷ w) (d ∷ n) same kept =
      let first : (if b.is_writable then c else b) ≡ b = cc in
      let others : with_rams m w ≡ m = cc in
      (chosen b.is_writable b c d refl first kept.0, only_rams m w n others kept.1)

-- memory that kept what is denied, as the RAMs of a state with the same RAMs before
pub only_written : (v : World) (u s : State) (m : Memory) → IsSameSetting v (world_of u) → HaveSameRams s u
    → KeepsDenied u u.bus.memory m → AgreeButWritten v s (with_rams_of s m)
only_written v u s m here same kept = record {
  memory = only_rams v u here s.bus.memory u.bus.memory m same kept;
  rest = refl;
}
