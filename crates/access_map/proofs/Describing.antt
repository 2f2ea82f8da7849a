-- The addresses of one owner in an eighth of the address space have the same rights, by the same rule.
use Rattle.std.proofs.Common.{◌≡◌, ℕ, ◌<◌, ◌≤◌, ◌/◌, ◌^◌, ◌&&◌, false, arith, ap, ◌∙◌}
use Rattle.access_map.specs.declared.world.Place.{Place}
use Rattle.access_map.specs.declared.world.Rights.{Rights}
use Rattle.access_map.specs.declared.world.World.{World}
use Rattle.access_map.specs.Worlds.{decision_in, rights_at, rule_at, takes_stores, holds_code}
use Rattle.mpu.specs.Spans.{BelongTo}
use Rattle.mpu_table.proofs.Alike.{decision_alike}
use Rattle.platform.specs.declared.access.Kind.{Kind}
use Rattle.platform.specs.declared.access.Kind.TheVariants.{Fetch, Load, Store}
use Rattle.platform.specs.declared.access.Decision.{Decision}
use Rattle.platform.specs.Regions.{owner}

-- the rights that three decisions make
rights_of : Place → Decision → Decision → Decision → Rights
rights_of place load store fetch = record {
  read = load.granted;
  write = takes_stores place && store.granted;
  execute = holds_code place && fetch.granted;
}

-- each address from the first to the last has the rights and the rule of the first
pub described : (w : World) (place : Place) (first last end : ℕ) → end < 0xE000_0000 → end / 2 ^ 29 ≡ first / 2 ^ 29
    → last ≤ end → (c b : ℕ) → c ≤ first → last ≤ b → BelongTo w.registers c b (owner w.registers first)
    → (a : ℕ) → first ≤ a → a ≤ last
    → (rights_at w place a ≡ rights_at w place first) × (rule_at w a ≡ rule_at w first)
unfolding rights_at rule_at rights_of
described w place first last end small near within c b from upto belong a above below = (
  ap (λ (d : Decision). rights_of place d (decision_in w a Store) (decision_in w a Fetch)) (alike Load)
      ∙ ap (λ (d : Decision). rights_of place (decision_in w first Load) d (decision_in w a Fetch)) (alike Store)
      ∙ ap (λ (d : Decision). rights_of place (decision_in w first Load) (decision_in w first Store) d) (alike Fetch),
  ap (λ (d : Decision). d.rule) (alike Load),
)
  where
    alike : (kind : Kind) → decision_in w a kind ≡ decision_in w first kind
    alike kind =
        decision_alike w.registers a first kind false w.below_zero (omega arith) (omega arith) (omega arith)
        (belong a (omega arith) (omega arith))
