-- A write that stops leaves what was there.
use Rattle.std.proofs.Common.{◌≡◌, Result, Ok, Err, refl}
use Rattle.platform.specs.declared.stop.Stop.{Stop}
use Rattle.scs.specs.Writes.{after_write, answered}

pub refused_leaves : {A : Type 0} (old : A) (made : Result A Stop) (why : Stop) → answered made ≡ Err why
    → after_write old made ≡ old
refused_leaves old (Ok new) why e = absurd cc
refused_leaves old (Err by) why e = refl
