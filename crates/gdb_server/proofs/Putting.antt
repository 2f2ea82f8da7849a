-- Texts that are put one after another, as pieces.
use Rattle.std.proofs.Common.{◌+◌, ℕ, List, ◌++◌, Result, Ok, Err, ◌∙◌, ap}
use Rattle.std.proofs.KnownBytes.{Appends-trans}
use Rattle.gdb.proofs.Showing.{cut_later}
use Rattle.machine.specs.MachineModel.{MachineModel}
use Rattle.output.specs.Output.{Put, Writing, WritesAll}
use Rattle.serving.proofs.Delivering.{cut_on, delivers_on}
use Rattle.serving.specs.Pieces.{Piece, Delivers, DeliversAll}

-- a text was put, and then more, or a part of it
pub put_on : {E : Type 0} (a b e : Writing) (text more : List ℕ) (result : Result (Unit {0}) E) → WritesAll a b text
    → Put b e more result → Put a e (text ++ more) result
put_on a b e text more (Ok done) first then =
    (Appends-trans a.written b.written e.written text more first.0 then.0, then.1 ∙ first.1)
put_on a b e text more (Err error) first then = (
  cut_later a.written b.written e.written text more first.0 then.0,
  then.1 ∙ ap (λ (n : ℕ). n + 1) first.1,
)

-- some pieces went out, and then more, or some of them
pub delivers_then : {A E : Type 0} (xs ys : List Piece) (old mid new : MachineModel) (a b c : Writing)
    (result : Result A E)
    → DeliversAll xs old mid a b → Delivers ys mid new b c result → Delivers (xs ++ ys) old new a c result
delivers_then xs ys old mid new a b c (Ok done) first then = delivers_on xs ys old mid new a b c first then
delivers_then xs ys old mid new a b c (Err error) first then = cut_on xs ys old mid new a b c first then
