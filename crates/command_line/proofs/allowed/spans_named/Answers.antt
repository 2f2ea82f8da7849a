use Rattle.std.proofs.Common.{inl, inr}
use Rattle.command_line.proofs.Allowing.{allowed_none}
use Rattle.command_line.proofs.allowed.spans_named.Goals as goal

pub returns-in-None : goal.returns-in-None
returns-in-None c =
    elim c.wrong_span-in-None.ensures [
      | inl usage ↦
          inl (
            usage,
            λ value all.
                allowed_none _ _ _ _ _ c.texts-test.true c.span_named.ensures c.in-None.is c.texts.invariant
                value.items all.1,
          )
      | inr memory ↦ inr memory
    ]
