use Rattle.std.proofs.Common.{◌≡◌, ◌∙◌, ap, arith}
use Rattle.debugger_commands.specs.Texts.{general_lines}
use Rattle.debugger_commands.proofs.texts.put_generals.Goals as goal

pub returns-clause-text : goal.returns-clause-text
returns-clause-text c =
    let all : c.numbers.number ≡ 13 = omega arith in
    c.numbers.invariant.text ∙ ap (λ n. general_lines c.args.values.now n) all
