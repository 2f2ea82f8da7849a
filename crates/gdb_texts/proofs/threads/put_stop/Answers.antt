use Rattle.std.proofs.Common.{◌∙◌, ◌++◌, ap, codes}
use Rattle.platform.specs.Text.{stop_line, stop_text}
use Rattle.gdb_texts.proofs.Appending.{all_but_last}
use Rattle.gdb_texts.proofs.threads.put_stop.Goals as goal

pub returns-clause-text : goal.returns-clause-text
unfolding stop_line
returns-clause-text c =
    c.put_slice.ensures
    ∙ ap (λ t. c.args.page.now ++ t)
    (c.without_last.ensures
    ∙ all_but_last (codes "stop " ++ stop_text c.args.stop) c.as_slice.result.now 10
    (c.as_slice.ensures ∙ c.put_stop.ensures.text ∙ ap (λ p. p ++ stop_line c.args.stop) c.new-line.ensures))
