use Rattle.std.proofs.Common.{◌∙◌, ◌++◌, ap}
use Rattle.gdb_texts.specs.Transfers.{block_text, ram}
use Rattle.gdb_texts.proofs.transfers.put_ram.Goals as goal

pub returns-clause-text : goal.returns-clause-text
returns-clause-text g c =
    c.put_block.ensures.text ∙ ap (λ n. c.args.page.now.items ++ block_text ram c.args.block.base n) c.size.ensures
