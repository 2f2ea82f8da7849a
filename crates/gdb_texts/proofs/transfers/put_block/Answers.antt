use Rattle.std.proofs.Common.{codes}
use Rattle.gdb_texts.specs.Transfers.{block_end, hex_number}
use Rattle.gdb_texts.proofs.Appending.{five_parts}
use Rattle.gdb_texts.proofs.transfers.put_block.Goals as goal

pub returns-clause-text : goal.returns-clause-text
returns-clause-text g c =
    five_parts _ _ _ _ _ _ c.args.before.now (hex_number c.args.start) (codes "\" length=\"0x")
    (hex_number c.args.size) block_end c.put_text.ensures.text c.put_hex_number.ensures.text
    c.put_text-2.ensures.text c.put_hex_number-2.ensures.text c.put_text-3.ensures.text
