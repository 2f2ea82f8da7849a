use Rattle.std.proofs.Common.{codes}
use Rattle.gdb_packets.specs.Digits.{two_digits}
use Rattle.gdb_texts.specs.Registers.{word_digits}
use Rattle.gdb_texts.proofs.Appending.{four_parts}
use Rattle.gdb_texts.proofs.stops.put_numbered_register.Goals as goal

pub returns-clause-text : goal.returns-clause-text
returns-clause-text g c =
    four_parts _ _ _ _ _ (two_digits c.args.number) (codes ":") (word_digits c.args.value) (codes ";")
    c.put_byte.ensures.text c.put_text.ensures.text c.put_word.ensures.text c.put_text-2.ensures.text
