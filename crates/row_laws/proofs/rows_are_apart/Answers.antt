use Rattle.std.proofs.Common.{refl}
use Rattle.instruction_set.specs.Decoding.{rows_of, short_tables, long_tables}
use Rattle.row_laws.proofs.Texts.{all_apart}
use Rattle.row_laws.proofs.rows_are_apart.Goals as goal

pub returns-clause-short : goal.returns-clause-short
returns-clause-short c = all_apart (rows_of short_tables) refl

pub returns-clause-long : goal.returns-clause-long
returns-clause-long c = all_apart (rows_of long_tables) refl
