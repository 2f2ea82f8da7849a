use Rattle.std.proofs.Common.{refl}
use Rattle.instruction_set.specs.Decoding.{rows_of, short_tables, long_tables}
use Rattle.row_laws.proofs.Texts.{all_have_places}
use Rattle.row_laws.proofs.rows_are_whole.Goals as goal

pub returns-clause-short : goal.returns-clause-short
returns-clause-short c = all_have_places 16 (rows_of short_tables) refl

pub returns-clause-long : goal.returns-clause-long
returns-clause-long c = all_have_places 32 (rows_of long_tables) refl
