use Rattle.std.proofs.Common.{refl}
use Rattle.instruction_set.specs.Decoding.{rows_of, short_tables, long_tables}
use Rattle.instruction_set.specs.Patterns.{has_bits}
use Rattle.row_laws.specs.Overlaps.{short_overlaps, long_overlaps}
use Rattle.row_laws.proofs.Texts.{all_listed, all_won}
use Rattle.row_laws.proofs.rows_overlap_as_listed.Goals as goal

pub returns-clause-short : goal.returns-clause-short
returns-clause-short c = all_listed short_overlaps (rows_of short_tables) refl

pub returns-clause-short_wins : goal.returns-clause-short_wins
unfolding has_bits
returns-clause-short_wins c = all_won short_overlaps refl

pub returns-clause-long : goal.returns-clause-long
returns-clause-long c = all_listed long_overlaps (rows_of long_tables) refl

pub returns-clause-long_wins : goal.returns-clause-long_wins
unfolding has_bits
returns-clause-long_wins c = all_won long_overlaps refl
