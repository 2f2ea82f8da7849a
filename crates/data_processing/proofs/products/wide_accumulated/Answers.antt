use Rattle.std.proofs.Common.{arith}
use Rattle.data_processing.proofs.Wide.{low_sum_of}
use Rattle.data_processing.proofs.products.wide_accumulated.Goals as goal

pub returns : goal.returns
returns c = grind (arith, low_sum_of)
