use Rattle.access_map.proofs.Spans.{apart_exactly}
use Rattle.access_map.proofs.laws.apart_exactly_without_spans.Goals as goal

pub returns : goal.returns
returns c board v w allowed there back forth home = apart_exactly board v w allowed there back forth home
