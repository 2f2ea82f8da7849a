use Rattle.std.proofs.Common.{◌∙◌, sym, ap}
use Rattle.symbols.specs.Tables.{or_header}
use Rattle.symbols.proofs.Steps.{no_headers, headers_more}
use Rattle.symbols.proofs.places.symbol_header.Goals as goal

pub headers-init : goal.headers-init
headers-init c = record { value = sym (no_headers _ _); within = tt }

pub headers-preserved : goal.headers-preserved
headers-preserved c = record {
  value = rw (headers_more, ← c.headers.invariant.value) c.or_header-first.ensures.value;
  within = c.or_header-first.ensures.within;
}
