use Rattle.std.proofs.Common.{sym}
use Rattle.symbols.proofs.Steps.{no_symbols, symbols_more}
use Rattle.symbols.proofs.table.symbols_of.Goals as goal

pub symbols-init : goal.symbols-init
symbols-init c = rw c.new-symbols.ensures.items (sym (no_symbols _ _))

pub symbols-preserved : goal.symbols-preserved
symbols-preserved c = rw (symbols_more, ← c.symbols.invariant) c.in_ok-put_symbol.ensures
