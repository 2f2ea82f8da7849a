use Rattle.std.proofs.Common.{sym}
use Rattle.physical_memory.proofs.Places.{third_is}
use Rattle.physical_memory.proofs.memory.PhysicalMemory.block.Goals as goal

pub returns-in-Some-clause-value : goal.returns-in-Some-clause-value
returns-in-Some-clause-value c =
    third_is c.self.inside.flash_base c.self.inside.flash.items c.self.inside.ram.items _ c.self.inside.second
    c.in-Some.second c.args.self.now c.args.index c.base.result (sym c.self.view_is) c.in-Some.is c.if-index-eq2.true
    c.base.ensures c.bytes.ensures.value c.bytes.ensures.writable
