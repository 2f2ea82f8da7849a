use Rattle.scs.proofs.Devices.{load_keeps_at}
use Rattle.scs.proofs.system.System.access_device.Goals as goal

pub returns-else-is_store-clause-refused : goal.returns-else-is_store-clause-refused
returns-else-is_store-clause-refused g c =
    rw (c.load_from_device.ensures.performed, c.load_from_device.ensures.system)
    (load_keeps_at c.args.self.now c.args.at c.args.rule c.args.request.now c.requires)
