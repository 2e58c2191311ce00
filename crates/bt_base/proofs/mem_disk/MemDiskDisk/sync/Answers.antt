use Rattle.std.proofs.Common.{ap}
use Rattle.bt_base.specs.MemoryDisk.{HeldDisk}
use Rattle.bt_base.proofs.Life.{same_steps}
use Rattle.bt_base.proofs.mem_disk.MemDiskDisk.sync.Goals as goal

-- a failed sync changes nothing
pub returns-in-Some-clause-steps : goal.returns-in-Some-clause-steps
returns-in-Some-clause-steps c = same_steps c.args.self.now.life c.self.inside.moments (ap (λ (disk : HeldDisk). disk.life) c.self.view_is)
