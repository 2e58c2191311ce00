use Rattle.bt_base.proofs.Life.{steps_nowhere}
use Rattle.bt_base.proofs.mem_disk.MemDisk.write.Goals as goal

pub returns-in_err-bytes-clause-steps : goal.returns-in_err-bytes-clause-steps
returns-in_err-bytes-clause-steps c = steps_nowhere c.args.self.now.life

pub returns-in_err-extend_from_slice-clause-steps : goal.returns-in_err-extend_from_slice-clause-steps
returns-in_err-extend_from_slice-clause-steps c = steps_nowhere c.args.self.now.life
