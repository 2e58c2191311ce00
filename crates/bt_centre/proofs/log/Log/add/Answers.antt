-- the entries stand behind those before them
use Rattle.std.proofs.Common.{◌++◌}
use Rattle.bt_centre.specs.Handed.{joined}
use Rattle.bt_centre.specs.Run.{entries_of}
use Rattle.bt_centre.proofs.Handed.{joined_more, tally_more}
use Rattle.bt_centre.proofs.log.Log.add.Goals as goal

pub invariant_of-self : goal.invariant_of-self
invariant_of-self c =
    let log = c.self.inside in
    tally_more log.times (joined log.front) (joined c.push.new.self) c.args.entries.now c.as_slice.result.now c.with_entries-self-inside.result
    (joined_more log.front c.push.new.self _ c.push.ensures.pushed) c.as_slice.ensures.same
    (c.with_entries-self-inside.ensures.counted (entries_of log.times ++ joined log.front) c.self.invariant)
