-- the time that is over stands behind those before it
use Rattle.std.proofs.Common.{ap, ◌∙◌}
use Rattle.bt_centre.specs.Handed.{history_of, joined}
use Rattle.bt_centre.proofs.Handed.{tally_over}
use Rattle.bt_centre.proofs.log.Log.end_time.Goals as goal

pub invariant_of-self : goal.invariant_of-self
invariant_of-self c =
    let log = c.self.inside in
    tally_over log.times c.push.new.self (history_of (c.args.history.now.before, c.replace-front.result)) (joined log.front) (joined c.replace-front.new.dest) log.tally c.push.ensures.pushed
    (ap joined c.replace-front.ensures.value) (ap joined (c.replace-front.ensures.after ∙ c.new.ensures.none)) c.self.invariant
