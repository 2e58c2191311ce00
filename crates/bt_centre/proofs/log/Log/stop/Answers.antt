-- all times are over
use Rattle.std.proofs.Common.{ap, ◌∙◌}
use Rattle.bt_centre.specs.Handed.{Logged, joined}
use Rattle.bt_centre.proofs.Handed.{tally_end}
use Rattle.bt_centre.proofs.log.Log.stop.Goals as goal

pub returns-clause-tally : goal.returns-clause-tally
returns-clause-tally c =
    let log = c.self.inside in
    tally_end log.times (joined log.front) log.tally (ap (λ (l : Logged). l.front) c.self.view_is ∙ c.end_time.ensures.front) c.self.invariant
