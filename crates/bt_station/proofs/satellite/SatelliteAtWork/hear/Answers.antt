-- what it says of itself keeps its spelling
use Rattle.std.proofs.Common.{rules, ◌≡◌}
use Rattle.bt_station.proofs.Statuses.{status_taken}
use Rattle.bt_station.proofs.satellite.SatelliteAtWork.hear.Goals as goal

pub returns-in_err-add_taken-clause-ready : goal.returns-in_err-add_taken-clause-ready
returns-in_err-add_taken-clause-ready c = rw c.hear-taken.ensures.state (status_taken c.self.inside.site c.args.message (search rules) c.requires.in_range)

pub returns-clause-ready : goal.returns-clause-ready
returns-clause-ready c = rw c.hear-taken.ensures.state (status_taken c.self.inside.site c.args.message (search rules) c.requires.in_range)
