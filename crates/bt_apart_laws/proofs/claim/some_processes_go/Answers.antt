use Rattle.std.proofs.Common.{[]}
use Rattle.bt_apart_laws.proofs.Started.{example-goes}
use Rattle.bt_apart_laws.proofs.claim.some_processes_go.Goals as goal

pub returns : goal.returns
returns c = record {
  go = λ net number sound named. example-goes c.lines_are_heard_as_said.ensures.heard net number (c.installed_plans_can_be_flown.ensures.all net [] sound tt) named;
}
