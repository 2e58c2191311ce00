use Rattle.std.proofs.Common.{Option, refl, ap}
use Rattle.bt_script.specs.declared.heard.BusLine.{BusLine}
use Rattle.bt_round.specs.declared.worker.CentreOver.TheVariants.{Apart}
use Rattle.bt_apart_laws.specs.Processes.{centre_by, having_heard}
use Rattle.bt_apart_laws.proofs.Worker.{turn-comes}
use Rattle.bt_apart_laws.proofs.claim.worker_lines_are_deeds.Goals as goal

pub returns : goal.returns
returns c = record {
  opens = λ s before one. refl;
  heard = λ s before line text one is. ap (λ (b : Option BusLine). Apart (having_heard (centre_by s before) b)) is;
  goes = λ s before back. refl;
  restarts = λ s before one. refl;
  turn = turn-comes;
}
