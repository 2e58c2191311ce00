use Rattle.bt_machines.proofs.SatelliteByEvents.{mark_said, orders_said, stands_by_events, status_said}
use Rattle.bt_machines.proofs.satellite_laws.accepted_orders_are_said_by_events.Goals as goal

pub returns : goal.returns
returns c = record {
  mark = λ mark latest. mark_said mark latest;
  orders = λ mark latest. orders_said mark latest;
  stands = λ mark latest. stands_by_events mark latest;
  status = λ mark latest. status_said mark latest;
}
