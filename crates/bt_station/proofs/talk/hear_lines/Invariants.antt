use Rattle.std.proofs.Common.{◌+◌, ◌≤◌}
use Rattle.bt_station.specs.Going.{IsGoing}
use Rattle.bt_station.specs.Ready.{IsReady}
use Rattle.bt_station.proofs.talk.hear_lines.Given as goal

-- the lines so far were answered
abbrev pub invariant-loop-at : goal.invariant-loop-at
invariant-loop-at g l = record {
  later : g.T.Sink.fault_count l.fn.talk ≤ g.T.Sink.fault_count l.talk;
  heard : g.T.Talk.unheard l.fn.talk ≤ g.T.Talk.unheard l.talk;
  last : l.at ≤ 9223372036854775808;
  ready : IsReady l.net l.station;
  going : IsGoing l.net (record { told = g.K.Keeper.told l.store; faults = g.K.Keeper.fault_count l.store; crashes = g.K.Keeper.crashes l.store }) l.fn.station l.at l.station (g.T.Talk.coming l.fn.talk) (g.T.Talk.coming l.talk) (g.T.Sink.told l.fn.talk) (g.T.Sink.told l.talk)
      (g.T.Talk.turns l.fn.talk) (g.T.Talk.turns l.talk);
}
