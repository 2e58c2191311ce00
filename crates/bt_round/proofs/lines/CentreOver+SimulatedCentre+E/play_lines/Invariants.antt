use Rattle.std.proofs.Common.{◌≡◌, take}
use Rattle.bt_round.specs.AirLines.{PlaysAirLines, opening_in}
use Rattle.bt_round.specs.Callers.{IsSameCaller, own_of}
use Rattle.bt_round.specs.Worker.{Asks}
use Rattle.bt_round.proofs.lines.CentreOver+SimulatedCentre+E.play_lines.Given as goal

-- the lines so far were played
abbrev pub invariant-loop-line : goal.invariant-loop-line
invariant-loop-line g l = record {
  opening : opening_in l.self ≡ opening_in l.fn.self;
  same : IsSameCaller l.fn.caller l.caller;
  played : Asks (PlaysAirLines l.net l.fn.self (take l.line-index l.lines)) l.self (own_of l.fn.caller) (own_of l.caller) l.fn.text.items l.text.items;
}
