use Rattle.std.proofs.Common.{◌+◌, ◌*◌, ◌≤◌}
use Rattle.bt_talk.specs.Blocks.{IsOpenFor}
use Rattle.bt_centre.specs.Answering.{SessionGoing}
use Rattle.bt_centre.proofs.session.play_lines.Given as goal

-- the lines so far were played and answered
abbrev pub invariant-loop-at : goal.invariant-loop-at
invariant-loop-at g l = record {
  later : g.T.Sink.fault_count l.fn.talk ≤ g.T.Sink.fault_count l.talk;
  heard : g.T.Talk.unheard l.fn.talk ≤ g.T.Talk.unheard l.talk;
  few : l.playing.rounds + 20000 ≤ 20000 * l.at;
  last : l.at ≤ 400000000000000;
  names : IsOpenFor l.net l.opened;
  going : SessionGoing l.net l.sites l.fn.playing.book l.at l.opened l.timed l.playing (g.T.Talk.coming l.fn.talk) (g.T.Talk.coming l.talk) (g.T.Sink.told l.fn.talk) (g.T.Sink.told l.talk)
      (g.T.Talk.turns l.fn.talk) (g.T.Talk.turns l.talk) (g.C.Clock.coming l.fn.clock) (g.C.Clock.coming l.clock);
}
