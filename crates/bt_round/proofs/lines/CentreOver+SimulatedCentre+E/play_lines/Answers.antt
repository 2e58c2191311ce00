use Rattle.std.proofs.Common.{refl, ◌∙◌}
use Rattle.bt_script.specs.declared.script.AirLine.TheVariants as line
use Rattle.bt_round.specs.Callers.{own_of}
use Rattle.bt_round.proofs.Asking.{same_as_now, same_network, still_same}
use Rattle.bt_round.proofs.PlayedLines.{lines-more, lines-none}
use Rattle.bt_round.proofs.lines.CentreOver+SimulatedCentre+E.play_lines.Goals as goal

pub loop-line-init : goal.loop-line-init
loop-line-init g c = record {
  opening = refl;
  same = same_as_now c.args.caller.now;
  played = lines-none c.args.net.now c.args.self.now (own_of c.args.caller.now) c.args.text.now.items;
}

pub play_line-requires-clause-caller_network : goal.play_line-requires-clause-caller_network
play_line-requires-clause-caller_network g c = same_network c.args.caller.now c.loop-line.caller c.args.net.now c.loop-line.invariant.same c.requires.caller_network

pub play_line-requires-clause-number : goal.play_line-requires-clause-number
play_line-requires-clause-number g c = c.loop-line.invariant.same.place.number_is ∙ c.requires.number

pub loop-line-preserved : goal.loop-line-preserved
loop-line-preserved g c = record {
  opening = c.play_line.ensures.opening ∙ c.loop-line.invariant.opening;
  same = still_same c.args.caller.now c.loop-line.caller c.play_line.new.caller c.loop-line.invariant.same c.play_line.ensures.same;
  played = lines-more c.args.net.now c.args.self.now c.loop-line.self c.play_line.new.self c.args.lines.now c.loop-line.line-index line.Tick
      (own_of c.args.caller.now) (own_of c.loop-line.caller) (own_of c.play_line.new.caller) c.args.text.now.items c.loop-line.text.items c.play_line.new.text.items
      c.loop-line-test.true c.loop-line.invariant.played c.in_ok-play_line.ensures.played;
}
