-- one line more
use Rattle.std.proofs.Common.{refl, ◌∙◌}
use Rattle.bt_round.specs.Callers.{own_of}
use Rattle.bt_round.proofs.Asking.{same_as_now, same_network, still_same}
use Rattle.bt_round.proofs.DeskLines.{desk_begins, desk_turn}
use Rattle.bt_round.proofs.desk.run_desk.Goals as goal

pub loop-line-init : goal.loop-line-init
loop-line-init g c = record {
  same = same_as_now c.args.caller.now;
  board = refl;
  done = desk_begins c.args.net.now c.args.desk c.args.reader.now.plans (own_of c.args.caller.now) c.args.text.now.items;
}

pub run_line-requires-clause-network : goal.run_line-requires-clause-network
run_line-requires-clause-network g c = same_network c.args.caller.now c.loop-line.caller c.args.net.now c.loop-line.invariant.same c.requires.network

pub run_line-requires-clause-number : goal.run_line-requires-clause-number
run_line-requires-clause-number g c = c.loop-line.invariant.same.place.number_is ∙ c.requires.number

pub loop-line-preserved : goal.loop-line-preserved
loop-line-preserved g c = record {
  same = still_same c.args.caller.now c.loop-line.caller c.run_line.new.caller c.loop-line.invariant.same c.run_line.ensures.same;
  board = c.run_line.ensures.board ∙ c.loop-line.invariant.board;
  done = desk_turn c.args.net.now c.args.desk c.args.lines.now c.loop-line.line-index c.line-item.result _ _ _ _ _ _ _ _ _
      c.loop-line-test.true c.line-item.is c.loop-line.invariant.done c.in_ok-run_line.ensures.done;
}
