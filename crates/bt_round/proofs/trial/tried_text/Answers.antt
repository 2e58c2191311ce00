use Rattle.std.proofs.Common.{arith}
use Rattle.std.proofs.lemmas.List.{drop_all}
use Rattle.bt_round.proofs.Trying.{tries_all, tries_next}
use Rattle.bt_round.proofs.trial.tried_text.Goals as goal

-- one line more was tried
pub loop-line-preserved : goal.loop-line-preserved
loop-line-preserved g c = record {
  network = c.try_line.ensures.network;
  follows = c.try_line.ensures.follows;
  tries = tries_next c.args.net.now c.args.book.now.state c.args.lines.now c.loop-line.line-index c.line-item.result c.loop-line.trial.state c.try_line.new.trial.state
      c.loop-line.text.items c.try_line.new.text.items c.loop-line-test.true c.line-item.is c.in_ok-try_line.ensures.tried c.loop-line.invariant.tries;
}

-- all lines were, and the planner behind them
pub returns : goal.returns
returns g c =
    let lines = c.args.lines.now in
    let plans = c.in_ok-try_plan.ensures.tried in
    record {
      edited = c.loop-line.trial.state;
      answers = c.loop-line.text.items;
      plan = plans.0;
      tries = tries_all c.args.net.now c.args.book.now.state c.loop-line.trial.state lines c.loop-line.line-index c.loop-line.text.items
          (drop_all c.loop-line.line-index lines (omega (arith, c.loop-line-test.false))) c.loop-line.invariant.tries;
      plans = plans.1;
      whole = plans.2;
    }
