-- the numbers of a burst, and the words behind them
use Rattle.std.proofs.Common.{arith}
use Rattle.bt_plan.proofs.PlanLines.{burst_read}
use Rattle.bt_plan.proofs.plan_reader.burst_behind.Goals as goal

pub returns : goal.returns
returns c = rw (burst_read c.args.net.now c.args.at c.in-Some.start c.in-Some-number_to.slots c.args.words c.number_to.new.self c.number_to-2.new.self c.in-Some.ensures.number c.in-Some.ensures.rest c.in-Some-number_to.ensures.number c.in-Some-number_to.ensures.rest (omega arith)) c.burst_between.ensures
