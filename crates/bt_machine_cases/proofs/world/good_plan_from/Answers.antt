use Rattle.std.proofs.Common.{arith}
use Rattle.bt_machine_cases.proofs.world.good_plan_from.Goals as goal

pub returns-in-Good : goal.returns-in-Good
returns-in-Good c = c.good_plans_are_flyable.ensures.flyable c.args.net.now _ c.in-Ok-read_plan.plan c.in-Ok.ensures.terminals c.in-Good.ensures.verdict (omega arith)
