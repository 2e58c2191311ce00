-- the delays are loaded after the plan
use Rattle.bt_cli.proofs.Timed.{came_to_plan}
use Rattle.bt_cli.proofs.timing.time_plan_file.Goals as goal

pub returns : goal.returns
returns g c =
    came_to_plan (g.F.Files.told c.args.files.now) (g.F.Files.told c.load_plan.new.files) _ _ _ c.args.plan.now c.args.delays.now c.args.net.now c.args.demand.now c.in_ok-plan.plan
    c.in_ok-plan.ensures.same c.in_ok-plan.ensures.later c.in_ok-plan.ensures.loaded c.time_plan.result c.time_plan.ensures
