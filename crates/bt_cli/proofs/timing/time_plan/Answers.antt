-- the plan is good, or its verdict is named
use Rattle.std.proofs.Common.{rules}
use Rattle.bt_outside.specs.Told.{Rose}
use Rattle.bt_demand.specs.Plan.{IsGoodPlan}
use Rattle.bt_load.specs.Kinds.{delay_file}
use Rattle.bt_load.specs.Loaders.{file}
use Rattle.bt_load.proofs.Loads.{came_where}
use Rattle.bt_cli.specs.Timing.{TellsTimes}
use Rattle.bt_cli.proofs.Timed.{came_to_verdict}
use Rattle.bt_cli.proofs.timing.time_plan.Goals as goal

pub returns : goal.returns
returns g c =
    let net = c.args.net.now in
    let links = c.args.demand.now in
    let plan = c.args.plan.now in
    let failed = Rose (g.F.Files.fault_count c.args.files.now) (g.F.Files.fault_count c.time_by_file.new.files) in
    came_where (IsGoodPlan net links plan) (file (delay_file net) c.args.delays.now) (TellsTimes net links plan) (g.F.Files.told c.args.files.now) failed c.in_ok-test_good.ensures.good c.time_by_file.result c.time_by_file.ensures

pub returns-in_err-test_good : goal.returns-in_err-test_good
returns-in_err-test_good g c =
    let failed = Rose (g.F.Files.fault_count c.args.files.now) (g.F.Files.fault_count c.args.files.now) in
    let named = came_to_verdict c.one_plan_verdict.ensures.same c.args.net.now c.args.demand.now c.args.plan.now c.args.delays.now (g.F.Files.told c.args.files.now) failed c.in_err-test_good.field-0.0 c.in_err-test_good.ensures.stops in
    search (rules, named)
