-- the plan is loaded after the network and the demand
use Rattle.bt_load.specs.Kinds.{plan_file}
use Rattle.bt_load.specs.Loaders.{file}
use Rattle.bt_load.proofs.Loads.{came_then, file_sooner}
use Rattle.bt_cli.specs.CheckPlan.{JudgesPlan}
use Rattle.bt_cli.specs.Fitting.{asked_files}
use Rattle.bt_cli.proofs.check_plan.check_plan_files.Goals as goal

pub returns : goal.returns
returns g c =
    let net = c.in_ok-asked.asked.net in
    let links = c.in_ok-asked.asked.demand in
    let plan = c.args.plan.now in
    record {
      judged = came_then (asked_files c.args.net.now c.args.traffic.now) (λ asked. file (plan_file asked.0) plan) (λ both. JudgesPlan both.0.0 both.0.1 both.1) (g.F.Files.told c.args.files.now) (g.F.Files.told c.load_asked.new.files) _ _ _ (net, links)
          (file_sooner (plan_file net) plan) c.in_ok-asked.ensures.same c.in_ok-asked.ensures.later c.in_ok-asked.ensures.loaded c.check_plan_file.result c.check_plan_file.ensures;
    }
