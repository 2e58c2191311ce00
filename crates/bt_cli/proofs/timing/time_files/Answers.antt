-- the plan and the delays are loaded after the network and the demand
use Rattle.bt_load.proofs.Loads.{came_then}
use Rattle.bt_cli.specs.Fitting.{asked_files}
use Rattle.bt_cli.specs.Timing.{TellsTimes, timed_plan}
use Rattle.bt_cli.proofs.Timed.{timed_sooner}
use Rattle.bt_cli.proofs.timing.time_files.Goals as goal

pub returns : goal.returns
returns g c =
    let net = c.in_ok-asked.asked.net in
    let links = c.in_ok-asked.asked.demand in
    let plan = c.args.plan.now in
    let delays = c.args.delays.now in
    came_then (asked_files c.args.net.now c.args.traffic.now) (λ asked. timed_plan asked.0 asked.1 plan delays) (λ all. TellsTimes all.0.0 all.0.1 all.1.0 all.1.1) (g.F.Files.told c.args.files.now) (g.F.Files.told c.load_asked.new.files) _ _ _
    (net, links) (timed_sooner net links plan delays) c.in_ok-asked.ensures.same c.in_ok-asked.ensures.later c.in_ok-asked.ensures.loaded c.time_plan_file.result c.time_plan_file.ensures
