use Rattle.std.proofs.Common.{List, ◌∷◌, [], ◌++◌, ◌∙◌, ap}
use Rattle.bt_demand.specs.declared.plan.Plan.{Plan}
use Rattle.bt_machine_cases.proofs.Opened.{opens-with}
use Rattle.bt_machine_cases.proofs.world.world_of.Goals as goal

pub start-requires : goal.start-requires
start-requires c =
    let one = c.in_ok-push.ensures.items ∙ ap (λ (l : List Plan). l ++ c.empty_plan.result ∷ []) c.new-plans.ensures.items in
    record { opening = opens-with c.args.net.now c.empty_plan.result c.push.new.self.items c.new.result.items c.empty_plan.ensures.plan one c.new.ensures.items }
