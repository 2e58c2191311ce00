use Rattle.std.proofs.Common.{sym, subst}
use Rattle.bt_demand.specs.declared.plan.Plan.{Plan}
use Rattle.bt_demand.specs.Apart.{AreBetweenTerminals}
use Rattle.bt_demand.specs.Plan.{empty_plan}
use Rattle.bt_look.proofs.installed.text_at.Goals as goal

-- an installed plan can be flown, so its bursts are between terminals
pub plan_text-requires : goal.plan_text-requires
plan_text-requires g c =
    let net = c.args.net.now in
    let flies = c.installed_plans_can_be_flown.ensures.all net c.args.book.now.state.changes c.beam_count-beams.ensures.sound c.requires.follows c.args.place empty_plan c.requires.place in
    record { terminals = subst (λ (plan : Plan). AreBetweenTerminals net plan.bursts) (sym c.plan.ensures.plan) flies.between }
