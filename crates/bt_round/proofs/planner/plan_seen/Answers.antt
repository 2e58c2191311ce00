-- the demand that was seen is planned and posted, or nothing is new
use Rattle.std.proofs.Common.{arith}
use Rattle.bt_round.proofs.OnOk.{on_ok}
use Rattle.bt_round.proofs.PlannerLines.{edition_planned, nothing_new, plan_is_on, seen_demand}
use Rattle.bt_round.proofs.planner.plan_seen.Goals as goal

pub returns-then-edition-newest-clause-done : goal.returns-then-edition-newest-clause-done
returns-then-edition-newest-clause-done g c =
    let seen = c.requires.seen in
    on_ok c.entry_text.result c.entry_text.ensures.added (λ added before kept.
    nothing_new c.args.net.now c.args.seen.now c.in-Demand.edition c.in-Demand.newest c.in-Demand.demand c.args.publisher.now.plans before _ _ _ seen.caller seen.call c.in-Demand.is
    (omega (arith, c.if-edition-newest.true)) kept added)

pub make_plan-requires-clause-terminals : goal.make_plan-requires-clause-terminals
make_plan-requires-clause-terminals g c =
    let seen = c.requires.seen in
    let demand = seen_demand c.args.net.now c.args.seen.now c.in-Demand.edition c.in-Demand.newest c.in-Demand.demand seen.answered seen.call c.in-Demand.is in
    c.demands_fit_the_frame.ensures.network c.args.net.now seen.answered.old.changes c.in-Demand.demand c.beam_count-beams.ensures.sound seen.answered.follows demand

pub make_plan-requires-clause-fits : goal.make_plan-requires-clause-fits
make_plan-requires-clause-fits g c =
    let seen = c.requires.seen in
    let demand = seen_demand c.args.net.now c.args.seen.now c.in-Demand.edition c.in-Demand.newest c.in-Demand.demand seen.answered seen.call c.in-Demand.is in
    let fits = c.demands_fit_the_frame.ensures.fits c.args.net.now seen.answered.old.changes c.in-Demand.demand c.beam_count-beams.ensures.sound seen.answered.follows demand in
    λ line within. omega (arith, fits line within, c.beam_count-beams.ensures.sound.slots)

pub install_plan-requires-clause-terminals : goal.install_plan-requires-clause-terminals
install_plan-requires-clause-terminals g c = plan_is_on c.args.net.now c.in-Demand.demand c.in_ok-plan.plan c.in_ok-plan.ensures.terminals c.in_ok-plan.ensures.heaviest

pub returns-clause-done : goal.returns-clause-done
returns-clause-done g c =
    let seen = c.requires.seen in
    let plan = c.in_ok-plan.ensures in
    on_ok c.install_plan.result c.install_plan.ensures.done (λ done before kept.
    edition_planned c.args.net.now c.args.seen.now c.in-Demand.edition c.in-Demand.newest c.in-Demand.demand c.in_ok-plan.plan _ _ before _ _ _ _ seen.caller seen.call
    c.in-Demand.is c.if-edition-newest.false kept plan.edition plan.good done)
