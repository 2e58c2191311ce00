use Rattle.std.proofs.Common.{◌≡◌, ◌<◌, ◌∙◌, length, get_or, reverse, sym, ap, subst, arith}
use Rattle.bt_demand.specs.declared.plan.Plan.{Plan}
use Rattle.bt_demand.specs.Plan.{empty_plan}
use Rattle.bt_site.specs.Event.{Install}
use Rattle.bt_world.specs.Life.{Listed, installs}
use Rattle.bt_world.proofs.Places.{listed-at, placed-at, plan-at}
use Rattle.bt_world.proofs.kept_events.KeptEventsEvents.installed.Goals as goal

-- an event brings one plan
same-plan : (a b : Plan) → Install a ≡ Install b → a ≡ b
same-plan a b e = cc

pub index-requires : goal.index-requires
index-requires c =
    let within = subst (λ (kept : Listed). c.args.number < length (installs (reverse kept.all))) (sym c.self.view_is) c.requires.number in
    omega (arith, listed-at _ _ c.args.number c.self.invariant within)

pub index-requires-2 : goal.index-requires-2
index-requires-2 c =
    let within = subst (λ (kept : Listed). c.args.number < length (installs (reverse kept.all))) (sym c.self.view_is) c.requires.number in
    let brings = placed-at _ _ c.args.number empty_plan c.index.result.now c.self.invariant within in
    omega (arith, c.index.ensures, brings.within)

pub unreachable-requires : goal.unreachable-requires
unreachable-requires c =
    let within = subst (λ (kept : Listed). c.args.number < length (installs (reverse kept.all))) (sym c.self.view_is) c.requires.number in
    let brings = placed-at _ _ c.args.number empty_plan c.index.result.now c.self.invariant within in
    c.in_default.not-Install _ (c.index-2.ensures ∙ ap (λ n. get_or c.self.inside.events.items n c.index-2.result.now) c.index.ensures ∙ brings.is c.index-2.result.now)

pub returns : goal.returns
returns c =
    let within = subst (λ (kept : Listed). c.args.number < length (installs (reverse kept.all))) (sym c.self.view_is) c.requires.number in
    let brings = placed-at _ _ c.args.number c.in-Install.plan c.index.result.now c.self.invariant within in
    let event = sym c.in-Install.is ∙ c.index-2.ensures ∙ ap (λ n. get_or c.self.inside.events.items n c.index-2.result.now) c.index.ensures ∙ brings.is c.index-2.result.now in
    record { plan = rw (← c.self.view_is) (plan-at c.self.inside.events.items c.args.number c.in-Install.plan within (sym (same-plan c.in-Install.plan _ event))) }
