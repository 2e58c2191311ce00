use Rattle.std.proofs.Common.{◌<◌, List, [], ◌∷◌, ◌++◌, append_assoc, refl, sym, ◌∙◌, ap, subst}
use Rattle.bt_demand.specs.declared.plan.Plan.{Plan}
use Rattle.bt_demand.specs.Flyable.{IsFlyable}
use Rattle.bt_machines.specs.Plans.{newest_of}
use Rattle.bt_apart.specs.Apart.{ApartAir}
use Rattle.bt_apart.proofs.Kept.{more-apart}
use Rattle.bt_apart.proofs.centre.ApartCentre.install.Goals as goal

-- with the plan behind the others
pub invariant_of-self-2 : goal.invariant_of-self-2
invariant_of-self-2 c =
    let inside = c.self.inside in
    let plan = c.args.plan.now in
    let newer = subst (λ (a : ApartAir). (newest_of a.plans).0 < plan.edition.0) (sym c.self.view_is) c.requires.newer in
    let flies = subst (λ (a : ApartAir). IsFlyable a.opening.net plan) (sym c.self.view_is) c.requires.flyable in
    let pushed = c.push_reserved.ensures.items ∙ ap (λ (list : List Plan). list ++ c.in_ok-copy.copy ∷ []) c.reserve.ensures.items
    ∙ ap (λ (p : Plan). inside.installed.items ++ p ∷ []) c.in_ok-copy.ensures.same in
    let listed = ap (λ (list : List Plan). inside.opened.items ++ list) pushed ∙ sym (append_assoc inside.opened.items inside.installed.items (plan ∷ [])) in
    more-apart _ _ plan _ _ _ _ c.self.invariant refl c.in_ok-install.ensures.installed c.in_ok-install.ensures.terminals listed c.in_ok-install.ensures.centre refl refl newer flies
    c.in_ok-install.ensures.stored
