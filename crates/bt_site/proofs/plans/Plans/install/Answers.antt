use Rattle.std.proofs.Common.{◌<◌, ◌++◌, ◌∷◌, [], ◌∙◌, List, sym, ap, subst, refl}
use Rattle.bt_frame.specs.declared.numbers.EditionNo.{EditionNo}
use Rattle.bt_demand.specs.declared.burst.Burst.{Burst}
use Rattle.bt_machines.specs.Plans.{newest_of}
use Rattle.bt_site.specs.Plans.{Planned}
use Rattle.bt_site.specs.Shares.{shares_of}
use Rattle.bt_site.proofs.Indexed.{indexed-again, indexed-installed, told-more}
use Rattle.bt_site.proofs.plans.Plans.install.Goals as goal

pub invariant_of-self-2 : goal.invariant_of-self-2
invariant_of-self-2 c =
    let plan = c.args.plan.now in
    let newer = subst (λ (p : Planned). (newest_of p.all).0 < plan.edition.0) (sym c.self.view_is) c.requires.newer in
    let share = c.in_ok-share.ensures ∙ ap (λ (list : List Burst). shares_of c.self.inside.terminals list) c.as_slice.ensures.same in
    let editions = c.push_reserved.ensures.items ∙ ap (λ (list : List EditionNo). list ++ c.edition_of-edition.result ∷ []) c.reserve_both.ensures.editions
    ∙ ap (λ (e : EditionNo). c.self.inside.editions.items ++ e ∷ []) c.edition_of-edition.ensures.edition in
    let shares = c.push_reserved-2.ensures.items ∙ ap (λ (list : List (List (List Burst))). list ++ c.in_ok-share.share ∷ []) c.reserve_both.ensures.shares
    ∙ ap (λ (s : List (List Burst)). c.self.inside.shares.items ++ s ∷ []) share in
    indexed-installed _ _ _ _ plan c.self.invariant newer c.edition_of-edition.ensures.stored refl (told-more _ _ plan c.push.ensures.pushed) editions shares

pub invariant_of-self : goal.invariant_of-self
invariant_of-self c = let same = c.reserve_both.ensures in indexed-again _ _ _ c.self.invariant same.editions same.shares

pub invariant_of-self-in_err-share : goal.invariant_of-self-in_err-share
invariant_of-self-in_err-share c = let same = c.reserve_both.ensures in indexed-again _ _ _ c.self.invariant same.editions same.shares

pub returns-clause-installed : goal.returns-clause-installed
returns-clause-installed c = rw (← c.self.view_is) (told-more _ _ c.args.plan.now c.push.ensures.pushed)
