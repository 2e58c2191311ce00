use Rattle.std.proofs.Common.{◌≡◌, ◌++◌, ◌∷◌, [], take, List, map, All, ◌∙◌, ap, subst, arith}
use Rattle.std.proofs.lemmas.List.{take_all}
use Rattle.bt_frame.specs.declared.numbers.EditionNo.{EditionNo}
use Rattle.bt_demand.specs.declared.burst.Burst.{Burst}
use Rattle.bt_demand.specs.declared.plan.Plan.{Plan}
use Rattle.bt_machines.specs.Plans.{IsStored}
use Rattle.bt_site.specs.Plans.{Planned}
use Rattle.bt_site.specs.Shares.{shares_of}
use Rattle.bt_site.proofs.Indexed.{mapped-next, stored-next, indexed-first, stored-back, traced-next, told-whole}
use Rattle.bt_site.proofs.plans.Plans.of.Goals as goal

pub loop-plan-preserved : goal.loop-plan-preserved
loop-plan-preserved c =
    let within = c.loop-plan-test.true in
    let edition : Plan → EditionNo = λ (plan : Plan). plan.edition in
    let share : Plan → List (List Burst) = λ (plan : Plan). shares_of c.args.terminals plan.bursts in
    let one : c.in_ok-of.field-0 ≡ share c.plan-item.result = c.in_ok-of.ensures ∙ ap (λ (list : List Burst). shares_of c.args.terminals list) c.as_slice.ensures.same in
    record {
      editions = c.in_ok-push.ensures.items ∙ ap (λ (list : List EditionNo). list ++ c.edition_of.result ∷ []) c.loop-plan.invariant.editions
          ∙ ap (λ (e : EditionNo). map edition (take c.loop-plan.plan-index c.args.plans.now) ++ e ∷ []) c.edition_of.ensures.edition
          ∙ mapped-next _ _ _ within c.plan-item.is edition;
      shares = c.in_ok-push-2.ensures.items ∙ ap (λ (list : List (List (List Burst))). list ++ c.in_ok-of.field-0 ∷ []) c.loop-plan.invariant.shares
          ∙ ap (λ (e : List (List Burst)). map share (take c.loop-plan.plan-index c.args.plans.now) ++ e ∷ []) one
          ∙ mapped-next _ _ _ within c.plan-item.is share;
      told = traced-next _ _ _ _ _ within c.plan-item.is c.loop-plan.invariant.told c.push-in-loop-plan-2.ensures.pushed;
      stored = stored-next _ _ _ within c.plan-item.is c.loop-plan.invariant.stored c.edition_of.ensures.stored;
    }

pub invariant_of-result : goal.invariant_of-result
invariant_of-result c =
    let all = take_all c.loop-plan.plan-index c.args.plans.now (omega arith) in
    let stored = subst (λ (list : List Plan). All IsStored list) all c.loop-plan.invariant.stored in
    indexed-first _ _ c.args.plans.now c.requires.few c.requires.starts stored (told-whole _ _ (c.loop-plan.invariant.told ∙ all))
    (c.loop-plan.invariant.editions ∙ ap (λ (list : List Plan). map (λ (plan : Plan). plan.edition) list) all)
    (c.loop-plan.invariant.shares ∙ ap (λ (list : List Plan). map (λ (plan : Plan). shares_of c.args.terminals plan.bursts) list) all)

pub returns-clause-made : goal.returns-clause-made
returns-clause-made c =
    let all = take_all c.loop-plan.plan-index c.args.plans.now (omega arith) in
    ap (λ (list : List Plan). let p : Planned = record { terminals = c.args.terminals; all = list } in p) (told-whole _ _ (c.loop-plan.invariant.told ∙ all))

pub returns-clause-stored : goal.returns-clause-stored
returns-clause-stored c =
    let all = take_all c.loop-plan.plan-index c.args.plans.now (omega arith) in
    let stored = subst (λ (list : List Plan). All IsStored list) all c.loop-plan.invariant.stored in
    stored-back _ _ (told-whole _ _ (c.loop-plan.invariant.told ∙ all)) stored
