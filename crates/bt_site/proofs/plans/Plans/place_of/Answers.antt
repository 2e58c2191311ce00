use Rattle.std.proofs.Common.{rules, ◌∙◌}
use Rattle.std.proofs.lemmas.List.Sorted.{answers_always}
use Rattle.bt_frame.specs.declared.numbers.EditionNo.{EditionNo}
use Rattle.bt_site.proofs.Lookup.{searched-ok, searched-err}
use Rattle.bt_site.proofs.plans.Plans.place_of.Goals as goal

pub returns-in-Ok : goal.returns-in-Ok
returns-in-Ok c =
    let facts = c.binary_search_by_key-found.ensures in
    let by_edition = facts.position (λ (e : EditionNo). e.0) (answers_always _ _ _ (λ f a r g called. search rules)) in
    record { place = rw (← c.self.view_is) (searched-ok _ c.args.edition _ _ _ c.in-Ok.is c.self.invariant.starts (c.deref.ensures.value ∙ c.self.invariant.editions) facts.bound by_edition) }

pub returns-in-Err : goal.returns-in-Err
returns-in-Err c =
    let facts = c.binary_search_by_key-found.ensures in
    let by_edition = facts.position (λ (e : EditionNo). e.0) (answers_always _ _ _ (λ f a r g called. search rules)) in
    record { place = rw (← c.self.view_is) (searched-err _ c.args.edition _ _ _ c.in-Err.is c.self.invariant.starts (c.deref.ensures.value ∙ c.self.invariant.editions) facts.bound by_edition) }
