use Rattle.std.proofs.Common.{List, sym, subst, ◌∙◌}
use Rattle.std.proofs.lemmas.List.{take_all}
use Rattle.bt_demand.specs.declared.demand.Link.{Link}
use Rattle.bt_demand.specs.Rows.{AreRows}
use Rattle.bt_demand.proofs.demand.Demand.copy.Goals as goal

-- all rows were copied
pub invariant_of-result : goal.invariant_of-result
invariant_of-result c =
    let whole = take_all _ _ c.loop-row-test.false ∙ c.deref-row-items.ensures.value in
    subst (λ (rows : List (List Link)). AreRows rows) (sym (c.loop-row.invariant ∙ whole)) c.self.invariant
