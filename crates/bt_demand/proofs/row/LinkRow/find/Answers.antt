use Rattle.std.proofs.Common.{rules}
use Rattle.std.proofs.lemmas.List.Sorted.{answers_always}
use Rattle.bt_demand.specs.Demand.{ends_of}
use Rattle.bt_demand.proofs.Links.{searched}
use Rattle.bt_demand.proofs.row.LinkRow.find.Goals as goal

-- the closure gives the ends of a link, and the slice is the demand's links
pub returns : goal.returns
returns c =
    let facts = c.binary_search_by_key.ensures in
    let by_ends = facts.position ends_of (answers_always _ _ _ (λ f a r g called. search rules)) in
    rw (← c.self.view_is, ← c.deref.ensures.value) (searched _ (c.args.from, c.args.to) _ (rw c.deref.ensures.value c.self.invariant) facts.bound by_ends)
