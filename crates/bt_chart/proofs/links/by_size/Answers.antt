use Rattle.std.proofs.Common.{◌-◌, rules}
use Rattle.std.proofs.lemmas.List.Sorted.{IsNonDecreasingBy-from_sort_by_key}
use Rattle.bt_frame.specs.declared.limits.TheConstants.{MOST_SUM}
use Rattle.bt_demand.specs.declared.demand.Link.{Link}
use Rattle.bt_chart.proofs.links.by_size.Goals as goal

-- the key is what a link has less than the most slots
pub returns-clause-falling : goal.returns-clause-falling
returns-clause-falling c = IsNonDecreasingBy-from_sort_by_key (λ (link : Link). MOST_SUM - link.units) _ c.in_ok-sort_by_key.ensures.sorted (λ a r q k. search rules)
