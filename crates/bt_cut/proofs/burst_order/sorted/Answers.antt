use Rattle.std.proofs.Common.{ℕ, ◌+◌, get_or, rules, arith}
use Rattle.std.proofs.lemmas.List.Sorted.{answers_always}
use Rattle.bt_frame.specs.declared.numbers.TermNo.{TermNo}
use Rattle.bt_demand.specs.declared.burst.Burst.{Burst}
use Rattle.bt_demand.proofs.BurstOrder.{IsNotAfter-compared}
use Rattle.bt_cut.proofs.Neighbours.{all_in_order}
use Rattle.bt_cut.proofs.burst_order.sorted.Goals as goal

pub returns-clause-ordered : goal.returns-clause-ordered
returns-clause-ordered c =
    let bursts = c.sort_unstable_by_key.new.self.items in
    let key = λ (burst : Burst). let k : ℕ × TermNo × TermNo = (burst.start, burst.from, burst.to) in k in
    all_in_order bursts (λ k d within. IsNotAfter-compared (get_or bursts k d) (get_or bursts (k + 1) d) (c.sort_unstable_by_key.ensures.sorted key (answers_always _ _ _ (λ f a r g called. search rules)) k d (omega arith) within))
