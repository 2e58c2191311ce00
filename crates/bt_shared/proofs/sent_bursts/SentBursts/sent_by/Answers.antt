use Rattle.std.proofs.Common.{◌≡◌, ◌-◌, ◌==◌, ltb, length, take, drop, rules, ap, ◌∙◌, arith}
use Rattle.std.specs.List.Sorted.{IsNonDecreasingBy}
use Rattle.std.proofs.lemmas.List.{take_rest}
use Rattle.std.proofs.lemmas.List.Sorted.{IsPartitionPoint-from_clause, IsPartitionedBy-ltb}
use Rattle.bt_demand.specs.declared.burst.Burst.{Burst}
use Rattle.bt_demand.specs.Apart.{bursts_from}
use Rattle.bt_shared.proofs.Sent.{sender, own_first, own_bursts}
use Rattle.bt_shared.proofs.sent_bursts.SentBursts.sent_by.Goals as goal

-- the bursts that are lent begin where no lower terminal sends, and end where a higher one does
pub returns : goal.returns
returns c =
    let bursts = c.as_slice-bursts.result.now in
    let first = c.partition_point-first.result in
    let count = c.partition_point-count.result in
    let n = c.args.terminal.0 in
    let same : bursts ≡ c.args.self.now = c.as_slice-bursts.ensures.value ∙ c.self.view_is in
    let sorted : IsNonDecreasingBy sender bursts = rw c.as_slice-bursts.ensures.value c.self.invariant in
    let below = IsPartitionPoint-from_clause (λ (burst : Burst). ltb burst.from.0 n) bursts first c.partition_point-first.ensures.partitioned (IsPartitionedBy-ltb sender bursts n sorted) (λ a r q k. search rules) in
    let rest : take (length bursts - first) (drop first bursts) ≡ drop first bursts = take_rest bursts first in
    let own = IsPartitionPoint-from_clause (λ (burst : Burst). burst.from.0 == n) (take (length bursts - first) (drop first bursts)) count c.partition_point-count.ensures.partitioned (rw rest (own_first n first bursts sorted below)) (λ a r q k. search rules) in
    record {
      sent = ap (take count) rest
          ∙ own_bursts c.args.terminal first count bursts c.partition_point-first.ensures.bound (omega (arith, c.partition_point-count.ensures.bound, ap length rest)) below (rw rest at own)
          ∙ ap (bursts_from c.args.terminal) same;
    }
