use Rattle.std.proofs.Common.{ap, ◌∙◌, rules}
use Rattle.std.proofs.lemmas.List.Sorted.{answers_always, IsNonDecreasingBy-from_sort_by_key}
use Rattle.bt_demand.specs.Apart.{bursts_from}
use Rattle.bt_shared.proofs.Sent.{sender, kept_in_order}
use Rattle.bt_shared.proofs.sent_bursts.SentBursts.of.Goals as goal

-- the bursts are in order of the sender
pub invariant_of-result : goal.invariant_of-result
invariant_of-result c = IsNonDecreasingBy-from_sort_by_key sender _ c.in_ok-sort_by_key.ensures.sorted (λ a r q k. search rules)

-- and those of one sender in the order of the plan
pub returns : goal.returns
returns c = record {
  sent = λ terminal.
      kept_in_order _ _ (c.sort_by_key.ensures.stable sender (answers_always _ _ _ (λ f a r g h. search rules))) terminal
      ∙ ap (bursts_from terminal) (c.in_ok-bursts.ensures.items ∙ c.as_slice.ensures.same);
}
