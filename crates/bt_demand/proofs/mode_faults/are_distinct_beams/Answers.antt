use Rattle.std.proofs.Common.{rules, ℕ, ◌≢◌, ◌<◌, ◌≤◌, length, All, AllPairs, get_or, subst}
use Rattle.std.proofs.lemmas.List.{take_all, take_more}
use Rattle.std.proofs.lemmas.List.Elements.{All-push}
use Rattle.bt_demand.proofs.Seen.{IsSeen-none, IsSeen-push, distinct-push, unmarked}
use Rattle.bt_demand.proofs.mode_faults.are_distinct_beams.Goals as goal

-- no beam was looked at yet
pub loop-down-init : goal.loop-down-init
loop-down-init c = record {
  wide = search rules;
  in_range = search rules;
  distinct = search rules;
  marked = IsSeen-none;
}

pub loop-down-preserved : goal.loop-down-preserved
loop-down-preserved c =
    let down : ℕ = get_or c.args.columns.now c.loop-down.down-index 0 in
    let more : c.loop-down.down-index < length c.args.columns.now = search rules in
    let in_range : down < c.args.size = search rules in
    let small : down < 32 = search rules in
    let within : down < length c.loop-down.seen = search rules in
    rw (take_more c.args.columns.now c.loop-down.down-index 0 more) (record {
      wide = search rules;
      in_range = All-push (λ (d : ℕ). d < c.args.size) _ down c.loop-down.invariant.in_range in_range;
      distinct = distinct-push _ down c.loop-down.invariant.distinct (unmarked _ _ down small c.loop-down.invariant.marked c.if-seen-down.false);
      marked = IsSeen-push _ _ down within c.loop-down.invariant.marked;
    })

pub returns : goal.returns
returns c =
    let done : length c.args.columns.now ≤ c.loop-down.down-index = search rules in
    let whole = take_all c.loop-down.down-index c.args.columns.now done in
    ((λ _. (subst (All (λ (down : ℕ). down < c.args.size)) whole c.loop-down.invariant.in_range, subst (AllPairs (λ (a b : ℕ). a ≢ b)) whole c.loop-down.invariant.distinct)), λ _. search rules)
