use Rattle.std.proofs.Common.{rules, arith, ◌≡◌, ◌+◌, ◌<◌, Some, length, sym, ap, ◌∙◌}
use Rattle.bt_shared.specs.Turns.{admits, admitted, fresh}
use Rattle.bt_shared.proofs.Steps.{splits}
use Rattle.bt_shared.proofs.Passes.{pushed_each, pushed_length}
use Rattle.bt_shared.proofs.line.passes_of.Goals as goal

pub split_seat-place-requires : goal.split_seat-place-requires
split_seat-place-requires g c = let held = c.loop-number.invariant.3 in let small : c.loop-number.number < 64 = grind arith in (
  c.loop-number.invariant.2,
  search rules,
  splits g.O.Object.steps g.O.Object.history c.args.top.now.key.value _ _ (ap (λ m. m.0.number) held) (ap (λ m. m.0.start) held) (ap (λ m. m.0.kept) held)
      (let count : c.loop-number.lead.me.0.count ≡ c.loop-number.number = ap (λ m. m.0.count) held in omega (arith, count, small)),
)

pub loop-number-preserved : goal.loop-number-preserved
loop-number-preserved g c = let kept = c.loop-number.invariant in let held = kept.3 in let split = c.split_seat-place.ensures in let pushed = c.push_reserved.ensures.items in
    let long : length c.loop-number.passes.items + 1 ≡ c.loop-number.number = kept.4 in (
      omega arith,
      search rules,
      split.0 ∙ kept.2,
      split.2 ∙ (λ i. (admits (held i).0, (held i).1)),
      (let longer = pushed_length c.loop-number.passes.items _ _ pushed in omega (arith, longer, long)),
      search rules,
      pushed_each (λ j p. (p.place.table_id ≡ c.args.top.now.table_id) × (p.place.me.0 ≡ fresh (j + 1) (Some c.args.top.now.key.value) 0)) c.loop-number.passes.items _ _ pushed kept.6
          (split.3 ∙ kept.2, ap (λ m. m.0) split.4 ∙ (ap (λ m. admitted m.0) held ∙ ap (λ n. fresh n (Some c.args.top.now.key.value) 0) (sym long))),
    )
