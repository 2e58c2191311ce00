use Rattle.std.proofs.Common.{rules, arith, ◌≡◌, [], ◌∷◌, ◌++◌, Some, length, vec_len, sym, ap, subst, ◌∙◌}
use Rattle.std.proofs.lemmas.Option.{none-some, same_Some}
use mathlib.Core.Option.{some-injective}
use Rattle.bt_shared.specs.Legal.{Legal}
use Rattle.bt_shared.proofs.Steps.{joins, closes}
use Rattle.bt_shared.proofs.Passes.{Taking, taking_has, taking_number, taking_sum, taking_next, taking_all, taking_ends}
use Rattle.bt_shared.proofs.line.Line.close.Goals as goal

pub join_seat-requires : goal.join_seat-requires
join_seat-requires g c = let long : vec_len c.args.passes ≡ length c.args.passes.items = grind arith in let t = c.loop-pass.invariant.1 in let p = c.in-Some.pass in
    let is : c.loop-pass.passes.items ≡ c.pop.new.self.items ++ p ∷ [] = c.in-Some.ensures.items in
    let number = taking_number (λ q. q.place.me.0) _ _ c.pop.new.self.items _ p t is (λ i d h. (c.requires.all i d (omega (arith, long, h))).number_is) in (
      c.loop-pass.invariant.0,
      taking_has (λ q. q.place.me.0) _ _ c.pop.new.self.items _ p (λ q. q.place.table_id ≡ c.args.self.table.shared.table_id) t is (λ i d h. (c.requires.all i d (omega (arith, long, h))).of_line.table_is),
      p.idle.2,
      search rules,
      joins g.O.Object.steps g.O.Object.history c.args.self.table.shared.key.value _ _ _ _ t.number p.idle.0 p.idle.1 (omega (arith, number))
          (taking_sum (λ q. q.place.me.0) _ _ c.pop.new.self.items _ p t is (λ i d h. (c.requires.all i d (omega (arith, long, h))).number_is)),
    )

pub loop-pass-preserved : goal.loop-pass-preserved
loop-pass-preserved g c = let t = c.loop-pass.invariant.1 in let p = c.in-Some.pass in let is : c.loop-pass.passes.items ≡ c.pop.new.self.items ++ p ∷ [] = c.in-Some.ensures.items in
    (c.join_seat.ensures.0 ∙ c.loop-pass.invariant.0, subst (λ v. Taking (λ q. q.place.me.0) c.args.passes.items c.pop.new.self.items v) (sym (ap (λ m. m.0) c.join_seat.ensures.2)) (taking_next (λ q. q.place.me.0) _ _ c.pop.new.self.items _ p t is))

pub unreachable-requires : goal.unreachable-requires
unreachable-requires g c = let t = c.loop-pass.invariant.1 in let none_left : length c.loop-pass.passes.items ≡ 0 = grind (arith, c.in_default.ensures.cases) in
    let end = closes g.O.Object.steps g.O.Object.history c.args.self.table.shared.key.value _ _ _ _ t.number t.base (taking_all (λ q. q.place.me.0) _ _ _ t none_left) c.close_with-closed.ensures.values.2 in
    none-some end.1 (sym c.in-None.is ∙ some-injective c.take-taken.result (Some end.1) (sym c.take-taken.ensures.value ∙ end.2))

pub returns : goal.returns
returns g c = let t = c.loop-pass.invariant.1 in let long : vec_len c.args.passes ≡ length c.args.passes.items = grind arith in let none_left : length c.loop-pass.passes.items ≡ 0 = grind (arith, c.in_default.ensures.cases) in
    let end = closes g.O.Object.steps g.O.Object.history c.args.self.table.shared.key.value _ _ _ _ t.number t.base (taking_all (λ q. q.place.me.0) _ _ _ t none_left) c.close_with-closed.ensures.values.2 in
    let is : end.1 ≡ c.in-Some-taken.object = same_Some end.1 c.in-Some-taken.object (sym (some-injective c.take-taken.result (Some end.1) (sym c.take-taken.ensures.value ∙ end.2)) ∙ c.in-Some-taken.is) in record {
      history = (
        end.0,
        record { legal = subst (Legal g.O.Object.steps c.args.self.table.shared.key.value end.0) is end.3; stored = ap g.O.Object.history (sym is) ∙ end.4 },
        (λ i d h. taking_ends (λ q. q.place.me.0) _ _ _ end.0 t none_left end.5 end.6 i d (omega (arith, long, h))),
        λ n h. end.7 n (let count = t.count in omega (arith, count, long, h)),
      );
    }
