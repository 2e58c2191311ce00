use Rattle.std.proofs.Common.{◌≡◌, ℕ, ap, sym, subst, inl, inr, arith}
use Rattle.std.proofs.lemmas.Bool.{cases_lt}
use Rattle.bt_frame.specs.declared.numbers.TermNo.{TermNo}
use Rattle.bt_demand.proofs.FewLinks.{few_links}
use Rattle.bt_demand.specs.Rows.{all_links}
use Rattle.bt_demand.specs.PlanVerdict.{IsServed}
use Rattle.bt_demand.proofs.SentTable.{is_first_unserved}
use Rattle.bt_demand.proofs.serving.first_unserved.Goals as goal

pub units_by_link-asked-requires-clause-few : goal.units_by_link-asked-requires-clause-few
units_by_link-asked-requires-clause-few c =
    few_links c.args.net.now (all_links c.args.rows.now) c.requires.demand c.requires.of_network (omega (arith, c.terminal_count-count.ensures.count, c.terminal_count-count.ensures.in_range))

pub returns-then-want-have : goal.returns-then-want-have
returns-then-want-have c =
    is_first_unserved c.args.net.now (all_links c.args.rows.now) c.args.bursts.now c.units_by_link-asked.result c.slots_by_link-sent.result c.terminal_count-count.result
    (record { 0 = c.loop-from.from }) (record { 0 = c.loop-to.to }) c.requires.of_network c.requires.between c.units_by_link-asked.ensures c.slots_by_link-sent.ensures
    c.terminal_count-count.ensures.count (omega (arith, c.terminal_count-count.ensures.in_range)) c.loop-from-test.true c.loop-to-test.true
    c.loop-from.invariant c.loop-to.invariant c.if-want-have.true

-- one row more is served
pub loop-from-preserved : goal.loop-from-preserved
loop-from-preserved c = λ from to below inside. elim (cases_lt from.0 c.loop-from.from) [
  | inl lower ↦ c.loop-from.invariant from to lower inside
  | inr level ↦
      let here : from.0 ≡ c.loop-from.from = omega arith in
      let one : from ≡ record { 0 = c.loop-from.from } = ap (λ (n : ℕ). let terminal : TermNo = record { 0 = n } in terminal) here in
      subst (λ (t : TermNo). IsServed (all_links c.args.rows.now) c.args.bursts.now t to) (sym one) (c.loop-to.invariant to (omega arith))
]
