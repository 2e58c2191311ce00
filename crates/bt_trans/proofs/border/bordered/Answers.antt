use Rattle.std.proofs.Common.{ℕ, ◌-◌, ◌*◌, List, map, subst, sym, ◌∙◌, arith}
use Rattle.bt_modes.specs.Matching.{HasLineSums}
use Rattle.bt_trans.specs.Border.{IsBordered}
use Rattle.bt_trans.proofs.Written.{IsBorderedWhole-made}
use Rattle.bt_trans.proofs.border.bordered.Goals as goal

pub of-rows-requires : goal.of-rows-requires
of-rows-requires c = record {
  traffic = (IsBorderedWhole-made c.args.matrix.now (map (λ row. row.items) c.in_ok-cells.field-0.items) c.args.k (2 * c.size-size.result - c.args.k) c.args.inner c.args.sum c.cuts_of-cuts.result.inner c.cuts_of-cuts.result.sum
      c.size-size.ensures.traffic c.requires.within c.requires.most (omega (arith, c.size-size.ensures.size, c.requires.most)) (omega (arith, c.size-size.ensures.size, c.requires.few))
      c.requires.limit c.requires.inner c.in_ok-cells.ensures c.cuts_of-cuts.ensures.inner c.cuts_of-cuts.ensures.sum).traffic;
}

pub invariant_of-result : goal.invariant_of-result
invariant_of-result c =
    let whole = IsBorderedWhole-made c.args.matrix.now (map (λ row. row.items) c.in_ok-cells.field-0.items) c.args.k (2 * c.size-size.result - c.args.k) c.args.inner c.args.sum c.cuts_of-cuts.result.inner c.cuts_of-cuts.result.sum
    c.size-size.ensures.traffic c.requires.within c.requires.most (omega (arith, c.size-size.ensures.size, c.requires.most)) (omega (arith, c.size-size.ensures.size, c.requires.few))
    c.requires.limit c.requires.inner c.in_ok-cells.ensures c.cuts_of-cuts.ensures.inner c.cuts_of-cuts.ensures.sum in
    let Equal : List (List ℕ) → Type 0 = λ m. HasLineSums m c.args.sum in
    record { equal = subst Equal (sym (c.in_ok-matrix.ensures.same ∙ c.of-rows.ensures.same)) whole.bordered.equal }

pub returns-clause-bordered : goal.returns-clause-bordered
returns-clause-bordered c =
    let whole = IsBorderedWhole-made c.args.matrix.now (map (λ row. row.items) c.in_ok-cells.field-0.items) c.args.k (2 * c.size-size.result - c.args.k) c.args.inner c.args.sum c.cuts_of-cuts.result.inner c.cuts_of-cuts.result.sum
    c.size-size.ensures.traffic c.requires.within c.requires.most (omega (arith, c.size-size.ensures.size, c.requires.most)) (omega (arith, c.size-size.ensures.size, c.requires.few))
    c.requires.limit c.requires.inner c.in_ok-cells.ensures c.cuts_of-cuts.ensures.inner c.cuts_of-cuts.ensures.sum in
    let Bordered : List (List ℕ) → Type 0 = λ m. IsBordered c.args.matrix.now m c.args.k c.args.sum in
    subst Bordered (sym (c.in_ok-matrix.ensures.same ∙ c.of-rows.ensures.same)) whole.bordered
