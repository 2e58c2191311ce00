use Rattle.std.proofs.Common.{◌≡◌, ℕ, ◌+◌, ◌*◌, List, slice_index, slice_set, get_or, sym, ap, ◌∙◌, subst, arith}
use Rattle.bt_cut.specs.declared.connection.Connection.{Connection}
use Rattle.bt_cut.specs.Serving.{HasSlots}
use Rattle.bt_cut.proofs.Tables.{IsPartTable, IsPartTable-more}
use Rattle.bt_cut.proofs.table.add_mode.Goals as goal

-- one row more
pub loop-up-preserved : goal.loop-up-preserved
loop-up-preserved c =
    let perm = c.args.mode.now.perm in
    let row = c.loop-up.up in
    let old = c.index_mut.result.now in
    let at : c.place_of.result ≡ row * 32 + slice_index perm row = c.place_of.ensures ∙ ap (λ (l : List ℕ). row * 32 + slice_index l row) c.as_slice.ensures.same in
    let read : old ≡ get_or c.loop-up.table.items (row * 32 + slice_index perm row) old = c.index_mut.ensures.value ∙ ap (λ (n : ℕ). get_or c.loop-up.table.items n old) at in
    record {
      count = c.loop-up.invariant.count;
      so_far = λ modes place within is begins table.
          subst (λ (n : ℕ). IsPartTable modes c.args.beams place (row + 1) (slice_set c.loop-up.table.items n c.add.new.self)) (sym at)
          (IsPartTable-more modes c.args.beams place row c.args.mode.now c.loop-up.table.items old c.add.new.self c.args.start
          c.requires.few (omega (arith, c.loop-up-test.true, c.loop-up.auto.up-end)) (omega (arith, c.loop-up.table.ok.0, c.loop-up.invariant.count)) within is begins
          c.requires.permutation c.requires.lasts c.requires.short
          (λ up down k taken given has. c.in_ok-add.ensures modes up down k taken given (subst (λ (x : Connection). HasSlots modes up down k taken x) (sym read) has))
          (c.loop-up.invariant.so_far modes place within is begins table));
    }
