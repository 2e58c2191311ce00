use Rattle.std.proofs.Common.{List, [], ◌∷◌, ◌++◌, ap, ◌∙◌, arith}
use Rattle.bt_demand.specs.declared.demand.Link.{Link}
use Rattle.bt_demand.proofs.BySender.{KeepLinks-more}
use Rattle.bt_demand.proofs.demand.add_rows.Goals as goal

-- one row more
pub loop-preserved : goal.loop-preserved
loop-preserved c = record {
  keep = KeepLinks-more c.args.rows.now.items c.loop.rows.items c.push.new.self.items c.loop.invariant.keep (c.in_ok-push.ensures.items ∙ ap (λ (row : List Link). c.loop.rows.items ++ row ∷ []) c.empty.ensures.empty);
  count = omega (arith, c.loop.invariant.count, c.in_ok-push.ensures.len);
  room = omega (arith, c.loop.invariant.room, c.in_ok-push.ensures.capacity);
}
