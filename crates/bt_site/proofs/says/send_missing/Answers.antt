use Rattle.std.proofs.Common.{◌∙◌, Vec, vec_len, vec_capacity, sym, ap, arith}
use Rattle.std.specs.Global.{Global}
use Rattle.bt_air.specs.declared.sent.Aired.{Aired}
use Rattle.bt_machines.specs.Centre.{is_missing}
use Rattle.bt_site.proofs.Sending.{sends-one, sends-none}
use Rattle.bt_site.proofs.says.send_missing.Goals as goal
use Rattle.bt_site.proofs.says.send_missing.Goals.{then-missing, else-missing}

pub loop-number-preserved : goal.loop-number-preserved
loop-number-preserved c =
    let before = c.loop-number.invariant in
    elim c.if-missing.branch [
      | then-missing w ↦
          let len = ap (λ (v : Vec Aired Global). vec_len v) w.sent-is in
          let cap = ap (λ (v : Vec Aired Global). vec_capacity v) w.sent-is in
          record {
            said = sends-one (is_missing c.args.centre.now) c.args.load c.args.edition c.loop-number.number _ _ _ (sym c.missing.ensures.missing ∙ w.if-missing.true) before.said (ap (λ (v : Vec Aired Global). v.items) w.sent-is ∙ w.post.ensures.items);
            room = omega (arith, len, cap, w.post.ensures.len, w.post.ensures.capacity, before.room, c.loop-number-test.true, c.terminal_count-number-end.ensures.count);
            capacity = cap ∙ w.post.ensures.capacity ∙ before.capacity;
            count = omega (arith, len, w.post.ensures.len, before.count);
          }
      | else-missing w ↦
          let len = ap (λ (v : Vec Aired Global). vec_len v) w.sent-is in
          let cap = ap (λ (v : Vec Aired Global). vec_capacity v) w.sent-is in
          record {
            said = ap (λ (v : Vec Aired Global). v.items) w.sent-is ∙ sends-none (is_missing c.args.centre.now) c.args.load c.args.edition c.loop-number.number _ _ (sym c.missing.ensures.missing ∙ w.if-missing.false) before.said;
            room = omega (arith, len, cap, before.room);
            capacity = cap ∙ before.capacity;
            count = omega (arith, len, before.count);
          }
    ]
