use Rattle.std.proofs.Common.{◌∙◌, Vec, vec_len, vec_capacity, sym, ap, arith}
use Rattle.std.specs.Global.{Global}
use Rattle.bt_air.specs.declared.sent.Aired.{Aired}
use Rattle.bt_site.specs.Plans.{is_answered}
use Rattle.bt_machines.specs.Plans.{plan_of}
use Rattle.bt_site.proofs.Sending.{sends-one, sends-none}
use Rattle.bt_site.proofs.says.send_asking.Goals as goal
use Rattle.bt_site.proofs.says.send_asking.Goals.{then-is_answered, else-is_answered}

pub loop-number-preserved : goal.loop-number-preserved
loop-number-preserved c =
    let before = c.loop-number.invariant in
    elim c.if-is_answered.branch [
      | then-is_answered w ↦
          let len = ap (λ (v : Vec Aired Global). vec_len v) w.sent-is in
          let cap = ap (λ (v : Vec Aired Global). vec_capacity v) w.sent-is in
          record {
            said = sends-one (is_answered (plan_of c.args.plans.now.all c.args.edition) c.args.centre.now) c.args.load c.args.edition c.loop-number.number _ _ _ (sym c.is_answered.ensures ∙ w.if-is_answered.true) before.said (ap (λ (v : Vec Aired Global). v.items) w.sent-is ∙ w.post.ensures.items);
            room = omega (arith, len, cap, w.post.ensures.len, w.post.ensures.capacity, before.room, c.loop-number-test.true, c.terminal_count-number-end.ensures.count);
          }
      | else-is_answered w ↦
          let len = ap (λ (v : Vec Aired Global). vec_len v) w.sent-is in
          let cap = ap (λ (v : Vec Aired Global). vec_capacity v) w.sent-is in
          record {
            said = ap (λ (v : Vec Aired Global). v.items) w.sent-is ∙ sends-none (is_answered (plan_of c.args.plans.now.all c.args.edition) c.args.centre.now) c.args.load c.args.edition c.loop-number.number _ _ (sym c.is_answered.ensures ∙ w.if-is_answered.false) before.said;
            room = omega (arith, len, cap, before.room);
          }
    ]
