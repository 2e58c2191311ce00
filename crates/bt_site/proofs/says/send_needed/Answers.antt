use Rattle.std.proofs.Common.{◌∙◌, Vec, vec_len, vec_capacity, sym, ap, arith}
use Rattle.std.specs.Global.{Global}
use Rattle.bt_air.specs.declared.sent.Aired.{Aired}
use Rattle.bt_machines.specs.Plans.{has_burst, plan_of}
use Rattle.bt_site.proofs.Sending.{sends-one, sends-none}
use Rattle.bt_site.proofs.says.send_needed.Goals as goal
use Rattle.bt_site.proofs.says.send_needed.Goals.{then-has_burst, else-has_burst}

pub loop-number-preserved : goal.loop-number-preserved
loop-number-preserved c =
    let before = c.loop-number.invariant in
    elim c.if-has_burst.branch [
      | then-has_burst w ↦
          let len = ap (λ (v : Vec Aired Global). vec_len v) w.sent-is in
          let cap = ap (λ (v : Vec Aired Global). vec_capacity v) w.sent-is in
          record {
            said = sends-one (has_burst (plan_of c.args.plans.now.all c.args.edition)) c.args.load c.args.edition c.loop-number.number _ _ _ (sym c.has_burst.ensures.has ∙ w.if-has_burst.true) before.said (ap (λ (v : Vec Aired Global). v.items) w.sent-is ∙ w.post.ensures.items);
            room = omega (arith, len, cap, w.post.ensures.len, w.post.ensures.capacity, before.room, c.loop-number-test.true, c.terminal_count-number-end.ensures.count);
          }
      | else-has_burst w ↦
          let len = ap (λ (v : Vec Aired Global). vec_len v) w.sent-is in
          let cap = ap (λ (v : Vec Aired Global). vec_capacity v) w.sent-is in
          record {
            said = ap (λ (v : Vec Aired Global). v.items) w.sent-is ∙ sends-none (has_burst (plan_of c.args.plans.now.all c.args.edition)) c.args.load c.args.edition c.loop-number.number _ _ (sym c.has_burst.ensures.has ∙ w.if-has_burst.false) before.said;
            room = omega (arith, len, cap, before.room);
          }
    ]
