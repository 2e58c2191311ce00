use Rattle.std.proofs.Common.{◌≡◌, true, false, sym, ◌∙◌}
use Rattle.bt_trans.proofs.LeastLengths.{one_least}
use Rattle.bt_trans.proofs.least.least_unless_reached.Goals as goal
use Rattle.bt_trans.proofs.least.least_unless_reached.Goals.{else-schedule-least-via-then-schedule-least+else-is_reached, else-schedule-least-via-else-schedule-least}

-- another length, or a bound that does not reach it
pub returns-else-schedule-least : goal.returns-else-schedule-least
returns-else-schedule-least c =
    let schedule = c.args.schedule.now in
    let least = c.least_length-least.ensures.least in (
      (λ is. elim c.else-schedule-least.branch [
        | else-schedule-least-via-then-schedule-least+else-is_reached w ↦
            let yes : w.is_reached.result ≡ true = w.is_reached.ensures.1 is.reached in
            let both : true ≡ false = sym yes ∙ w.if-is_reached.false in
            cc
        | else-schedule-least-via-else-schedule-least w ↦
            w.if-schedule-least.false (one_least c.args.matrix.now c.args.k schedule.length c.least_length-least.result.0 schedule.bound c.least_length-least.result.1 is least)
      ]),
      (c.least_length-least.result.1, least),
    )
