use Rattle.std.proofs.Common.{◌≡◌, ap, ◌∙◌}
use Rattle.bt_demand.specs.Apart.{bursts_from}
use Rattle.bt_shared.proofs.Sent.{sent_again}
use Rattle.bt_round.proofs.desk.show_plan.Goals as goal

-- of what a terminal sends it sends all
pub returns-clause-added : goal.returns-clause-added
returns-clause-added c =
    let own : bursts_from c.args.terminal c.args.sent.now ≡ bursts_from c.args.terminal c.args.plan.now.bursts =
    ap (bursts_from c.args.terminal) c.requires.sent ∙ sent_again c.args.terminal c.args.plan.now.bursts in
    rw (← own, ← c.as_slice.ensures.same) c.show_text.ensures.added
