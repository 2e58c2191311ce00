use Rattle.std.proofs.Common.{sym, subst, ◌∙◌}
use Rattle.bt_net.specs.Network.{Net}
use Rattle.bt_journal.specs.declared.call.Call.TheVariants as call
use Rattle.bt_history.specs.Machine.{Step}
use Rattle.bt_round.proofs.OnOk.{on_ok}
use Rattle.bt_round.proofs.Trying.{edit_tried, now_follows}
use Rattle.bt_round.proofs.trial.try_line.Goals as goal

-- the edit was tried
pub returns-clause-tried : goal.returns-clause-tried
returns-clause-tried c =
    let net = c.args.net.now in
    let old = c.args.trial.now in
    let entry = c.in_ok-entry.entry in
    let step = subst (λ (n : Net). Step n old.state (call.Edit c.in-Some.edit) entry.reply c.ask.new.trial.state) c.requires.network c.in_ok-entry.ensures.step in
    on_ok c.entry_text.result c.entry_text.ensures.added (λ added.
    edit_tried net old.state c.args.line.now c.in-Some.desk c.in-Some.edit entry c.ask.new.trial.state c.args.text.now.items c.entry_text.new.out.items
    (sym c.edit_asked.ensures.asked ∙ c.in-Some.is) step c.in_ok-entry.ensures.sure added)

pub returns-clause-follows : goal.returns-clause-follows
returns-clause-follows c =
    now_follows c.args.net.now c.args.trial.now.net c.args.trial.now.state (call.Edit c.in-Some.edit) c.in_ok-entry.entry.reply c.ask.new.trial.state c.requires.network c.requires.follows c.in_ok-entry.ensures.step
