use Rattle.std.proofs.Common.{rules, sym, subst, ◌∙◌}
use Rattle.bt_net.specs.Network.{Net}
use Rattle.bt_journal.specs.declared.call.Call.TheVariants as call
use Rattle.bt_history.specs.Machine.{Step}
use Rattle.bt_round.proofs.Trying.{edit_has_line, edit_refused, now_follows}
use Rattle.bt_round.proofs.trial.refusal_at.Goals as goal

-- the edit is not done, and its answer can be printed
pub entry_text-requires : goal.entry_text-requires
entry_text-requires c =
    let net = c.args.net.now in
    let old = c.args.trial.now in
    let entry = c.in_ok-entry.entry in
    let new = c.ask.new.trial.state in
    let step = subst (λ (n : Net). Step n old.state (call.Edit c.in-Some.edit) entry.reply new) c.requires.network c.in_ok-entry.ensures.step in
    let names = c.replies_name_beams_of_the_network.ensures.beams net old.state (call.Edit c.in-Some.edit) entry.reply new c.beam_count-beams.ensures.sound step in
    record { printed = edit_has_line net old.state new c.in-Some.desk c.in-Some.edit entry c.in_ok-entry.ensures.call step names }

pub returns-clause-refused : goal.returns-clause-refused
returns-clause-refused c =
    let old = c.args.trial.now in
    let entry = c.in_ok-entry.entry in
    let step = subst (λ (n : Net). Step n old.state (call.Edit c.in-Some.edit) entry.reply c.ask.new.trial.state) c.requires.network c.in_ok-entry.ensures.step in
    edit_refused c.args.net.now old.state c.args.place c.args.line.now c.in-Some.desk c.in-Some.edit entry c.ask.new.trial.state c.print.new.out.items c.entry_text.new.out.items
    (sym c.edit_asked.ensures.asked ∙ c.in-Some.is) step c.in_ok-entry.ensures.sure (sym c.is_made.ensures.made ∙ c.if-is_made.false) (search rules) c.in_ok-entry_text.ensures.added

pub returns-clause-done : goal.returns-clause-done
returns-clause-done c = λ none. absurd cc

-- the changes follow in any case
pub returns-then-is_made-clause-follows : goal.returns-then-is_made-clause-follows
returns-then-is_made-clause-follows c =
    now_follows c.args.net.now c.args.trial.now.net c.args.trial.now.state (call.Edit c.in-Some.edit) c.in_ok-entry.entry.reply c.ask.new.trial.state c.requires.network c.requires.follows c.in_ok-entry.ensures.step
