-- an edit is asked, or the plan shown
use Rattle.std.proofs.Common.{◌≡◌, [], ◌∷◌, ◌++◌, ◌∙◌, Some, OnOk, sym, subst}
use Rattle.bt_script.specs.declared.script.DeskLine.{DeskLine}
use Rattle.bt_timeline.specs.Timeline.{entry_line}
use Rattle.bt_round.specs.Callers.{own_of}
use Rattle.bt_round.specs.Done.{DeskDone}
use Rattle.bt_round.proofs.DeskLines.{desk_edited, desk_shown}
use Rattle.bt_round.proofs.OnOk.{on_ok}
use Rattle.bt_round.proofs.desk.run_line.Goals as goal

pub returns-in_ok-entry-in-Edit-clause-done : goal.returns-in_ok-entry-in-Edit-clause-done
returns-in_ok-entry-in-Edit-clause-done g c =
    let seen = c.args.reader.now.plans in
    subst (λ (line : DeskLine). OnOk c.entry_text.result (DeskDone c.args.net.now c.args.desk (line ∷ []) seen seen (own_of c.args.caller.now) (own_of c.ask.new.self) c.args.text.now.items c.entry_text.new.out.items))
    (sym c.in-Edit.is)
    (on_ok {P = c.entry_text.new.out.items ≡ c.args.text.now.items ++ entry_line c.args.net.now (Some c.args.desk) c.in_ok-entry-in-Edit.entry} c.entry_text.result c.entry_text.ensures.added (λ added.
    desk_edited c.args.net.now c.args.desk c.in-Edit.edit c.in_ok-entry-in-Edit.entry seen (own_of c.args.caller.now) (own_of c.ask.new.self) c.args.text.now.items c.entry_text.new.out.items (c.in_ok-entry-in-Edit.ensures.caller ∙ c.requires.number) c.in_ok-entry-in-Edit.ensures.call c.in_ok-entry-in-Edit.ensures.kept added))

pub returns-in_ok-look-in-Show-clause-done : goal.returns-in_ok-look-in-Show-clause-done
returns-in_ok-look-in-Show-clause-done g c =
    let seen = c.args.reader.now.plans in
    let over = c.look.new.self.plans in
    subst (λ (line : DeskLine). OnOk c.show_plan.result (DeskDone c.args.net.now c.args.desk (line ∷ []) seen over (own_of c.args.caller.now) (own_of c.args.caller.now) c.args.text.now.items c.show_plan.new.text.items))
    (sym c.in-Show.is)
    (on_ok c.show_plan.result c.show_plan.ensures.added (λ added.
    desk_shown c.args.net.now c.args.desk c.in-Show.terminal c.newest.result.now seen over (own_of c.args.caller.now) _ _
    (record { begins = c.look.ensures.begins; rises = c.look.ensures.rises }) c.newest.ensures.last added))

-- what the reader lends of the plan is of the plan that it lends
pub show_plan-requires : goal.show_plan-requires
show_plan-requires g c = record { sent = rw c.newest.ensures.last at c.sent_by-sent.ensures.sent }
