-- What a step of the machine leaves, and how large the numbers of its reply are.
use Rattle.std.proofs.Common.{◌≡◌, ℕ, ◌+◌, ◌*◌, ◌<◌, ◌≤◌, ◌^◌, List, [], ◌∷◌, ◌++◌, length, All, sym, ap, ◌∙◌, subst, arith, inl, inr}
use Rattle.std.proofs.lemmas.List.{append-nil}
use Rattle.std.proofs.lemmas.List.Elements.{All-cons, All-nil}
use Rattle.std.proofs.Math.Nat.{mul-le-mul}
use Rattle.bt_frame.specs.declared.numbers.Command.{Command}
use Rattle.bt_frame.specs.declared.numbers.EditionNo.{EditionNo}
use Rattle.bt_net.specs.Network.{Net, IsSound}
use Rattle.bt_demand.specs.declared.plan.Plan.{Plan}
use Rattle.bt_air.specs.declared.order.Order.{Order}
use Rattle.bt_journal.specs.declared.call.Call.{Call}
use Rattle.bt_journal.specs.declared.call.Call.TheVariants as call
use Rattle.bt_journal.specs.declared.call.Change.{Change}
use Rattle.bt_journal.specs.declared.call.Change.TheVariants as change
use Rattle.bt_journal.specs.declared.call.Edit.{Edit}
use Rattle.bt_journal.specs.declared.call.Edit.TheVariants.{Add, Drop, Move}
use Rattle.bt_journal.specs.declared.entry.Entry.{Entry}
use Rattle.bt_journal.specs.declared.reply.Reply.{Reply}
use Rattle.bt_journal.specs.declared.reply.Reply.TheVariants.{ColumnFull, Done, Installed, NoSuchEdition, NotGood, NotInstalled, NotNewer, NotThere, OutOfTurn, Placed, RowFull, SameTerminal}
use Rattle.bt_journal.specs.Journal.{changes_of}
use Rattle.bt_journal.specs.JournalLines.{units_in}
use Rattle.bt_history.specs.Causes.{Follows, IsCause, IsGood}
use Rattle.bt_history.specs.Machine.{AreSteps, CallStep, ChangeStep, NamesBeams, State, Step, Tells, bytes_with}
use Rattle.bt_history.proofs.Histories.{Step-adds, beams_named, first_made, steps_follow}
use Rattle.bt_history.proofs.OneMore.{bytes_of-push}
use Rattle.bt_centre.specs.Run.{AreFew}
use Rattle.bt_run_laws.specs.Small.{IsAnswered, IsSmallCall, IsSmallReply}
use Rattle.bt_run_laws.proofs.Bounds.{are_bounded, changes-le-bytes, column_with_edit, edition-le-changes, lines_fit, row_with_edit}

-- what the step of one entry leaves, as the changes of a history
made_by : (net : Net) (old : State) (entry : Entry) (new : State) → Step net old entry.call entry.reply new → old.changes ++ changes_of (entry ∷ []) ≡ new.changes
made_by net old entry new step =
    first_made old.changes entry [] ∙ append-nil _ ∙ sym (ap (λ (s : State). s.changes) (Step-adds net old entry.call entry.reply new step))

-- a step leaves changes that follow
pub follow_stays : (net : Net) (old : State) (asked : Call) (reply : Reply) (new : State) → Step net old asked reply new → Follows net old.changes → Follows net new.changes
follow_stays net old asked reply new step follow =
    let entry : Entry = record { caller = 0; call = asked; reply = reply } in
    subst (Follows net) (made_by net old entry new step) (steps_follow net old (entry ∷ []) follow (new, step, tt))

-- the lines of a change that was made had room, and so the changes are few
few_made : (net : Net) (changes : List Change) (one : Change) → IsSound net → bytes_with net changes one ≤ net.journal → AreFew net (changes ++ one ∷ [])
few_made net changes one sound room =
    let after = changes ++ one ∷ [] in
    let bytes = bytes_of-push net changes one in record {
      edition = omega (arith, bytes, room, sound.journal.1, changes-le-bytes net after, edition-le-changes after);
      bytes = omega (arith, bytes, room, sound.journal.1);
    }

few_change : (net : Net) (old : State) (one : Change) (reply : Reply) (new : State) → IsSound net → ChangeStep net old one reply new → AreFew net old.changes → AreFew net new.changes
few_change net old one reply new sound (inl halts) few = subst (λ (s : State). AreFew net s.changes) (sym halts.same) few
few_change net old one reply new sound (inr (inl refused)) few = subst (λ (s : State). AreFew net s.changes) (sym refused.same) few
few_change net old one reply new sound (inr (inr (inl full))) few = subst (λ (s : State). AreFew net s.changes) (sym full.same) few
few_change net old one reply new sound (inr (inr (inr (inl done)))) few =
    subst (λ (s : State). AreFew net s.changes) (sym done.makes.after) (few_made net old.changes one sound done.makes.can.room)
few_change net old one reply new sound (inr (inr (inr (inr lost)))) few = subst (λ (s : State). AreFew net s.changes) (sym lost.stops) few

few_call : (net : Net) (old : State) (asked : Call) (reply : Reply) (new : State) → IsSound net → CallStep net old asked reply new → AreFew net old.changes → AreFew net new.changes
few_call net old (call.Edit edit) reply new sound step few = few_change net old (change.Edit edit) reply new sound step few
few_call net old (call.Install plan) reply new sound step few = few_change net old (change.Install plan) reply new sound step few
few_call net old (call.Place order) reply new sound step few = few_change net old (change.Order order) reply new sound step few
few_call net old call.Snapshot reply new sound step few = subst (λ (s : State). AreFew net s.changes) (sym step.1) few
few_call net old (call.Newest after) reply new sound step few = subst (λ (s : State). AreFew net s.changes) (sym step.1) few

-- a step leaves few changes
pub few_stays : (net : Net) → IsSound net → (old : State) (asked : Call) (reply : Reply) (new : State) → Step net old asked reply new → AreFew net old.changes → AreFew net new.changes
few_stays net sound old asked reply new step few = few_call net old asked reply new sound step.answered few

-- the units of an edit, if the change is one, are those of a line of a script at most
abbrev HasFewUnits : Change → Type 0
HasFewUnits (change.Edit edit) = units_in edit ≤ 4096
HasFewUnits _ = Unit {0}

-- a line of the frame's slots with some more in each entry
over_small : (net : Net) (sum old units : ℕ) → IsSound net → old ≤ net.slots → units ≤ 4096 → sum ≤ old + length net.beams * units → sum < 2 ^ 32
over_small net sum old units sound fits few le =
    let most : length net.beams * units ≤ 32 * 4096 = mul-le-mul sound.beams.count.1 few in
    omega (arith, most, sound.slots.1, fits, le)

edit_refused : (net : Net) (changes : List Change) (edit : Edit) (reply : Reply) → IsSound net → Follows net changes → units_in edit ≤ 4096 → NamesBeams net reply
    → IsCause net changes (change.Edit edit) reply → IsSmallReply reply
edit_refused net changes edit SameTerminal sound follow few names cause = tt
edit_refused net changes (Add from to units) (NotThere held) sound follow few names cause = absurd cause.1
edit_refused net changes (Drop from to units) (NotThere held) sound follow few names cause = omega (arith, cause.1.1, few)
edit_refused net changes (Move from to new_from new_to units) (NotThere held) sound follow few names cause = omega (arith, cause.1.1, few)
edit_refused net changes edit (RowFull beam sum) sound follow few names cause =
    over_small net sum _ (units_in edit) sound ((are_bounded net changes follow).rows beam names) few
    (omega (arith, cause.2.number, row_with_edit net changes edit beam.0 names))
edit_refused net changes edit (ColumnFull beam sum) sound follow few names cause =
    over_small net sum _ (units_in edit) sound ((are_bounded net changes follow).columns beam names) few
    (omega (arith, cause.3.number, column_with_edit net changes edit beam.0 names))
edit_refused net changes edit _ sound follow few names cause = absurd cause

install_refused : (net : Net) (changes : List Change) (plan : Plan) (reply : Reply) → Follows net changes → AreFew net changes → IsCause net changes (change.Install plan) reply → IsSmallReply reply
install_refused net changes plan (NotNewer number) follow few cause =
    omega (arith, ap (λ (e : EditionNo). e.0) cause.0, (are_bounded net changes follow).newest, few.edition)
install_refused net changes plan (NoSuchEdition last) follow few cause = omega (arith, cause.1, few.edition)
install_refused net changes plan (NotGood verdict) follow few cause = tt
install_refused net changes plan _ follow few cause = absurd cause

order_refused : (net : Net) (changes : List Change) (order : Order) (reply : Reply) → Follows net changes → AreFew net changes → IsCause net changes (change.Order order) reply → IsSmallReply reply
order_refused net changes order (OutOfTurn last) follow few cause =
    omega (arith, ap (λ (c : Command). c.0) cause.0, (are_bounded net changes follow).command, changes-le-bytes net changes, few.bytes)
order_refused net changes order (NotInstalled number) follow few cause =
    omega (arith, ap (λ (e : EditionNo). e.0) cause.2, (are_bounded net changes follow).newest, few.edition)
order_refused net changes order _ follow few cause = absurd cause

-- the numbers of a refusal are small
refused_small : (net : Net) (changes : List Change) (one : Change) (reply : Reply) → IsSound net → Follows net changes → AreFew net changes → HasFewUnits one → NamesBeams net reply
    → IsCause net changes one reply → IsSmallReply reply
refused_small net changes (change.Edit edit) reply sound follow few units names cause = edit_refused net changes edit reply sound follow units names cause
refused_small net changes (change.Install plan) reply sound follow few units names cause = install_refused net changes plan reply follow few cause
refused_small net changes (change.Order order) reply sound follow few units names cause = order_refused net changes order reply follow few cause

-- and so are those of the answer to a change that was made
told_small : (net : Net) (old new : List Change) (one : Change) (reply : Reply) → IsSound net → Follows net new → AreFew net old → AreFew net new → IsGood net old one → Tells net new one reply
    → IsSmallReply reply
told_small net old new (change.Edit edit) (Done number most) sound follow few more good (number_is, (line, heaviest)) =
    (omega (arith, number_is, more.edition), omega (arith, heaviest.reached, lines_fit net new follow line heaviest.on_matrix, sound.slots.1))
told_small net old new (change.Install plan) (Installed number) sound follow few more good told =
    omega (arith, ap (λ (e : EditionNo). e.0) told, good.1, few.edition)
told_small net old new (change.Order order) Placed sound follow few more good told = tt
told_small net old new one _ sound follow few more good told = absurd told

change_small : (net : Net) (old : State) (one : Change) (reply : Reply) (new : State) → IsSound net → Follows net old.changes → Follows net new.changes → AreFew net old.changes → AreFew net new.changes
    → HasFewUnits one → NamesBeams net reply → ChangeStep net old one reply new → IsSmallReply reply
change_small net old one reply new sound follow after few more units names (inl halts) = subst IsSmallReply (sym halts.told) tt
change_small net old one reply new sound follow after few more units names (inr (inl refused)) = refused_small net old.changes one reply sound follow few units names refused.cause
change_small net old one reply new sound follow after few more units names (inr (inr (inl full))) = subst IsSmallReply (sym full.told) few.bytes
change_small net old one reply new sound follow after few more units names (inr (inr (inr (inl done)))) =
    told_small net old.changes new.changes one reply sound after few more done.makes.can.good done.told
change_small net old one reply new sound follow after few more units names (inr (inr (inr (inr lost)))) = subst IsSmallReply (sym lost.told) tt

call_small : (net : Net) (old : State) (asked : Call) (reply : Reply) (new : State) → IsSound net → Follows net old.changes → Follows net new.changes → AreFew net old.changes → AreFew net new.changes
    → IsSmallCall asked → NamesBeams net reply → CallStep net old asked reply new → IsSmallReply reply
call_small net old (call.Edit edit) reply new sound follow after few more small names step = change_small net old (change.Edit edit) reply new sound follow after few more small names step
call_small net old (call.Install plan) reply new sound follow after few more small names step = change_small net old (change.Install plan) reply new sound follow after few more tt names step
call_small net old (call.Place order) reply new sound follow after few more small names step = change_small net old (change.Order order) reply new sound follow after few more tt names step
call_small net old call.Snapshot reply new sound follow after few more small names step = subst IsSmallReply (sym step.0.told) tt
call_small net old (call.Newest after_edition) reply new sound follow after few more small names step = subst IsSmallReply (sym step.0) tt

-- the numbers of a reply are small
pub reply_small : (net : Net) → IsSound net → (old : State) (asked : Call) (reply : Reply) (new : State) → Step net old asked reply new → Follows net old.changes → AreFew net old.changes
    → IsSmallCall asked → IsSmallReply reply
reply_small net sound old asked reply new step follow few small =
    call_small net old asked reply new sound follow (follow_stays net old asked reply new step follow) few (few_stays net sound old asked reply new step few) small
    (beams_named net old asked reply new sound step) step.answered

-- each entry of steps is one of a machine whose changes follow and are few
pub all_answered : (net : Net) → IsSound net → (old : State) (entries : List Entry) → AreSteps net old entries → Follows net old.changes → AreFew net old.changes → All (IsAnswered net) entries
all_answered net sound old [] steps follow few = All-nil (IsAnswered net)
all_answered net sound old (first ∷ rest) (new, step, more) follow few =
    All-cons (IsAnswered net) first rest (record { old = old; new = new; follow = follow; few = few; step = step })
    (all_answered net sound new rest more (follow_stays net old first.call first.reply new step follow) (few_stays net sound old first.call first.reply new step few))

-- and the changes behind them are few (`steps_follow` of Histories says that they follow)
pub few_behind : (net : Net) → IsSound net → (old : State) (entries : List Entry) → AreSteps net old entries → AreFew net old.changes → AreFew net (old.changes ++ changes_of entries)
few_behind net sound old [] steps few = subst (AreFew net) (sym (append-nil old.changes)) few
few_behind net sound old (first ∷ rest) (new, step, more) few =
    let here = few_behind net sound new rest more (few_stays net sound old first.call first.reply new step few) in
    subst (AreFew net) (sym (first_made old.changes first rest ∙ ap (λ (c : List Change). c ++ changes_of rest) (sym (ap (λ (s : State). s.changes) (Step-adds net old first.call first.reply new step))))) here
