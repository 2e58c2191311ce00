-- What is printed of the desks of a round is printed lines.
use Rattle.std.proofs.Common.{◌≡◌, ℕ, ◌+◌, ◌<◌, ◌==◌, if◌then◌else◌, Bool, true, false, List, [], ◌∷◌, length, map, All, Some, refl, sym, subst, arith}
use Rattle.std.specs.Prelude.{flat_map}
use Rattle.std.proofs.lemmas.List.Elements.{All-nil, All-cons, All-head, All-tail, All-append, All-filter, All-weaker}
use Rattle.bt_frame.specs.declared.limits.TheConstants.{MOST_DESKS}
use Rattle.bt_frame.specs.declared.numbers.TermNo.{TermNo}
use Rattle.bt_frame.specs.Range.{IsWithin}
use Rattle.bt_net.specs.Network.{Net, IsSound}
use Rattle.bt_demand.specs.Apart.{bursts_from}
use Rattle.bt_demand.specs.declared.burst.Burst.{Burst}
use Rattle.bt_demand.specs.declared.plan.Plan.{Plan}
use Rattle.bt_journal.specs.declared.call.Call.TheVariants as call
use Rattle.bt_journal.specs.declared.entry.Entry.{Entry}
use Rattle.bt_journal.specs.declared.reply.Reply.{Reply}
use Rattle.bt_journal.specs.declared.reply.Reply.TheVariants.{Done, SameTerminal, NotThere, RowFull, ColumnFull, BookFull, StoreFault, Stopped}
use Rattle.bt_journal.specs.Journal.{calls_of}
use Rattle.bt_history.specs.Machine.{NamesBeams}
use Rattle.bt_history.proofs.Histories.{beams_named}
use Rattle.bt_script.specs.declared.script.DeskLine.{DeskLine}
use Rattle.bt_script.specs.declared.script.DeskLine.TheVariants as desk_line
use Rattle.bt_script.specs.declared.script.Round.{Round}
use Rattle.bt_timeline.specs.Timeline.{burst_line, burst_lines, desk_reply_line, entry_line}
use Rattle.bt_words.specs.declared.form.Form.TheVariants as form
use Rattle.bt_run_lines.specs.declared.printed.Value.TheVariants as value
use Rattle.bt_run_lines.specs.Printers.{line, numbers, printed_line}
use Rattle.bt_round.specs.Desks.{Sight, asked_by, asked_by_line, desk_text, desks_text, plan_shown, shown_to}
use Rattle.bt_run_laws.specs.Readable.{AreLines}
use Rattle.bt_run_laws.specs.Small.{IsAnswered, IsSmallBurst, IsSmallCall, IsSmallDeskLine, IsSmallPlan, IsSmallReply, IsSmallRound}
use Rattle.bt_run_laws.proofs.Asking.{of_calls}
use Rattle.bt_run_laws.proofs.Read.{each_lines, line_printed, more_lines, no_lines}
use Rattle.bt_run_laws.proofs.Replies.{reply_small}

-- what holds of all that each part gives
each_part : {A B : Type 0} (P : B → Type 0) (f : A → List B) (parts : List A) → All (λ (part : A). All P (f part)) parts → All P (flat_map f parts)
each_part P f [] each = All-nil P
each_part {A} P f (part ∷ rest) each =
    let Holds = λ (part : A). All P (f part) in
    All-append P (f part) (flat_map f rest) (All-head Holds part rest each) (each_part P f rest (All-tail Holds part rest each))

-- what holds of all elements holds of them where a test passes, and of none where it does not
where_so : {A : Type 0} (P : A → Type 0) (test : Bool) (all : List A) → All P all → All P (if test then all else [])
where_so P true all each = each
where_so P false all each = All-nil P

-- the line of a burst of a plan
burst_printed : (net : Net) (burst : Burst) → IsSmallBurst net burst → AreLines net (burst_line net form.Burst burst)
burst_printed net burst is =
    line_printed net form.Burst (value.Number burst.start ∷ value.Number burst.length ∷ value.Terminal burst.from ∷ value.Terminal burst.to ∷ []) refl refl (is.start, (is.slots, (is.from, (is.to, tt))))

-- the entry is answered, and its call is small
abbrev IsOwn : Net → Entry → Type 0
IsOwn net entry = IsAnswered net entry × IsSmallCall entry.call

module _ (net : Net) (sound : IsSound net) (desk : ℕ) (numbered : IsWithin 1 MOST_DESKS desk) where
  -- the line of a reply; one that no edit has prints nothing
  reply_lines : (reply : Reply) → NamesBeams net reply → IsSmallReply reply → AreLines net (desk_reply_line net desk reply)
  reply_lines (Done edition most) names small = line_printed net form.DeskDone (numbers (desk ∷ edition.0 ∷ most ∷ [])) refl refl (numbered, (small.0, (small.1, tt)))
  reply_lines SameTerminal names small = line_printed net form.DeskSameTerminal (numbers (desk ∷ [])) refl refl (numbered, tt)
  reply_lines (NotThere held) names small = line_printed net form.DeskNotThere (numbers (desk ∷ held ∷ [])) refl refl (numbered, (small, tt))
  reply_lines (RowFull beam sum) names small = line_printed net form.DeskRowFull (value.Number desk ∷ value.Beam beam ∷ value.Number sum ∷ []) refl refl (numbered, (names, (small, tt)))
  reply_lines (ColumnFull beam sum) names small = line_printed net form.DeskColumnFull (value.Number desk ∷ value.Beam beam ∷ value.Number sum ∷ []) refl refl (numbered, (names, (small, tt)))
  reply_lines (BookFull bytes) names small = line_printed net form.DeskBookFull (numbers (desk ∷ bytes ∷ [])) refl refl (numbered, (small, tt))
  reply_lines StoreFault names small = line_printed net form.DeskStoreFault (numbers (desk ∷ [])) refl refl (numbered, tt)
  reply_lines Stopped names small = line_printed net form.DeskStopped (numbers (desk ∷ [])) refl refl (numbered, tt)
  reply_lines _ names small = no_lines net

  -- the line of an entry, by its step of the machine
  entry_lines : (entry : Entry) → IsOwn net entry → AreLines net (entry_line net (Some desk) entry)
  entry_lines entry (is, small) =
      reply_lines entry.reply (beams_named net is.old entry.call entry.reply is.new sound is.step)
      (reply_small net sound is.old entry.call entry.reply is.new is.step is.follow is.few small)

  -- a show: what the plan is, and the bursts of it that the terminal sends
  show_printed : (plan : Plan) (terminal : TermNo) → IsSmallPlan net plan → AreLines net (plan_shown net desk plan terminal)
  show_printed plan terminal small =
      let head = numbers (desk ∷ plan.edition.0 ∷ plan.schedule.length ∷ length plan.schedule.modes ∷ []) in
      let sent = bursts_from terminal plan.bursts in
      let each = All-filter (λ (burst : Burst). burst.from.0 == terminal.0) (IsSmallBurst net) plan.bursts small.each in
      more_lines net (printed_line net (line form.Shows head)) (burst_lines net form.Burst sent)
      (line_printed net form.Shows head refl refl (numbered, (small.edition, (small.slots, (small.modes, tt)))))
      (each_lines net (burst_line net form.Burst) sent (All-weaker (IsSmallBurst net) (λ (burst : Burst). AreLines net (burst_line net form.Burst burst)) (burst_printed net) sent each))

  -- the lines of the desk, as far as there are entries and plans for them
  desk_lines : (lines : List DeskLine) (entries : List Entry) (shown : List Plan) → All (IsOwn net) entries → All (IsSmallPlan net) shown → AreLines net (desk_text net desk lines entries shown)
  desk_lines [] entries shown own small = no_lines net
  desk_lines (desk_line.Edit edit ∷ lines) [] shown own small = no_lines net
  desk_lines (desk_line.Edit edit ∷ lines) (entry ∷ entries) shown own small =
      more_lines net (entry_line net (Some desk) entry) (desk_text net desk lines entries shown) (entry_lines entry (All-head (IsOwn net) entry entries own))
      (desk_lines lines entries shown (All-tail (IsOwn net) entry entries own) small)
  desk_lines (desk_line.Show terminal ∷ lines) entries [] own small = no_lines net
  desk_lines (desk_line.Show terminal ∷ lines) entries (plan ∷ shown) own small =
      more_lines net (plan_shown net desk plan terminal) (desk_text net desk lines entries shown) (show_printed plan terminal (All-head (IsSmallPlan net) plan shown small))
      (desk_lines lines entries shown own (All-tail (IsSmallPlan net) plan shown small))

-- what a line of a desk asks is small, where its numbers are
line_asks : (one : DeskLine) → IsSmallDeskLine one → All IsSmallCall (asked_by_line one)
line_asks (desk_line.Edit edit) small = All-cons IsSmallCall (call.Edit edit) [] small (All-nil IsSmallCall)
line_asks (desk_line.Show terminal) small = All-nil IsSmallCall

-- and so is what a caller asks
asked_small : (caller : ℕ) (round : Round) → IsSmallRound round → All IsSmallCall (asked_by caller round.desks)
asked_small caller round small =
    each_part IsSmallCall (λ (desk : ℕ × List DeskLine). if desk.0 + 1 == caller then flat_map asked_by_line desk.1 else []) round.desks
    (All-weaker (λ (desk : ℕ × List DeskLine). All IsSmallDeskLine desk.1) (λ (desk : ℕ × List DeskLine). All IsSmallCall (if desk.0 + 1 == caller then flat_map asked_by_line desk.1 else []))
    (λ desk each. where_so IsSmallCall (desk.0 + 1 == caller) (flat_map asked_by_line desk.1)
    (each_part IsSmallCall asked_by_line desk.1 (All-weaker IsSmallDeskLine (λ (one : DeskLine). All IsSmallCall (asked_by_line one)) line_asks desk.1 each))) round.desks small.desks)

-- the plans that a desk was shown are small, where all are
shown_small : (net : Net) (desk : ℕ) (sights : List Sight) → All (λ (sight : Sight). IsSmallPlan net sight.plan) sights → All (IsSmallPlan net) (shown_to desk sights)
shown_small net desk sights small =
    each_part (IsSmallPlan net) (λ (sight : Sight). if sight.desk == desk then sight.plan ∷ [] else []) sights
    (All-weaker (λ (sight : Sight). IsSmallPlan net sight.plan) (λ (sight : Sight). All (IsSmallPlan net) (if sight.desk == desk then sight.plan ∷ [] else []))
    (λ sight is. where_so (IsSmallPlan net) (sight.desk == desk) (sight.plan ∷ []) (All-cons (IsSmallPlan net) sight.plan [] is (All-nil (IsSmallPlan net)))) sights small)

-- what is printed of the desks of a round is printed lines
pub desks_lines : (net : Net) → IsSound net → (round : Round) → IsSmallRound round → (entries : List Entry) → All (IsAnswered net) entries
    → (sights : List Sight) → All (λ (sight : Sight). IsSmallPlan net sight.plan) sights
    → ((caller : ℕ) → 1 < caller → map (λ (entry : Entry). entry.call) (calls_of entries caller) ≡ asked_by caller round.desks)
    → AreLines net (desks_text net round.desks entries sights)
desks_lines net sound round small entries answered sights seen asked =
    each_lines net printed round.desks
    (All-weaker (λ (desk : ℕ × List DeskLine). IsWithin 1 MOST_DESKS desk.0) (λ (desk : ℕ × List DeskLine). AreLines net (printed desk))
    (λ desk numbered. desk_lines net sound desk.0 numbered desk.1 (calls_of entries (desk.0 + 1)) (shown_to desk.0 sights)
    (own (desk.0 + 1) (omega (arith, numbered.0))) (shown_small net desk.0 sights seen)) round.desks small.numbered)
  where
    printed : ℕ × List DeskLine → List ℕ
    printed desk = desk_text net desk.0 desk.1 (calls_of entries (desk.0 + 1)) (shown_to desk.0 sights)

    own : (caller : ℕ) → 1 < caller → All (IsOwn net) (calls_of entries caller)
    own caller above k d within = (
      All-filter (λ (entry : Entry). entry.caller == caller) (IsAnswered net) entries answered k d within,
      of_calls IsSmallCall (calls_of entries caller) (subst (All IsSmallCall) (sym (asked caller above)) (asked_small caller round small)) k d within,
    )
