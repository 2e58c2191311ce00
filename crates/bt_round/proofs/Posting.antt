-- What the planner posts: a plan that it installed is newer than the last that was posted, and nobody else installs one.
use Rattle.std.proofs.Common.{◌≡◌, ◌≢◌, ℕ, ◌+◌, ◌≤◌, ◌==◌, if◌then◌else◌, Bool, true, false, List, [], ◌∷◌, ◌++◌, map, All, Option, Some, None, inl, inr, ⊎_elim, refl, sym, ap, ◌∙◌, subst, append_assoc, arith}
use Rattle.std.specs.List.{Contains, cons_option, flat_map}
use Rattle.std.proofs.lemmas.Bool.{cases_eq, eq-eqb, false≢true, ne_eqb}
use Rattle.std.proofs.lemmas.Grind.{flat_map-append}
use Rattle.std.proofs.lemmas.List.{append-nil, map-append}
use Rattle.std.proofs.lemmas.List.Elements.{All-cons, All-nil, Contains-append_cases, Contains-append_left, Contains-append_right}
use Rattle.bt_net.specs.Network.{Net}
use Rattle.bt_demand.specs.declared.plan.Plan.{Plan}
use Rattle.bt_air.specs.declared.order.Order.{Order}
use Rattle.bt_shared.specs.Plans.{next_edition, next_of}
use Rattle.bt_shared.proofs.Beginnings.{last_snoc}
use Rattle.bt_journal.specs.declared.call.Call.{Call}
use Rattle.bt_journal.specs.declared.call.Call.TheVariants as call
use Rattle.bt_journal.specs.declared.call.Change.{Change}
use Rattle.bt_journal.specs.declared.call.Change.TheVariants as change
use Rattle.bt_journal.specs.declared.entry.Entry.{Entry}
use Rattle.bt_journal.specs.declared.reply.Reply.{Reply}
use Rattle.bt_journal.specs.declared.reply.Reply.TheVariants.{Done, Installed, Placed}
use Rattle.bt_journal.specs.Journal.{calls_of, change_asked, change_made, changes_of, is_made, is_refusal}
use Rattle.bt_history.specs.Book.{Books}
use Rattle.bt_history.specs.Causes.{Follows, IsNewer}
use Rattle.bt_history.specs.Changes.{installs, newest, plans}
use Rattle.bt_history.specs.Machine.{CallStep, ChangeStep, State}
use Rattle.bt_script.specs.declared.script.AirLine.{AirLine}
use Rattle.bt_script.specs.declared.script.AirLine.TheVariants as line
use Rattle.bt_script.specs.declared.script.DeskLine.{DeskLine}
use Rattle.bt_script.specs.declared.script.DeskLine.TheVariants as desk_line
use Rattle.bt_round.specs.AirLines.{AirState, PlaysAirLine, PlaysAirLines, PlaysOrder, PlaysTurnIf, is_marked}
use Rattle.bt_round.specs.Callers.{Calling, IsAnswered, IsSameCaller, caller_number, own_of}
use Rattle.bt_round.specs.Desks.{asked_by_line}
use Rattle.bt_round.specs.Planned.{HasPosted}
use Rattle.bt_round.proofs.Lent.{installs-append}
use Rattle.bt_round.proofs.DeskLines.{call_in, changes_of-append}
use Rattle.bt_round.proofs.Installed.{installed_is_no_newer, newest-install, newest-other, newest_is_installed, plans-append}

-- the plans that these entries installed
abbrev pub installed_by : List Entry → List Plan
installed_by entries = installs (changes_of entries)

-- those of more entries stand behind the others
pub installed_by-append : (a b : List Entry) → installed_by (a ++ b) ≡ installed_by a ++ installed_by b
installed_by-append a b = ap installs (changes_of-append a b) ∙ installs-append (changes_of a) (changes_of b)

made_is_no_refusal : (reply : Reply) → is_made reply ≡ true → is_refusal reply ≡ true → ⊥
made_is_no_refusal (Done _ _) made refused = false≢true refused
made_is_no_refusal (Installed _) made refused = false≢true refused
made_is_no_refusal Placed made refused = false≢true refused
made_is_no_refusal _ made refused = false≢true made

install_is_past : (net : Net) (old new : State) (plan : Plan) (reply : Reply) → is_made reply ≡ true → ChangeStep net old (change.Install plan) reply new → IsNewer old.changes plan
install_is_past net old new plan reply made (inl halted) = absurd (false≢true (sym (ap is_made halted.told) ∙ made))
install_is_past net old new plan reply made (inr (inl refused)) = absurd (made_is_no_refusal reply made refused.refuses)
install_is_past net old new plan reply made (inr (inr (inl full))) = absurd (false≢true (sym (ap is_made full.told) ∙ made))
install_is_past net old new plan reply made (inr (inr (inr (inl done)))) = done.makes.can.good.0
install_is_past net old new plan reply made (inr (inr (inr (inr lost)))) = absurd (false≢true (sym (ap is_made lost.told) ∙ made))

-- what a step installs is of a greater edition than the newest
step_is_past : (net : Net) (old new : State) (asked : Call) (reply : Reply) (made : Bool) → is_made reply ≡ made → CallStep net old asked reply new
    → All (IsNewer old.changes) (installs (cons_option (if made then change_asked asked else None) []))
step_is_past net old new asked reply false is step = All-nil (IsNewer old.changes)
step_is_past net old new (call.Install plan) reply true is step = All-cons (IsNewer old.changes) plan [] (install_is_past net old new plan reply is step) (All-nil (IsNewer old.changes))
step_is_past net old new (call.Edit edit) reply true is step = All-nil (IsNewer old.changes)
step_is_past net old new (call.Place order) reply true is step = All-nil (IsNewer old.changes)
step_is_past net old new call.Snapshot reply true is step = All-nil (IsNewer old.changes)
step_is_past net old new (call.Newest after) reply true is step = All-nil (IsNewer old.changes)

one_kept : (test : Bool) (entry : Entry) (rest kept : List Entry) (plan : Plan) → (Contains (installed_by kept) plan → Contains (installed_by rest) plan)
    → Contains (installed_by (if test then entry ∷ kept else kept)) plan → Contains (installed_by (entry ∷ rest)) plan
one_kept true entry rest kept plan on there =
    subst (λ (l : List Plan). Contains l plan) (sym (installed_by-append (entry ∷ []) rest))
    (⊎_elim
    (λ (first : Contains (installed_by (entry ∷ [])) plan). Contains-append_left (installed_by (entry ∷ [])) (installed_by rest) plan first)
    (λ (behind : Contains (installed_by kept) plan). Contains-append_right (installed_by (entry ∷ [])) (installed_by rest) plan (on behind))
    (Contains-append_cases (installed_by (entry ∷ [])) (installed_by kept) plan (subst (λ (l : List Plan). Contains l plan) (installed_by-append (entry ∷ []) kept) there)))
one_kept false entry rest kept plan on there =
    subst (λ (l : List Plan). Contains l plan) (sym (installed_by-append (entry ∷ []) rest)) (Contains-append_right (installed_by (entry ∷ [])) (installed_by rest) plan (on there))

-- what one caller installed is among what all did
own_is_among : (entries : List Entry) (number : ℕ) (plan : Plan) → Contains (installed_by (calls_of entries number)) plan → Contains (installed_by entries) plan
own_is_among [] number plan there = there
own_is_among (entry ∷ rest) number plan there =
    one_kept (entry.caller == number) entry rest (calls_of rest number) plan (own_is_among rest number plan) there

-- the newest plan after the changes of one caller is no newer than after those of all
own_is_no_newer : (net : Net) (start : List Change) (entries : List Entry) (number : ℕ) → Follows net (start ++ changes_of entries)
    → (newest (start ++ changes_of (calls_of entries number))).edition.0 ≤ (newest (start ++ changes_of entries)).edition.0
own_is_no_newer net start entries number follow =
    let own = changes_of (calls_of entries number) in
    let all = changes_of entries in
    let plan = newest (start ++ own) in
    let there : Contains (plans start ++ installs own) plan = subst (λ (l : List Plan). Contains l plan) (plans-append start own) (newest_is_installed (start ++ own)) in
    installed_is_no_newer net (start ++ all) plan follow
    (subst (λ (l : List Plan). Contains l plan) (sym (plans-append start all))
    (⊎_elim
    (λ (before : Contains (plans start) plan). Contains-append_left (plans start) (installs all) plan before)
    (λ (behind : Contains (installs own) plan). Contains-append_right (plans start) (installs all) plan (own_is_among entries number plan behind))
    (Contains-append_cases (plans start) (installs own) plan there)))

-- a plan that the caller installed is newer than the last that was posted
pub may_post : (net : Net) (caller : Calling) (posted : List Plan) (entry : Entry) → IsAnswered net caller entry → HasPosted caller posted
    → All (λ (plan : Plan). next_edition posted ≤ plan.edition.0) (installed_by (entry ∷ []))
may_post net caller posted entry so has =
    let start = caller.start.state.changes in
    let reached : so.old.changes ≡ start ++ changes_of so.since = ap (λ (s : State). s.changes) so.reached in
    let follow : Follows net (start ++ changes_of so.since) = subst (Follows net) reached so.follows in
    let up = own_is_no_newer net start so.since (caller_number caller) follow in
    let own = ap (λ (e : List Entry). (newest (start ++ changes_of e)).edition.0) so.own in
    let past = step_is_past net so.old so.new entry.call entry.reply (is_made entry.reply) refl so.step.answered in
    λ k d within. omega (arith, past k d within, has, up, own, ap (λ (c : List Change). (newest c).edition.0) reached)

one_posted : (start : List Change) (posted : List Plan) (one : Option Change) → next_edition posted ≤ (newest start).edition.0 + 1
    → next_edition (posted ++ installs (cons_option one [])) ≤ (newest (start ++ cons_option one [])).edition.0 + 1
one_posted start posted None last =
    omega (arith, last, ap next_edition (append-nil posted), ap (λ (c : List Change). (newest c).edition.0) (append-nil start))
one_posted start posted (Some (change.Install plan)) last =
    omega (arith, ap next_of (last_snoc None posted plan), ap (λ (p : Plan). p.edition.0) (newest-install start plan))
one_posted start posted (Some (change.Edit edit)) last =
    omega (arith, last, ap next_edition (append-nil posted), ap (λ (p : Plan). p.edition.0) (newest-other start (change.Edit edit ∷ []) refl))
one_posted start posted (Some (change.Order order)) last =
    omega (arith, last, ap next_edition (append-nil posted), ap (λ (p : Plan). p.edition.0) (newest-other start (change.Order order ∷ []) refl))

-- with what the next entry of the caller installed posted, it may post again
pub posted_more : (old new : Calling) (posted after : List Plan) (entry : Entry) → IsSameCaller old new → own_of new ≡ own_of old ++ entry ∷ [] → HasPosted old posted
    → after ≡ posted ++ installed_by (entry ∷ []) → HasPosted new after
posted_more old new posted after entry same own has is =
    let start = old.start.state.changes in
    let sooner = start ++ changes_of (own_of old) in
    let changes : new.start.state.changes ++ changes_of (own_of new) ≡ sooner ++ changes_of (entry ∷ []) =
    ap (λ (b : Books). b.state.changes ++ changes_of (own_of new)) same.start
    ∙ ap (λ (e : List Entry). start ++ changes_of e) own
    ∙ ap (λ (c : List Change). start ++ c) (changes_of-append (own_of old) (entry ∷ []))
    ∙ sym (append_assoc start (changes_of (own_of old)) (changes_of (entry ∷ []))) in
    omega (
      arith,
      one_posted sooner posted (change_made entry.call entry.reply) has,
      ap next_edition is,
      ap (λ (c : List Change). (newest c).edition.0) changes,
    )

-- the plan that a call asks to install, if it does
abbrev pub plan_asked : Call → List Plan
plan_asked (call.Install plan) = plan ∷ []
plan_asked _ = []

none_made : (asked : Call) (made : Bool) → plan_asked asked ≡ [] → installs (cons_option (if made then change_asked asked else None) []) ≡ []
none_made asked false none = refl
none_made (call.Install plan) true none = none
none_made (call.Edit edit) true none = refl
none_made (call.Place order) true none = refl
none_made call.Snapshot true none = refl
none_made (call.Newest after) true none = refl

-- two lists without elements
both_empty : {A : Type 0} (a b : List A) → a ++ b ≡ [] → (a ≡ []) × (b ≡ [])
both_empty [] b none = (refl, none)
both_empty (x ∷ a) b none = cc

-- calls that ask for no install install nothing
pub none_installed : (entries : List Entry) → flat_map plan_asked (map call_in entries) ≡ [] → installed_by entries ≡ []
none_installed [] none = refl
none_installed (entry ∷ rest) none =
    let parts = both_empty (plan_asked entry.call) (flat_map plan_asked (map call_in rest)) none in
    installed_by-append (entry ∷ []) rest
    ∙ ap (λ (l : List Plan). l ++ installed_by rest) (none_made entry.call (is_made entry.reply) parts.0)
    ∙ none_installed rest parts.1

-- the lines of a desk ask for no install
pub desks_install_none : (lines : List DeskLine) → flat_map plan_asked (flat_map asked_by_line lines) ≡ []
desks_install_none [] = refl
desks_install_none (desk_line.Edit edit ∷ lines) = desks_install_none lines
desks_install_none (desk_line.Show terminal ∷ lines) = desks_install_none lines

nothing_asked : (entries : List Entry) → entries ≡ [] → flat_map plan_asked (map call_in entries) ≡ []
nothing_asked entries none = ap (λ (e : List Entry). flat_map plan_asked (map call_in e)) none

order_asks_none : (net : Net) (air : AirState) (order : Option Order) (entries : List Entry) (text : List ℕ) (after : AirState) → PlaysOrder net air order entries text after
    → flat_map plan_asked (map call_in entries) ≡ []
order_asks_none net air None [] text after plays = refl
order_asks_none net air None (entry ∷ rest) text after plays = absurd plays
order_asks_none net air (Some order) [] text after plays = absurd plays
order_asks_none net air (Some order) (entry ∷ []) text after plays = ap (λ (c : Call). plan_asked c ++ []) plays.0
order_asks_none net air (Some order) (entry ∷ next ∷ rest) text after plays = absurd plays

turn_asks_none : (marked : Bool) (net : Net) (air : AirState) (entries : List Entry) (text : List ℕ) (after : AirState) → PlaysTurnIf marked net air entries text after
    → flat_map plan_asked (map call_in entries) ≡ []
turn_asks_none true net air entries text after plays =
    ap (λ (e : List Entry). flat_map plan_asked (map call_in e)) plays.all
    ∙ ap (λ (c : Call). plan_asked c ++ flat_map plan_asked (map call_in plays.others)) plays.call
    ∙ order_asks_none net _ _ plays.others _ after plays.turned.placed
turn_asks_none false net air entries text after plays = nothing_asked entries plays.0

air_line_asks_none : (net : Net) (air : AirState) (one : AirLine) (entries : List Entry) (text : List ℕ) (after : AirState) → PlaysAirLine net air one entries text after
    → flat_map plan_asked (map call_in entries) ≡ []
air_line_asks_none net air line.Tick entries text after plays = nothing_asked entries plays.0
air_line_asks_none net air line.Turn entries text after plays = turn_asks_none (is_marked air) net air entries text after plays
air_line_asks_none net air (line.Back edition) entries text after plays = nothing_asked entries plays.0
air_line_asks_none net air line.Ahead entries text after plays = nothing_asked entries plays.0
air_line_asks_none net air line.Flow entries text after plays = nothing_asked entries plays.0
air_line_asks_none net air (line.Lose losing) entries text after plays = nothing_asked entries plays.0
air_line_asks_none net air (line.Deliver number place) entries text after plays = nothing_asked entries plays.0
air_line_asks_none net air line.Frame entries text after plays = nothing_asked entries plays.0
air_line_asks_none net air (line.Reset terminal) entries text after plays = nothing_asked entries plays.0
air_line_asks_none net air (line.StandbyHears number) entries text after plays = nothing_asked entries plays.0
air_line_asks_none net air line.StandbyBurst entries text after plays = nothing_asked entries plays.0

-- and neither do those of the air
pub air_installs_none : (net : Net) (air : AirState) (lines : List AirLine) (entries : List Entry) (text : List ℕ) (after : AirState) → PlaysAirLines net air lines entries text after
    → flat_map plan_asked (map call_in entries) ≡ []
air_installs_none net air [] entries text after plays = nothing_asked entries plays.0
air_installs_none net air (first ∷ lines) entries text after (between, own, others, begun, rest, one, more, entries_are, text_is) =
    ap (λ (e : List Entry). flat_map plan_asked (map call_in e)) entries_are
    ∙ ap (flat_map plan_asked) (map-append call_in own others)
    ∙ flat_map-append plan_asked (map call_in own) (map call_in others)
    ∙ ap (λ (l : List Plan). l ++ flat_map plan_asked (map call_in others)) (air_line_asks_none net air first own begun between one)
    ∙ air_installs_none net between lines others rest after more

chosen_none : (test : Bool) (entry : Entry) (kept : List Entry) → installed_by (if test then entry ∷ kept else kept) ≡ [] → installed_by kept ≡ []
chosen_none true entry kept none = (both_empty (installed_by (entry ∷ [])) (installed_by kept) (sym (installed_by-append (entry ∷ []) kept) ∙ none)).1
chosen_none false entry kept none = none

-- where one caller alone installs plans, all that was installed is its own
pub one_installs : (number : ℕ) (entries : List Entry) → ((caller : ℕ) → caller ≢ number → installed_by (calls_of entries caller) ≡ []) → installed_by entries ≡ installed_by (calls_of entries number)
one_installs number [] none = refl
one_installs number (entry ∷ rest) none =
    let later : installed_by rest ≡ installed_by (calls_of rest number) =
    one_installs number rest (λ caller differ. chosen_none (entry.caller == caller) entry (calls_of rest caller) (none caller differ)) in
    let whole : installed_by (entry ∷ rest) ≡ installed_by (entry ∷ []) ++ installed_by (calls_of rest number) =
    installed_by-append (entry ∷ []) rest ∙ ap (λ (l : List Plan). installed_by (entry ∷ []) ++ l) later in
    ⊎_elim
    (λ (same : entry.caller ≡ number).
    whole ∙ sym (installed_by-append (entry ∷ []) (calls_of rest number))
    ∙ ap (λ (t : Bool). installed_by (if t then entry ∷ calls_of rest number else calls_of rest number)) (sym (eq-eqb entry.caller number same)))
    (λ (differ : entry.caller ≢ number).
    let own : installed_by (entry ∷ calls_of rest entry.caller) ≡ [] =
    ap (λ (t : Bool). installed_by (if t then entry ∷ calls_of rest entry.caller else calls_of rest entry.caller)) (sym (eq-eqb entry.caller entry.caller refl)) ∙ none entry.caller differ in
    let first : installed_by (entry ∷ []) ≡ [] = (both_empty (installed_by (entry ∷ [])) (installed_by (calls_of rest entry.caller)) (sym (installed_by-append (entry ∷ []) (calls_of rest entry.caller)) ∙ own)).0 in
    whole ∙ ap (λ (l : List Plan). l ++ installed_by (calls_of rest number)) first
    ∙ ap (λ (t : Bool). installed_by (if t then entry ∷ calls_of rest number else calls_of rest number)) (sym (ne_eqb entry.caller number differ)))
    (cases_eq entry.caller number)

-- an install that was made installed its plan
pub installed_first : (entry : Entry) (plan : Plan) → entry.call ≡ call.Install plan → is_made entry.reply ≡ true → installed_by (entry ∷ []) ≡ plan ∷ []
installed_first entry plan asked made =
    ap (λ (c : Call). installs (cons_option (if is_made entry.reply then change_asked c else None) [])) asked
    ∙ ap (λ (t : Bool). installs (cons_option (if t then Some (change.Install plan) else None) [])) made
