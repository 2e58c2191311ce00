-- What the desks and the centre's worker ask for in a round: nobody but the planner asks for an install.
use Rattle.std.proofs.Common.{◌≡◌, ◌≢◌, ℕ, zero, suc, ◌+◌, ◌==◌, if◌then◌else◌, cond, Bool, true, false, Option, Some, None, List, [], ◌∷◌, map, All, refl, sym, subst, arith, eq-eqb}
use Rattle.std.specs.Prelude.{flat_map}
use Rattle.std.proofs.lemmas.List.Elements.{All-append, All-cons, All-head, All-nil, All-tail}
use Rattle.bt_frame.specs.declared.numbers.EditionNo.{EditionNo}
use Rattle.bt_net.specs.Network.{Net}
use Rattle.bt_air.specs.declared.order.Order.{Order}
use Rattle.bt_journal.specs.declared.call.Call.{Call}
use Rattle.bt_journal.specs.declared.call.Call.TheVariants as call
use Rattle.bt_journal.specs.declared.call.Edit.{Edit}
use Rattle.bt_journal.specs.declared.entry.Entry.{Entry}
use Rattle.bt_journal.specs.Journal.{calls_of}
use Rattle.bt_script.specs.declared.script.AirLine.{AirLine}
use Rattle.bt_script.specs.declared.script.AirLine.TheVariants as air_line
use Rattle.bt_script.specs.declared.script.DeskLine.{DeskLine}
use Rattle.bt_script.specs.declared.script.DeskLine.TheVariants as desk_line
use Rattle.bt_script.specs.declared.script.Round.{Round}
use Rattle.bt_timeline.specs.Timeline.{IsInstall}
use Rattle.bt_round.specs.AirLines.{AirState, PlaysAirLine, PlaysAirLines, PlaysOrder, PlaysTurnIf, having, installing, is_marked, newest_in, turning, wanted_in}
use Rattle.bt_round.specs.Desks.{asked_by, asked_by_line}
use Rattle.bt_centre.specs.Run.{PlaysRound, Stand}
use Rattle.bt_run_laws.proofs.Planner.{PlannerInstalls}

-- what the centre's worker asks is of any kind that asking for a newer plan and asking to place an order are
module _ (P : Call → Type 0) (newest : (after : EditionNo) → P (call.Newest after)) (place : (order : Order) → P (call.Place order)) where
  order_asks : (net : Net) (air : AirState) (order : Option Order) (entries : List Entry) (text : List ℕ) (after : AirState) → PlaysOrder net air order entries text after → All (λ entry. P entry.call) entries
  order_asks net air None [] text after is = All-nil (λ (entry : Entry). P entry.call)
  order_asks net air None (entry ∷ more) text after is = absurd is
  order_asks net air (Some order) [] text after is = absurd is
  order_asks net air (Some order) (entry ∷ []) text after is = All-cons (λ (e : Entry). P e.call) entry [] (subst P (sym is.0) (place order)) (All-nil (λ (e : Entry). P e.call))
  order_asks net air (Some order) (entry ∷ (other ∷ more)) text after is = absurd is

  asks_nothing : (entries : List Entry) → entries ≡ [] → All (λ entry. P entry.call) entries
  asks_nothing entries is = subst (All (λ (entry : Entry). P entry.call)) (sym is) (All-nil (λ (entry : Entry). P entry.call))

  turn_asks : (net : Net) (marked : Bool) (air : AirState) (entries : List Entry) (text : List ℕ) (after : AirState) → PlaysTurnIf marked net air entries text after → All (λ entry. P entry.call) entries
  turn_asks net false air entries text after is = asks_nothing entries is.0
  turn_asks net true air entries text after is =
      let turned = having (installing air is.newer) (turning (installing air is.newer)) in
      subst (All (λ (entry : Entry). P entry.call)) (sym is.all)
      (All-cons (λ (entry : Entry). P entry.call) is.asked is.others (subst P (sym is.call) (newest (newest_in air)))
      (order_asks net turned (wanted_in turned) is.others is.turned.rest after is.turned.placed))

  line_asks : (net : Net) (air : AirState) (one : AirLine) (entries : List Entry) (text : List ℕ) (after : AirState) → PlaysAirLine net air one entries text after → All (λ entry. P entry.call) entries
  line_asks net air air_line.Turn entries text after is = turn_asks net (is_marked air) air entries text after is
  line_asks net air air_line.Tick entries text after is = asks_nothing entries is.0
  line_asks net air one entries text after is = asks_nothing entries is.0

  pub centre_asks : (net : Net) (air : AirState) (lines : List AirLine) (entries : List Entry) (text : List ℕ) (after : AirState) → PlaysAirLines net air lines entries text after
      → All (λ entry. P entry.call) entries
  centre_asks net air [] entries text after is = asks_nothing entries is.0
  centre_asks net air (first ∷ lines) entries text after (between, own, others, begun, rest, here, later, all, whole) =
      subst (All (λ (entry : Entry). P entry.call)) (sym all)
      (All-append (λ (entry : Entry). P entry.call) own others (line_asks net air first own begun between here) (centre_asks net between lines others rest after later))

-- what holds of all calls holds of the call of each entry
module _ (P : Call → Type 0) where
  pub of_calls : (entries : List Entry) → All P (map (λ (entry : Entry). entry.call) entries) → All (λ entry. P entry.call) entries
  of_calls [] all = All-nil (λ (entry : Entry). P entry.call)
  of_calls (first ∷ rest) all =
      let calls = map (λ (entry : Entry). entry.call) rest in
      All-cons (λ (entry : Entry). P entry.call) first rest (All-head P first.call calls all) (of_calls rest (All-tail P first.call calls all))

-- what a desk asks is of any kind that asking for an edit is
module _ (P : Call → Type 0) (edit : (one : Edit) → P (call.Edit one)) where
  lines_ask : (lines : List DeskLine) → All P (flat_map asked_by_line lines)
  lines_ask [] = All-nil P
  lines_ask (desk_line.Edit one ∷ lines) = All-cons P (call.Edit one) (flat_map asked_by_line lines) (edit one) (lines_ask lines)
  lines_ask (desk_line.Show terminal ∷ lines) = lines_ask lines

  if_own : (test : Bool) (calls : List Call) → All P calls → All P (if test then calls else [])
  if_own true calls all = all
  if_own false calls all = All-nil P

  desks_ask : (caller : ℕ) (desks : List (ℕ × List DeskLine)) → All P (asked_by caller desks)
  desks_ask caller [] = All-nil P
  desks_ask caller (desk ∷ desks) =
      let own = flat_map asked_by_line desk.1 in
      All-append P (if desk.0 + 1 == caller then own else []) (asked_by caller desks) (if_own (desk.0 + 1 == caller) own (lines_ask desk.1)) (desks_ask caller desks)

  pub desk_asks : (caller : ℕ) (desks : List (ℕ × List DeskLine)) (entries : List Entry) → map (λ entry. entry.call) entries ≡ asked_by caller desks → All (λ entry. P entry.call) entries
  desk_asks caller desks entries is = of_calls P entries (subst (All P) (sym is) (desks_ask caller desks))

-- what holds of the entries of each caller but one holds of all entries that are not of that one
module _ (P : Entry → Type 0) where
  own_first : (first : Entry) (rest : List Entry) → All P (calls_of (first ∷ rest) first.caller) → P first
  own_first first rest all =
      let own = calls_of rest first.caller in
      All-head P first own (subst (λ (b : Bool). All P (cond b (first ∷ own) own)) (eq-eqb first.caller first.caller refl) all)

  without_first : (test : Bool) (first : Entry) (own : List Entry) → All P (cond test (first ∷ own) own) → All P own
  without_first true first own all = All-tail P first own all
  without_first false first own all = all

  by_callers : (one : ℕ) (entries : List Entry) → ((caller : ℕ) → caller ≢ one → All P (calls_of entries caller)) → All (λ entry. entry.caller ≢ one → P entry) entries
  by_callers one [] each = All-nil (λ (entry : Entry). entry.caller ≢ one → P entry)
  by_callers one (first ∷ rest) each =
      All-cons (λ (entry : Entry). entry.caller ≢ one → P entry) first rest (λ other. own_first first rest (each first.caller other))
      (by_callers one rest (λ caller other. without_first (first.caller == caller) first (calls_of rest caller) (each caller other)))

-- in a round nobody but the planner asks for an install
pub round_installs : (net : Net) (before : Stand) (round : Round) (text : List ℕ) (after : Stand) → (plays : PlaysRound net before round text after) → PlannerInstalls plays.entries
round_installs net before round text after plays = by_callers (λ (entry : Entry). ¬ (IsInstall entry.call)) 1 plays.entries each
  where
    each : (caller : ℕ) → caller ≢ 1 → All (λ (entry : Entry). ¬ (IsInstall entry.call)) (calls_of plays.entries caller)
    each zero other =
        centre_asks (λ (asked : Call). ¬ (IsInstall asked)) (λ _ is. is) (λ _ is. is) net before.air round.air (calls_of plays.entries 0) plays.air_text after.air plays.centre
    each (suc zero) other = absurd (other refl)
    each (suc (suc more)) other =
        desk_asks (λ (asked : Call). ¬ (IsInstall asked)) (λ _ is. is) (suc (suc more)) round.desks (calls_of plays.entries (suc (suc more))) (plays.desks (suc (suc more)) (omega arith))
