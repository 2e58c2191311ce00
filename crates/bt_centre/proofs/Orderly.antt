-- What a legal history says of orders: each that was made was placed, and behind a fault of the store nothing is made or lost.
use Rattle.std.proofs.Common.{◌≡◌, ◌⊎◌, ℕ, suc, zero, ◌+◌, ◌<◌, ◌==◌, ◌||◌, if◌then◌else◌, Bool, true, false, List, [], ◌∷◌, ◌++◌, map, Option, Some, None, refl, sym, ap, ◌∙◌, subst, arith, inl, inr}
use Rattle.std.specs.List.{All, filter_map, flat_map}
use Rattle.std.specs.List.{cons_option}
use Rattle.std.proofs.lemmas.Bool.{eq-eqb}
use Rattle.std.proofs.lemmas.List.Elements.{All-head, All-tail, filter_map-append}
use Rattle.bt_net.specs.Network.{Net}
use Rattle.bt_air.specs.declared.order.Order.{Order}
use Rattle.bt_journal.specs.declared.call.Call.{Call}
use Rattle.bt_journal.specs.declared.call.Call.TheVariants as call
use Rattle.bt_journal.specs.declared.call.Change.{Change}
use Rattle.bt_journal.specs.declared.call.Change.TheVariants as change
use Rattle.bt_journal.specs.declared.entry.Entry.{Entry}
use Rattle.bt_journal.specs.declared.reply.Reply.{Reply}
use Rattle.bt_journal.specs.declared.reply.Reply.TheVariants as reply
use Rattle.bt_journal.specs.Journal.{calls_of, change_asked, changes_of, is_fault, is_made}
use Rattle.bt_history.specs.Changes.{order_in, orders}
use Rattle.bt_history.specs.Machine.{AreSteps, CallStep, ChangeStep, State, Step, Tells}
use Rattle.bt_history.specs.Store.{is_lost, lost_of}
use Rattle.bt_history.proofs.Histories.{Step-adds, as_list}
use Rattle.bt_history.proofs.Replies.{no_fault_not_lost, refusal_not_made}
use Rattle.bt_script.specs.declared.script.DeskLine.{DeskLine}
use Rattle.bt_script.specs.declared.script.DeskLine.TheVariants as desk_line
use Rattle.bt_demand.specs.declared.demand.Link.{Link}
use Rattle.bt_frame.specs.declared.numbers.EditionNo.{EditionNo}
use Rattle.bt_round.specs.Desks.{asked_by, asked_by_line}
use Rattle.bt_round.specs.Planning.{PlansEdition, PlansOnce, PlaysPlans}

-- no entry made or lost a change
abbrev pub MakesNone : List Entry → Type 0
MakesNone [] = Unit {0}
MakesNone (first ∷ rest) = (is_made first.reply ≡ false) × (is_lost first.reply ≡ false) × MakesNone rest

-- an order that was made was placed
abbrev pub IsPlacing : Entry → Type 0
IsPlacing entry = (order : Order) → entry.call ≡ call.Place order → is_made entry.reply ≡ true → entry.reply ≡ reply.Placed

-- each order that was made was placed, and behind a fault of the store nothing was made or lost
abbrev pub AreOrderly : List Entry → Type 0
AreOrderly [] = Unit {0}
AreOrderly (first ∷ rest) = IsPlacing first × (is_fault first.reply ≡ true → MakesNone rest) × AreOrderly rest

pub not_both : (b : Bool) → b ≡ true → b ≡ false → ⊥
not_both true is other = cc
not_both false is other = cc

-- a machine that is stopped answers so
stopped_change : (net : Net) (old : State) (one : Change) (answer : Reply) (new : State) → old.stopped ≡ true → ChangeStep net old one answer new → answer ≡ reply.Stopped
stopped_change net old one answer new stopped (inl halts) = halts.told
stopped_change net old one answer new stopped (inr (inl refused)) = absurd (not_both old.stopped stopped refused.runs)
stopped_change net old one answer new stopped (inr (inr (inl full))) = absurd (not_both old.stopped stopped full.runs)
stopped_change net old one answer new stopped (inr (inr (inr (inl done)))) = absurd (not_both old.stopped stopped done.makes.can.runs)
stopped_change net old one answer new stopped (inr (inr (inr (inr lost)))) = absurd (not_both old.stopped stopped lost.can.runs)

quiet : (answer : Reply) → answer ≡ reply.Stopped → (is_made answer ≡ false) × (is_lost answer ≡ false)
quiet answer is = (ap is_made is, ap is_lost is)

-- it makes and loses nothing
stopped_call : (net : Net) (old : State) (asked : Call) (answer : Reply) (new : State) → old.stopped ≡ true → CallStep net old asked answer new
    → (is_made answer ≡ false) × (is_lost answer ≡ false)
stopped_call net old (call.Edit edit) answer new stopped step = quiet answer (stopped_change net old (change.Edit edit) answer new stopped step)
stopped_call net old (call.Install plan) answer new stopped step = quiet answer (stopped_change net old (change.Install plan) answer new stopped step)
stopped_call net old (call.Place order) answer new stopped step = quiet answer (stopped_change net old (change.Order order) answer new stopped step)
stopped_call net old call.Snapshot answer new stopped step = (ap is_made step.0.told, ap is_lost step.0.told)
stopped_call net old (call.Newest after) answer new stopped step = (ap is_made step.0, ap is_lost step.0)

or_last : (b : Bool) → (b || true) ≡ true
or_last true = refl
or_last false = refl

-- and stays stopped
stays_stopped : (net : Net) (old : State) (asked : Call) (answer : Reply) (new : State) → Step net old asked answer new → old.stopped ≡ true → new.stopped ≡ true
stays_stopped net old asked answer new step stopped =
    ap (λ (s : State). s.stopped) (Step-adds net old asked answer new step) ∙ ap (λ (b : Bool). b || is_fault answer) stopped

-- a fault of the store stops it
is_stopped : (net : Net) (old : State) (asked : Call) (answer : Reply) (new : State) → Step net old asked answer new → is_fault answer ≡ true → new.stopped ≡ true
is_stopped net old asked answer new step fault =
    ap (λ (s : State). s.stopped) (Step-adds net old asked answer new step) ∙ (ap (λ (b : Bool). old.stopped || b) fault ∙ or_last old.stopped)

none_behind : (net : Net) (old : State) (history : List Entry) → old.stopped ≡ true → AreSteps net old history → MakesNone history
none_behind net old [] stopped steps = tt
none_behind net old (first ∷ rest) stopped (new, step, more) =
    let is = stopped_call net old first.call first.reply new stopped step.answered in
    (is.0, is.1, none_behind net new rest (stays_stopped net old first.call first.reply new step stopped) more)

told_placed : (net : Net) (changes : List Change) (order : Order) (answer : Reply) → Tells net changes (change.Order order) answer → answer ≡ reply.Placed
told_placed net changes order reply.Placed tells = refl
told_placed net changes order _ tells = absurd tells

placed_change : (net : Net) (old : State) (order : Order) (answer : Reply) (new : State) → ChangeStep net old (change.Order order) answer new → is_made answer ≡ true → answer ≡ reply.Placed
placed_change net old order answer new (inl halts) made = absurd (not_both (is_made answer) made (ap is_made halts.told))
placed_change net old order answer new (inr (inl refused)) made = absurd (not_both (is_made answer) made (refusal_not_made answer refused.refuses))
placed_change net old order answer new (inr (inr (inl full))) made = absurd (not_both (is_made answer) made (ap is_made full.told))
placed_change net old order answer new (inr (inr (inr (inl done)))) made = told_placed net new.changes order answer done.told
placed_change net old order answer new (inr (inr (inr (inr lost)))) made = absurd (not_both (is_made answer) made (ap is_made lost.told))

placed_call : (net : Net) (old : State) (entry : Entry) (new : State) → CallStep net old entry.call entry.reply new → IsPlacing entry
placed_call net old entry new step = λ order asked made.
    placed_change net old order entry.reply new (subst (λ (c : Call). CallStep net old c entry.reply new) asked step) made

-- the steps of a machine are orderly
pub orderly_steps : (net : Net) (old : State) (history : List Entry) → AreSteps net old history → AreOrderly history
orderly_steps net old [] steps = tt
orderly_steps net old (first ∷ rest) (new, step, more) = (
  placed_call net old first new step.answered,
  λ fault. none_behind net new rest (is_stopped net old first.call first.reply new step fault) more,
  orderly_steps net new rest more,
)

MakesNone-first : (a b : List Entry) → MakesNone (a ++ b) → MakesNone a
MakesNone-first [] b none = tt
MakesNone-first (first ∷ a) b none = (none.0, none.1, MakesNone-first a b none.2)

pub MakesNone-second : (a b : List Entry) → MakesNone (a ++ b) → MakesNone b
MakesNone-second [] b none = none
MakesNone-second (first ∷ a) b none = MakesNone-second a b none.2

pub MakesNone-parts : (a b : List Entry) → MakesNone (a ++ b) → MakesNone a × MakesNone b
MakesNone-parts a b none = (MakesNone-first a b none, MakesNone-second a b none)

pub AreOrderly-first : (a b : List Entry) → AreOrderly (a ++ b) → AreOrderly a
AreOrderly-first [] b so = tt
AreOrderly-first (first ∷ a) b so = (so.0, λ fault. MakesNone-first a b (so.1 fault), AreOrderly-first a b so.2)

pub AreOrderly-second : (a b : List Entry) → AreOrderly (a ++ b) → AreOrderly b
AreOrderly-second [] b so = so
AreOrderly-second (first ∷ a) b so = AreOrderly-second a b so.2

none_more : (b : Bool) (entry : Entry) (rest : List Entry) → is_made entry.reply ≡ false → is_lost entry.reply ≡ false → MakesNone rest → MakesNone (if b then entry ∷ rest else rest)
none_more true entry rest made lost none = (made, lost, none)
none_more false entry rest made lost none = none

-- the calls of one caller
pub MakesNone-calls : (entries : List Entry) (caller : ℕ) → MakesNone entries → MakesNone (calls_of entries caller)
MakesNone-calls [] caller none = tt
MakesNone-calls (first ∷ rest) caller none =
    none_more (first.caller == caller) first (calls_of rest caller) none.0 none.1 (MakesNone-calls rest caller none.2)

orderly_more : (b : Bool) (entry : Entry) (rest : List Entry) → IsPlacing entry → (is_fault entry.reply ≡ true → MakesNone rest) → AreOrderly rest
    → AreOrderly (if b then entry ∷ rest else rest)
orderly_more true entry rest placing stops so = (placing, stops, so)
orderly_more false entry rest placing stops so = so

pub AreOrderly-calls : (entries : List Entry) (caller : ℕ) → AreOrderly entries → AreOrderly (calls_of entries caller)
AreOrderly-calls [] caller so = tt
AreOrderly-calls (first ∷ rest) caller so =
    orderly_more (first.caller == caller) first (calls_of rest caller) so.0 (λ fault. MakesNone-calls rest caller (so.1 fault)) (AreOrderly-calls rest caller so.2)

-- the call asks for no order
abbrev pub AsksNone : Call → Type 0
AsksNone (call.Place order) = ⊥
AsksNone _ = Unit {0}

pub asks_none : (b : Bool) (asked : Call) → AsksNone asked → orders (as_list (if b then change_asked asked else None)) ≡ []
asks_none false asked none = refl
asks_none true (call.Edit edit) none = refl
asks_none true (call.Install plan) none = refl
asks_none true (call.Place order) none = absurd none
asks_none true call.Snapshot none = refl
asks_none true (call.Newest after) none = refl

one_more : (o : Option Change) (more : List Change) → orders (cons_option o more) ≡ orders (as_list o) ++ orders more
one_more None more = refl
one_more (Some one) more = filter_map-append order_in (one ∷ []) more

-- no entry asks for an order
abbrev pub AskNone : List Entry → Type 0
AskNone [] = Unit {0}
AskNone (first ∷ rest) = AsksNone first.call × AskNone rest

-- none but the centre's do
abbrev pub OthersAskNone : List Entry → Type 0
OthersAskNone [] = Unit {0}
OthersAskNone (first ∷ rest) = ((first.caller == 0) ≡ false → AsksNone first.call) × OthersAskNone rest

-- the orders asked for with replies of one kind
module _ (passes : Reply → Bool) where
  abbrev pub orders_with : List Entry → List Order
  orders_with entries = orders (filter_map (λ (entry : Entry). if passes entry.reply then change_asked entry.call else None) entries)

  pub with_cons : (first : Entry) (rest : List Entry) → orders_with (first ∷ rest) ≡ orders (as_list (if passes first.reply then change_asked first.call else None)) ++ orders_with rest
  with_cons first rest =
      one_more (if passes first.reply then change_asked first.call else None) (filter_map (λ (entry : Entry). if passes entry.reply then change_asked entry.call else None) rest)

  pub with_append : (a b : List Entry) → orders_with (a ++ b) ≡ orders_with a ++ orders_with b
  with_append a b =
      ap orders (filter_map-append (λ (entry : Entry). if passes entry.reply then change_asked entry.call else None) a b)
      ∙ filter_map-append order_in (filter_map (λ (entry : Entry). if passes entry.reply then change_asked entry.call else None) a)
      (filter_map (λ (entry : Entry). if passes entry.reply then change_asked entry.call else None) b)

  pub with_quiet : (first : Entry) (rest : List Entry) → AsksNone first.call → orders_with (first ∷ rest) ≡ orders_with rest
  with_quiet first rest none = with_cons first rest ∙ ap (λ (l : List Order). l ++ orders_with rest) (asks_none (passes first.reply) first.call none)

  by_caller : (b : Bool) (first : Entry) (rest calls : List Entry) → (b ≡ false → AsksNone first.call) → orders_with rest ≡ orders_with calls
      → orders_with (first ∷ rest) ≡ orders_with (if b then first ∷ calls else calls)
  by_caller true first rest calls none same =
      with_cons first rest
      ∙ ap (λ (l : List Order). orders (as_list (if passes first.reply then change_asked first.call else None)) ++ l) same
      ∙ sym (with_cons first calls)
  by_caller false first rest calls none same = with_quiet first rest (none refl) ∙ same

  -- they are the centre's where no other caller asks for any
  pub with_centre : (entries : List Entry) → OthersAskNone entries → orders_with entries ≡ orders_with (calls_of entries 0)
  with_centre [] none = refl
  with_centre (first ∷ rest) none = by_caller (first.caller == 0) first rest (calls_of rest 0) none.0 (with_centre rest none.1)

-- the orders that entries made, and those that they lost
abbrev pub orders_made : List Entry → List Order
orders_made entries = orders (changes_of entries)

abbrev pub orders_lost : List Entry → List Order
orders_lost entries = orders (lost_of entries)

pub one_order : (a b : List Order) (order : Order) → a ++ b ≡ order ∷ [] → ((a ≡ []) × (b ≡ order ∷ [])) ⊎ (a ≡ order ∷ [])
one_order [] b order is = inl (refl, is)
one_order (x ∷ []) b order is = let same : x ≡ order = cc in inr (ap (λ (y : Order). y ∷ []) same)
one_order (x ∷ y ∷ a) b order is = absurd cc

pub no_order : (list : List Order) (order : Order) → list ≡ [] → list ≡ order ∷ [] → ⊥
no_order list order none is = cc

lost_faults : (answer : Reply) (fault : Bool) → is_fault answer ≡ fault → is_lost answer ≡ true → is_fault answer ≡ true
lost_faults answer true is lost = is
lost_faults answer false is lost = absurd (not_both (is_lost answer) lost (no_fault_not_lost answer is))

behind_lost : (lost : Bool) (first : Entry) (a b : List Entry) (order : Order) → is_lost first.reply ≡ lost → (is_fault first.reply ≡ true → MakesNone (a ++ b))
    → orders_lost (first ∷ a) ≡ order ∷ [] → (orders_lost a ≡ order ∷ [] → MakesNone b) → MakesNone b
behind_lost true first a b order lost stops is later = MakesNone-second a b (stops (lost_faults first.reply (is_fault first.reply) refl lost))
behind_lost false first a b order lost stops is later =
    let none : orders (as_list (if is_lost first.reply then change_asked first.call else None)) ≡ [] =
    ap (λ (t : Bool). orders (as_list (if t then change_asked first.call else None))) lost in
    later (sym (with_cons is_lost first a ∙ ap (λ (l : List Order). l ++ orders_lost a) none) ∙ is)

-- behind an order that was lost nothing is made or lost
pub none_behind_lost : (a b : List Entry) (order : Order) → AreOrderly (a ++ b) → orders_lost a ≡ order ∷ [] → MakesNone b
none_behind_lost [] b order so is = absurd (no_order [] order refl is)
none_behind_lost (first ∷ a) b order so is = behind_lost (is_lost first.reply) first a b order refl so.1 is (none_behind_lost a b order so.2)

-- no call of these asks for an order
abbrev CallsAskNone : List Call → Type 0
CallsAskNone [] = Unit {0}
CallsAskNone (first ∷ rest) = AsksNone first × CallsAskNone rest

CallsAskNone-append : (a b : List Call) → CallsAskNone a → CallsAskNone b → CallsAskNone (a ++ b)
CallsAskNone-append [] b first second = second
CallsAskNone-append (one ∷ a) b first second = (first.0, CallsAskNone-append a b first.1 second)

entries_ask_none : (entries : List Entry) → CallsAskNone (map (λ (entry : Entry). entry.call) entries) → AskNone entries
entries_ask_none [] none = tt
entries_ask_none (first ∷ rest) none = (none.0, entries_ask_none rest none.1)

lines_ask_none : (lines : List DeskLine) → CallsAskNone (flat_map asked_by_line lines)
lines_ask_none [] = tt
lines_ask_none (desk_line.Edit edit ∷ lines) = (tt, lines_ask_none lines)
lines_ask_none (desk_line.Show terminal ∷ lines) = lines_ask_none lines

desk_asks_none : (b : Bool) (lines : List DeskLine) → CallsAskNone (if b then flat_map asked_by_line lines else [])
desk_asks_none true lines = lines_ask_none lines
desk_asks_none false lines = tt

desks_ask_none : (caller : ℕ) (desks : List (ℕ × List DeskLine)) → CallsAskNone (asked_by caller desks)
desks_ask_none caller [] = tt
desks_ask_none caller (desk ∷ desks) =
    CallsAskNone-append (if desk.0 + 1 == caller then flat_map asked_by_line desk.1 else []) (asked_by caller desks)
    (desk_asks_none (desk.0 + 1 == caller) desk.1) (desks_ask_none caller desks)

AskNone-append : (a b : List Entry) → AskNone a → AskNone b → AskNone (a ++ b)
AskNone-append [] b first second = second
AskNone-append (one ∷ a) b first second = (first.0, AskNone-append a b first.1 second)

edition_asks_none : (net : Net) (edition newest : EditionNo) (links : List Link) (entries : List Entry) → PlansEdition net edition newest links entries → AskNone entries
edition_asks_none net edition newest links [] is = tt
edition_asks_none net edition newest links (entry ∷ []) is = (subst AsksNone (sym is.1.1) tt, tt)
edition_asks_none net edition newest links (entry ∷ other ∷ more) is = absurd is

plan_asks_none : (net : Net) (entries : List Entry) → PlansOnce net entries → AskNone entries
plan_asks_none net entries is =
    subst AskNone (sym is.all) (subst AsksNone (sym is.call) tt, edition_asks_none net is.edition is.newest is.links is.others is.planned)

plans_ask_none : (net : Net) (parts : List (List Entry)) → All (PlansOnce net) parts → AskNone (flat_map (λ (part : List Entry). part) parts)
plans_ask_none net [] all = tt
plans_ask_none net (part ∷ parts) all =
    AskNone-append part (flat_map (λ (part : List Entry). part) parts) (plan_asks_none net part (All-head (PlansOnce net) part parts all))
    (plans_ask_none net parts (All-tail (PlansOnce net) part parts all))

asked_head : (b : Bool) (first : Entry) (rest : List Entry) → b ≡ true → AskNone (if b then first ∷ rest else rest) → AsksNone first.call
asked_head true first rest is none = none.0
asked_head false first rest is none = absurd (not_both false is refl)

asked_rest : (b : Bool) (first : Entry) (rest : List Entry) → AskNone (if b then first ∷ rest else rest) → AskNone rest
asked_rest true first rest none = none.1
asked_rest false first rest none = none

others_ask_none : (entries : List Entry) → ((caller : ℕ) → (caller == 0) ≡ false → AskNone (calls_of entries caller)) → OthersAskNone entries
others_ask_none [] all = tt
others_ask_none (first ∷ rest) all = (
  λ other. asked_head (first.caller == first.caller) first (calls_of rest first.caller) (eq-eqb first.caller first.caller refl) (all first.caller other),
  others_ask_none rest (λ caller other. asked_rest (first.caller == caller) first (calls_of rest caller) (all caller other)),
)

-- in a round none but the centre asks for an order
pub round_asks_none : (net : Net) (desks : List (ℕ × List DeskLine)) (plans : ℕ) (entries : List Entry)
    → ((caller : ℕ) → 1 < caller → map (λ (entry : Entry). entry.call) (calls_of entries caller) ≡ asked_by caller desks)
    → PlaysPlans net plans (calls_of entries 1) → OthersAskNone entries
round_asks_none net desks plans entries by_desks by_planner = others_ask_none entries by
  where
    by : (caller : ℕ) → (caller == 0) ≡ false → AskNone (calls_of entries caller)
    by zero other = absurd (not_both true refl other)
    by (suc zero) other = subst AskNone (sym by_planner.whole) (plans_ask_none net by_planner.parts by_planner.each)
    by (suc (suc n)) other =
        entries_ask_none (calls_of entries (suc (suc n)))
        (subst CallsAskNone (sym (by_desks (suc (suc n)) (omega arith))) (desks_ask_none (suc (suc n)) desks))
