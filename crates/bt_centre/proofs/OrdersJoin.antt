-- The orders of the world along a run, and which of them joins at a restart.
use Rattle.std.proofs.Common.{◌≡◌, ◌⊎◌, ℕ, Bool, true, false, List, [], ◌∷◌, ◌++◌, length, get_or, reverse, Option, Some, None, refl, sym, ap, ◌∙◌, subst, append_assoc, arith, inl, inr}
use Rattle.std.specs.Option.{is_some}
use Rattle.std.specs.List.{cons_option}
use Rattle.std.proofs.Math.Seq.{get_or-append_seam}
use Rattle.std.proofs.lemmas.List.{append-nil, length-append, length-reverse, reverse-append}
use Rattle.std.proofs.lemmas.List.Elements.{filter_map-append}
use Rattle.bt_net.specs.Network.{Net}
use Rattle.bt_script.specs.declared.sites.Sites.{Sites}
use Rattle.bt_script.specs.declared.sites.Sites.TheVariants.{Together, Apart}
use Rattle.bt_script.specs.declared.heard.BusLine.{BusLine}
use Rattle.bt_air.specs.declared.event.Event.{Event}
use Rattle.bt_air.specs.declared.order.Order.{Order}
use Rattle.bt_machines.specs.CentreSteps.{with_wanted}
use Rattle.bt_journal.specs.declared.call.Change.{Change}
use Rattle.bt_journal.specs.declared.entry.Entry.{Entry}
use Rattle.bt_journal.specs.Journal.{calls_of, changes_of, is_made}
use Rattle.bt_history.specs.Changes.{order_in, orders}
use Rattle.bt_history.specs.Machine.{running}
use Rattle.bt_history.specs.Store.{IsNextOpening, is_lost, lost_of}
use Rattle.bt_script.specs.declared.script.Item.{Item}
use Rattle.bt_script.specs.declared.script.Item.TheVariants as item
use Rattle.bt_script.specs.declared.script.Round.{Round}
use Rattle.bt_round.specs.AirLines.{hearing, orders_in, restarting, wanted_in}
use Rattle.bt_centre.specs.declared.history.History.{History}
use Rattle.bt_centre.specs.Joining.{HasOrders, JoinsAsTold, JoinsNone, JoinsOne, JoinsWanted, PartHasOrders, RestartJoins}
use Rattle.bt_report.specs.Output.{Output}
use Rattle.bt_centre.specs.Parts.{EachPart, EachPartAtEnd, EachPartOfRun, EachPartOfSession}
use Rattle.bt_centre.specs.Session.{SessionEndsFrom}
use Rattle.bt_centre.specs.Talked.{Talked}
use Rattle.bt_centre.specs.Run.{AreLegalTimes, AreTimes, EndsFrom, IsJoining, IsRun, JoinsOrder, PlaysItem, PlaysItems, PlaysRestart, PlaysRound, Stand, at_start, changes_at, histories_at}
use Rattle.bt_report.specs.Stored.{Stored}
use Rattle.bt_centre.proofs.Joins.{some_same}
use Rattle.bt_centre.proofs.Orderly.{AreOrderly, AreOrderly-calls, AreOrderly-first, AreOrderly-second, MakesNone-calls, no_order, none_behind_lost, not_both, one_order, orderly_steps, orders_lost, orders_made, round_asks_none, with_append, with_centre}
use Rattle.bt_centre.proofs.OrdersPlayed.{Keeps, keeps_lines, restart_joins, restart_leaves, stays_bus}

-- the orders of more changes stand behind the others
orders-append : (a b : List Change) → orders (a ++ b) ≡ orders a ++ orders b
orders-append a b = filter_map-append order_in a b

-- the order that was wanted joined
joined_one : (before after : Stand) (joining : IsJoining before.air after.opening) → after.air ≡ restarting before.air true (reverse (orders after.opening)) → JoinsOne before joining.order after
joined_one before after joining is =
    ap orders_in is ∙ restart_joins before.air (reverse (orders after.opening)) ∙ ap (λ (w : Option Order). with_wanted w (orders_in before.air)) joining.asked

-- none did
joined_none : (before after : Stand) → after.air ≡ restarting before.air false (reverse (orders after.opening)) → JoinsNone before after
joined_none before after is = ap orders_in is ∙ restart_leaves before.air (reverse (orders after.opening))

joins_wanted_if : (before after : Stand) (kept : Bool) → JoinsOrder before.air after.opening kept → after.air ≡ restarting before.air kept (reverse (orders after.opening)) → JoinsWanted before after
joins_wanted_if before after true joins is = inl (joins, joined_one before after joins is)
joins_wanted_if before after false joins is = inr (joins, joined_none before after is)

-- what a restart says of the order that joins
pub joins_wanted_at : (net : Net) (tells : Bool) (before after : Stand) (text : List ℕ) → PlaysRestart net tells before text after → JoinsWanted before after
joins_wanted_at net tells before after text played = joins_wanted_if before after played.kept played.joins played.air

-- A run stands here: the world has just the orders of the changes, and an order that the store lost in the present time is wanted.
pub record IsHeld (stand : Stand) : Type 0 where
  pub has : HasOrders stand
  pub lost : (order : Order) → orders_lost stand.history ≡ order ∷ [] → wanted_in stand.air ≡ Some order

opens_orders : (opening : List Change) → reverse (orders opening) ≡ reverse (orders (opening ++ []))
opens_orders opening = sym (ap (λ (c : List Change). reverse (orders c)) (append-nil opening))

-- at the start of a run
pub start_has : (net : Net) (sites : Sites) (opening : List Change) → HasOrders (at_start net sites opening)
start_has net Together opening = opens_orders opening
start_has net Apart opening = opens_orders opening

start_held : (net : Net) (sites : Sites) (opening : List Change) → IsHeld (at_start net sites opening)
start_held net sites opening = record { has = start_has net sites opening; lost = λ order is. absurd (no_order [] order refl is) }

-- the entries of all callers do to the orders what those of the centre do
round_keeps : (net : Net) (before : Stand) (round : Round) (text : List ℕ) (after : Stand) (played : PlaysRound net before round text after) → AreOrderly played.entries
    → Keeps played.entries before.air after.air
round_keeps net before round text after played so =
    let entries = played.entries in
    let own = calls_of entries 0 in
    let none = round_asks_none net round.desks round.plans entries played.desks played.planner in
    let keeps = keeps_lines net before.air round.air own played.air_text after.air (AreOrderly-calls entries 0 so) played.centre in
    record {
      join = keeps.join ∙ sym (ap (λ (l : List Order). reverse l ++ orders_in before.air) (with_centre is_made entries none));
      lost = λ order is. keeps.lost order (sym (with_centre is_lost entries none) ∙ is);
      still = λ nothing order is. keeps.still (MakesNone-calls entries 0 nothing) order is;
    }

-- the changes behind a round
round_changes : (net : Net) (before : Stand) (round : Round) (text : List ℕ) (after : Stand) (played : PlaysRound net before round text after)
    → orders (changes_at after) ≡ orders (changes_at before) ++ orders_made played.entries
round_changes net before round text after played =
    ap (λ (c : List Change). orders (c ++ changes_of after.history)) played.opening
    ∙ ap (λ (h : List Entry). orders (before.opening ++ changes_of h)) played.kept
    ∙ orders-append before.opening (changes_of (before.history ++ played.entries))
    ∙ ap (λ (l : List Order). orders before.opening ++ l) (with_append is_made before.history played.entries)
    ∙ sym (append_assoc (orders before.opening) (orders_made before.history) (orders_made played.entries))
    ∙ ap (λ (l : List Order). l ++ orders_made played.entries) (sym (orders-append before.opening (changes_of before.history)))

-- an order that was lost by the end of a round is wanted then
round_wants : (before after : Stand) (entries : List Entry) (order : Order) → AreOrderly (before.history ++ entries) → Keeps entries before.air after.air → IsHeld before
    → ((orders_lost before.history ≡ []) × (orders_lost entries ≡ order ∷ [])) ⊎ (orders_lost before.history ≡ order ∷ []) → wanted_in after.air ≡ Some order
round_wants before after entries order so keeps held (inl now) = keeps.lost order now.1
round_wants before after entries order so keeps held (inr earlier) = keeps.still (none_behind_lost before.history entries order so earlier) order (held.lost order earlier)

-- a round more
round_held : (net : Net) (before : Stand) (round : Round) (text : List ℕ) (after : Stand) → PlaysRound net before round text after → AreOrderly after.history → IsHeld before → IsHeld after
round_held net before round text after played so held =
    let entries = played.entries in
    let all = subst AreOrderly played.kept so in
    let keeps = round_keeps net before round text after played (AreOrderly-second before.history entries all) in
    record {
      has = keeps.join ∙ ap (λ (l : List Order). reverse (orders_made entries) ++ l) held.has
          ∙ sym (reverse-append (orders (changes_at before)) (orders_made entries))
          ∙ sym (ap reverse (round_changes net before round text after played));
      lost = λ order is.
          round_wants before after entries order all keeps held
          (one_order (orders_lost before.history) (orders_lost entries) order (sym (ap orders_lost played.kept ∙ with_append is_lost before.history entries) ∙ is));
    }

-- the changes with which a time began are those of its stand, while it has no entries
pub begun_changes : (after : Stand) → after.history ≡ [] → changes_at after ≡ after.opening
begun_changes after none = ap (λ (h : List Entry). after.opening ++ changes_of h) none ∙ append-nil after.opening

-- what a restart leaves, and which order joined
record IsJoined (before after : Stand) : Type 0 where
  pub held : IsHeld after
  pub joined : JoinsAsTold before after

new_held : (after : Stand) → after.history ≡ [] → orders_in after.air ≡ reverse (orders after.opening) → IsHeld after
new_held after none is = record {
  has = is ∙ sym (ap (λ (c : List Change). reverse (orders c)) (begun_changes after none));
  lost = λ order lost. absurd (no_order [] order refl (sym (ap orders_lost none) ∙ lost));
}

-- the changes have the orders of the world, and no more
restart_none : (before after : Stand) → after.history ≡ [] → orders after.opening ≡ orders (changes_at before) → IsHeld before → JoinsWanted before after → IsJoined before after
restart_none before after none is held (inl joins) =
    let joining = joins.0 in
    absurd (omega (arith, joining.more, ap length is, ap length held.has, length-reverse (orders (changes_at before))))
restart_none before after none is held (inr leaves) = record {
  held = new_held after none (leaves.1 ∙ held.has ∙ ap reverse (sym is));
  joined = inr (λ more. absurd (omega (arith, more, ap length is, ap length held.has, length-reverse (orders (changes_at before)))), leaves.1);
}

-- they have one more, which was wanted
restart_one : (before after : Stand) (order : Order) → after.history ≡ [] → orders after.opening ≡ orders (changes_at before) ++ order ∷ [] → wanted_in before.air ≡ Some order
    → IsHeld before → JoinsWanted before after → IsJoined before after
restart_one before after order none is want held (inl joins) =
    let joining = joins.0 in
    let same : joining.order ≡ order = some_same (sym joining.asked ∙ want) in
    let joined : orders_in after.air ≡ order ∷ orders_in before.air = joins.1 ∙ ap (λ (o : Order). o ∷ orders_in before.air) same in
    record {
      held = new_held after none (joined ∙ ap (λ (l : List Order). order ∷ l) held.has
          ∙ sym (ap reverse is ∙ reverse-append (orders (changes_at before)) (order ∷ [])));
      joined = inl (omega (arith, joining.more), (order, (orders (changes_at before), is), joined));
    }
restart_one before after order none is want held (inr leaves) =
    let all : length (orders_in before.air) ≡ length (orders (changes_at before)) = ap length held.has ∙ length-reverse (orders (changes_at before)) in
    let last : (d : Order) → get_or (orders after.opening) (length (orders_in before.air)) d ≡ order = λ d.
    ap (λ (l : List Order). get_or l (length (orders_in before.air)) d) is
    ∙ ap (λ (n : ℕ). get_or (orders (changes_at before) ++ order ∷ []) n d) all
    ∙ get_or-append_seam (orders (changes_at before)) order [] d in
    absurd (leaves.0 (record {
      order = order;
      asked = want;
      more = ap length is ∙ omega (arith, all, length-append (orders (changes_at before)) (order ∷ []));
      last = last;
    }))

one_order_in : (one : Change) (o : Option Order) → order_in one ≡ o → orders (one ∷ []) ≡ cons_option o []
one_order_in one o is = ap (λ (p : Option Order). cons_option p []) is

-- by the change that the store lost
restart_lost : (before after : Stand) (one : Change) (o : Option Order) → order_in one ≡ o → lost_of before.history ≡ one ∷ [] → after.history ≡ []
    → after.opening ≡ changes_at before ++ one ∷ [] → IsHeld before → JoinsWanted before after → IsJoined before after
restart_lost before after one None is lost none next held joins =
    restart_none before after none
    (ap orders next ∙ orders-append (changes_at before) (one ∷ []) ∙ ap (λ (l : List Order). orders (changes_at before) ++ l) (one_order_in one None is)
    ∙ append-nil (orders (changes_at before))) held joins
restart_lost before after one (Some order) is lost none next held joins =
    restart_one before after order none
    (ap orders next ∙ orders-append (changes_at before) (one ∷ []) ∙ ap (λ (l : List Order). orders (changes_at before) ++ l) (one_order_in one (Some order) is))
    (held.lost order (ap orders lost ∙ one_order_in one (Some order) is)) held joins

restart_by : (before after : Stand) → after.history ≡ [] → IsNextOpening (changes_at before) (lost_of before.history) after.opening → IsHeld before → JoinsWanted before after → IsJoined before after
restart_by before after none (inl same) held joins = restart_none before after none (ap orders same) held joins
restart_by before after none (inr (one, lost, next)) held joins = restart_lost before after one (order_in one) refl lost none next held joins

-- a restart more, over a store that tells its bytes
restart_held : (net : Net) (before after : Stand) (text : List ℕ) → PlaysRestart net true before text after → IsHeld before → IsJoined before after
restart_held net before after text played held = restart_by before after played.none played.next held (joins_wanted_at net true before after text played)

-- a line of the bus more
heard_held : (before : Stand) (line : BusLine) → IsHeld before → IsHeld (record before { air = hearing before.air line })
heard_held before line held =
    let stays = stays_bus before.air line in
    record { has = stays.same ∙ held.has; lost = λ order is. stays.wants ∙ held.lost order is }

-- the histories are orderly
abbrev AreAllOrderly : List History → Type 0
AreAllOrderly [] = Unit {0}
AreAllOrderly (first ∷ rest) = AreOrderly first.entries × AreAllOrderly rest

AreAllOrderly-append : (a b : List History) → AreAllOrderly a → AreAllOrderly b → AreAllOrderly (a ++ b)
AreAllOrderly-append [] b first second = second
AreAllOrderly-append (one ∷ a) b first second = (first.0, AreAllOrderly-append a b first.1 second)

AreAllOrderly-first : (a b : List History) → AreAllOrderly (a ++ b) → AreAllOrderly a
AreAllOrderly-first [] b so = tt
AreAllOrderly-first (one ∷ a) b so = (so.0, AreAllOrderly-first a b so.1)

AreAllOrderly-second : (a b : List History) → AreAllOrderly (a ++ b) → AreAllOrderly b
AreAllOrderly-second [] b so = so
AreAllOrderly-second (one ∷ a) b so = AreAllOrderly-second a b so.1

times_orderly : (net : Net) (tells : Bool) (opening : List Change) (histories : List History) (last : List Change) → AreTimes net tells opening histories last → AreAllOrderly histories
times_orderly net tells opening [] last is = tt
times_orderly net tells opening (history ∷ histories) last (own, (next, begins, more)) =
    (orderly_steps net (running opening) history.entries own.legal, times_orderly net tells next histories last more)

legal_orderly : (net : Net) (tells : Bool) (first last : List Change) (histories : List History) → AreLegalTimes net tells first last histories → AreAllOrderly histories
legal_orderly net tells first last histories is =
    subst AreAllOrderly (sym is.all)
    (AreAllOrderly-append is.over (is.present ∷ []) (times_orderly net tells first is.over last is.times) (orderly_steps net (running last) is.present.entries is.legal.legal, tt))

-- the histories before a part are so where those behind it are
orderly_before : (net : Net) (tells : Bool) (before : Stand) (one : Item) (text : List ℕ) (after : Stand) → PlaysItem net tells before one text after
    → AreAllOrderly (histories_at after) → AreAllOrderly (histories_at before)
orderly_before net tells before (item.Round round) text after played so =
    let over = AreAllOrderly-first after.over _ so in
    let present = (AreAllOrderly-second after.over _ so).0 in
    AreAllOrderly-append before.over _ (subst AreAllOrderly played.over over)
    (AreOrderly-first before.history played.entries (subst AreOrderly played.kept present), tt)
orderly_before net tells before item.Restart text after played so = subst AreAllOrderly played.over (AreAllOrderly-first after.over _ so)
orderly_before net tells before (item.Heard line) text after played so = subst (λ (s : Stand). AreAllOrderly (histories_at s)) played.1 so

orderly_from : (net : Net) (tells : Bool) (before : Stand) (items : List Item) (text : List ℕ) (after : Stand) → PlaysItems net tells before items text after
    → AreAllOrderly (histories_at after) → AreAllOrderly (histories_at before)
orderly_from net tells before [] text after (nothing, is) so = subst (λ (s : Stand). AreAllOrderly (histories_at s)) is so
orderly_from net tells before (first ∷ items) text after (between, own, others, one, more, text_is) so =
    orderly_before net tells before first own between one (orderly_from net tells between items others after more so)

-- what holds of a part
record IsGone (net : Net) (before : Stand) (one : Item) (text : List ℕ) (after : Stand) (played : PlaysItem net true before one text after) : Type 0 where
  pub held : IsHeld after
  pub joins : RestartJoins net true before one text after played

part_goes : (net : Net) (before : Stand) (one : Item) (text : List ℕ) (after : Stand) (played : PlaysItem net true before one text after) → AreAllOrderly (histories_at after)
    → IsHeld before → IsGone net before one text after played
part_goes net before (item.Round round) text after played so held =
    record { held = round_held net before round text after played (AreAllOrderly-second after.over _ so).0 held; joins = tt }
part_goes net before item.Restart text after played so held =
    let joined = restart_held net before after text played held in
    record { held = joined.held; joins = joined.joined }
part_goes net before (item.Heard line) text after played so held =
    record { held = subst IsHeld (sym played.1) (heard_held before line held); joins = tt }

parts_join : (net : Net) (before : Stand) (items : List Item) (text : List ℕ) (after : Stand) (played : PlaysItems net true before items text after)
    → AreAllOrderly (histories_at after) → IsHeld before → EachPart RestartJoins net true before items text after played
parts_join net before [] text after played so held = tt
parts_join net before (first ∷ items) text after (between, own, others, one, more, text_is) so held =
    let part = part_goes net before first own between one (orderly_from net true between items others after more so) held in
    (part.joins, parts_join net between items others after more so part.held)

parts_have : (net : Net) (before : Stand) (items : List Item) (text : List ℕ) (after : Stand) (played : PlaysItems net true before items text after)
    → AreAllOrderly (histories_at after) → IsHeld before → EachPart PartHasOrders net true before items text after played
parts_have net before [] text after played so held = tt
parts_have net before (first ∷ items) text after (between, own, others, one, more, text_is) so held =
    let part = part_goes net before first own between one (orderly_from net true between items others after more so) held in
    ((held.has, part.held.has), parts_have net between items others after more so part.held)

run_joins : (net : Net) (sites : Sites) (tells : Bool) (opening : List Change) (items : List Item) (histories : List History) (events : List Event) (lines : List ℕ) → tells ≡ true
    → (run : IsRun net sites tells opening items histories events lines) → EachPartOfRun RestartJoins net sites tells opening items histories events lines run
run_joins net sites true opening items histories events lines is run =
    parts_join net (at_start net sites opening) items lines run.end run.played
    (subst AreAllOrderly run.history (legal_orderly net true opening run.end.opening histories run.legal)) (start_held net sites opening)
run_joins net sites false opening items histories events lines is run = absurd (not_both false is refl)

run_has : (net : Net) (sites : Sites) (tells : Bool) (opening : List Change) (items : List Item) (histories : List History) (events : List Event) (lines : List ℕ) → tells ≡ true
    → (run : IsRun net sites tells opening items histories events lines) → EachPartOfRun PartHasOrders net sites tells opening items histories events lines run
run_has net sites true opening items histories events lines is run =
    parts_have net (at_start net sites opening) items lines run.end run.played
    (subst AreAllOrderly run.history (legal_orderly net true opening run.end.opening histories run.legal)) (start_held net sites opening)
run_has net sites false opening items histories events lines is run = absurd (not_both false is refl)

-- at each restart an order joins as it is told
pub end_joins : (net : Net) (items : List Item) (output : Output) (stored : Stored) (opening : List Change) (status : ℕ) (histories : List History) (events : List Event)
    → is_some stored.before ≡ true → (ends : EndsFrom net items output stored opening status histories events) → EachPartAtEnd RestartJoins net items output stored opening status histories events ends
end_joins net items output stored opening status histories events tells (inl breaks) = tt
end_joins net items output stored opening status histories events tells (inr (inl whole)) =
    run_joins net Together (is_some stored.before) opening items histories events whole.lines tells whole.run
end_joins net items output stored opening status histories events tells (inr (inr (inl partly))) =
    run_joins net Together (is_some stored.before) opening partly.first histories events partly.lines tells partly.run
end_joins net items output stored opening status histories events tells (inr (inr (inr until))) =
    run_joins net Together (is_some stored.before) opening until.first histories events until.lines tells until.run

-- before and behind each part the world has just the orders of the changes
pub end_has : (net : Net) (items : List Item) (output : Output) (stored : Stored) (opening : List Change) (status : ℕ) (histories : List History) (events : List Event)
    → is_some stored.before ≡ true → (ends : EndsFrom net items output stored opening status histories events) → EachPartAtEnd PartHasOrders net items output stored opening status histories events ends
end_has net items output stored opening status histories events tells (inl breaks) = tt
end_has net items output stored opening status histories events tells (inr (inl whole)) =
    run_has net Together (is_some stored.before) opening items histories events whole.lines tells whole.run
end_has net items output stored opening status histories events tells (inr (inr (inl partly))) =
    run_has net Together (is_some stored.before) opening partly.first histories events partly.lines tells partly.run
end_has net items output stored opening status histories events tells (inr (inr (inr until))) =
    run_has net Together (is_some stored.before) opening until.first histories events until.lines tells until.run

-- so it is in a session
pub session_joins : (net : Net) (sites : Sites) (talk : Talked) (stored : Stored) (opening : List Change) (status : ℕ) (histories : List History) (events : List Event) → is_some stored.before ≡ true
    → (ends : SessionEndsFrom net sites talk stored opening status histories events) → EachPartOfSession RestartJoins net sites talk stored opening status histories events ends
session_joins net sites talk stored opening status histories events tells (inl breaks) = tt
session_joins net sites talk stored opening status histories events tells (inr (inl whole)) =
    run_joins net sites (is_some stored.before) opening whole.session.parts histories events whole.session.lines tells whole.session.run
session_joins net sites talk stored opening status histories events tells (inr (inr (inl unsaid))) =
    run_joins net sites (is_some stored.before) opening unsaid.session.parts histories events unsaid.session.lines tells unsaid.session.run
session_joins net sites talk stored opening status histories events tells (inr (inr (inr until))) =
    run_joins net sites (is_some stored.before) opening until.session.parts histories events until.session.lines tells until.session.run

-- and in a session it has them too
pub session_has : (net : Net) (sites : Sites) (talk : Talked) (stored : Stored) (opening : List Change) (status : ℕ) (histories : List History) (events : List Event) → is_some stored.before ≡ true
    → (ends : SessionEndsFrom net sites talk stored opening status histories events) → EachPartOfSession PartHasOrders net sites talk stored opening status histories events ends
session_has net sites talk stored opening status histories events tells (inl breaks) = tt
session_has net sites talk stored opening status histories events tells (inr (inl whole)) =
    run_has net sites (is_some stored.before) opening whole.session.parts histories events whole.session.lines tells whole.session.run
session_has net sites talk stored opening status histories events tells (inr (inr (inl unsaid))) =
    run_has net sites (is_some stored.before) opening unsaid.session.parts histories events unsaid.session.lines tells unsaid.session.run
session_has net sites talk stored opening status histories events tells (inr (inr (inr until))) =
    run_has net sites (is_some stored.before) opening until.session.parts histories events until.session.lines tells until.session.run
