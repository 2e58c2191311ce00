-- A round that is over: what each worker did, put together, and what the line of the book has made of its history.
use Rattle.std.proofs.Common.{◌≡◌, ◌≢◌, ◌⊎◌, inl, inr, ℕ, zero, suc, ◌+◌, ◌-◌, ◌<◌, ◌≤◌, List, [], ◌∷◌, ◌++◌, length, get_or, map, All, AllPairs, Ok, refl, sym, ap, ◌∙◌, subst, append_assoc, ⊎_elim, arith}
use Rattle.std.specs.List.{flat_map}
use Rattle.std.proofs.lemmas.Bool.{cases_eq}
use Rattle.std.proofs.lemmas.List.{get_or-map, map-append}
use Rattle.std.proofs.lemmas.List.Elements.{All-head, All-tail}
use Rattle.bt_net.specs.Network.{Net}
use Rattle.bt_demand.specs.declared.plan.Plan.{Plan}
use Rattle.bt_shared.specs.declared.object.TurnEntry as line
use Rattle.bt_journal.specs.declared.call.Call.{Call}
use Rattle.bt_journal.specs.declared.call.Change.{Change}
use Rattle.bt_journal.specs.declared.entry.Entry.{Entry}
use Rattle.bt_journal.specs.declared.reply.Reply.{Reply}
use Rattle.bt_journal.specs.Journal.{calls_of, changes_of}
use Rattle.bt_history.specs.Book.{Books, journal_entry, lock_entry}
use Rattle.bt_history.specs.Machine.{State, state_from}
use Rattle.bt_history.specs.Causes.{Follows}
use Rattle.bt_shared.specs.Posted.{Posted}
use Rattle.bt_history.specs.Changes.{installs, newest}
use Rattle.bt_script.specs.declared.script.DeskLine.{DeskLine}
use Rattle.bt_script.specs.declared.script.Round.{Round}
use Rattle.bt_script.specs.Desks.{AreDesks}
use Rattle.bt_round.specs.declared.seats.TheConstants.{SEATS}
use Rattle.bt_round.specs.AirLines.{AirState, PlaysAirLines}
use Rattle.bt_round.specs.Desks.{Sight, asked_by, desk_text, desks_text, shown_by_line, shown_to}
use Rattle.bt_round.specs.Planning.{PlaysPlans, planner_text}
use Rattle.bt_round.specs.Lent.{IsNoNewer}
use Rattle.bt_round.specs.Boards.{IsShownBetween}
use Rattle.bt_round.specs.Rounds.{RoundDone}
use Rattle.bt_round.specs.Seats.{AllDone, lines_of, text_at}
use Rattle.bt_round.proofs.Lent.{installs-append}
use Rattle.bt_round.proofs.Boards.{lent_between}
use Rattle.bt_round.proofs.DeskLines.{call_in}
use Rattle.bt_round.proofs.DeskSeats.{Desk, all_seen, asked_by_desk, none_asked, own_lines, seen_in, shown_as_often, shown_to_each, sights_ascend}
use Rattle.bt_round.proofs.Posting.{air_installs_none, desks_install_none, installed_by, none_installed, one_installs, plan_asked}
use Rattle.bt_round.proofs.Seating.{DeskIsDone, centre_done, desk_done, planner_done}

same_flat : {A B : Type 0} (f g : A → List B) (xs : List A) → All (λ (x : A). f x ≡ g x) xs → flat_map f xs ≡ flat_map g xs
same_flat f g [] all = refl
same_flat {A} {B} f g (x ∷ xs) all =
    ap (λ (e : List B). e ++ flat_map f xs) (All-head (λ (y : A). f y ≡ g y) x xs all) ∙ ap (λ (e : List B). g x ++ e) (same_flat f g xs (All-tail (λ (y : A). f y ≡ g y) x xs all))

pub below_or_past : (a b : ℕ) → (a < b) ⊎ (b ≤ a)
below_or_past a zero = inr (omega arith)
below_or_past a (suc b) = ⊎_elim
    (λ (less : a < b). inl (omega (arith, less)))
    (λ (most : b ≤ a). ⊎_elim (λ (same : a ≡ b). inl (omega (arith, same))) (λ (differ : a ≡ b → ⊥). inr (omega (arith, most, differ))) (cases_eq a b))
    (below_or_past a b)

-- a value where the first is below the second, and a default where it is not
from_below : {X : Type 0} (a b : ℕ) → X → (a < b → X) → X
from_below a b default value = ⊎_elim value (λ (past : b ≤ a). default) (below_or_past a b)

from_cases : {X : Type 0} (P : X → Type 0) (a b : ℕ) (default : X) (value : a < b → X) → a < b → ((less : a < b) → P (value less)) → (c : (a < b) ⊎ (b ≤ a))
    → P (⊎_elim value (λ (past : b ≤ a). default) c)
from_cases P a b default value less holds (inl below) = holds below
from_cases P a b default value less holds (inr past) = absurd (omega (arith, less, past))

holds_below : {X : Type 0} (P : X → Type 0) (a b : ℕ) (default : X) (value : a < b → X) → a < b → ((less : a < b) → P (value less)) → P (from_below a b default value)
unfolding from_below
holds_below P a b default value less holds = from_cases P a b default value less holds (below_or_past a b)

-- the desk of that number did its lines
desk_at : (net : Net) (round : Round) (posted last : Posted) (air over : AirState) (entries : List Entry) (texts : List (List ℕ)) (number : ℕ) → AllDone net round posted last air over entries texts
    → 1 ≤ number → number + 1 < SEATS → DeskIsDone net round posted last number (calls_of entries (number + 1)) (text_at (number + 1) texts)
desk_at net round posted last air over entries texts number all from_one within =
    let place = all.each (number + 1) within in
    desk_done net round posted last air number place.0 (calls_of entries (number + 1)) (text_at (number + 1) texts) from_one place.1 place.2

-- the plans that the desk of that number was shown
shown_at : (net : Net) (round : Round) (posted last : Posted) (air over : AirState) (entries : List Entry) (texts : List (List ℕ)) → AllDone net round posted last air over entries texts → ℕ → List Plan
shown_at net round posted last air over entries texts all number =
    from_below 0 number [] (λ (from_one : 0 < number). from_below (number + 1) SEATS [] (λ (within : number + 1 < SEATS).
    (desk_at net round posted last air over entries texts number all (omega (arith, from_one)) within).lines.shown))

-- a desk did its lines, and was shown these plans
record IsShown (net : Net) (round : Round) (posted last : Posted) (entries : List Entry) (texts : List (List ℕ)) (number : ℕ) (shown : List Plan) : Type 0 where
  done : DeskIsDone net round posted last number (calls_of entries (number + 1)) (text_at (number + 1) texts)
  same : done.lines.shown ≡ shown

desk_shown_at : (net : Net) (round : Round) (posted last : Posted) (air over : AirState) (entries : List Entry) (texts : List (List ℕ)) (number : ℕ) → (all : AllDone net round posted last air over entries texts)
    → 1 ≤ number → number + 1 < SEATS → IsShown net round posted last entries texts number (shown_at net round posted last air over entries texts all number)
unfolding shown_at
desk_shown_at net round posted last air over entries texts number all from_one within =
    let P : List Plan → Type 0 = IsShown net round posted last entries texts number in
    holds_below P 0 number [] _ (omega (arith, from_one)) (λ some.
    holds_below P (number + 1) SEATS [] _ within (λ less.
    record { done = desk_at net round posted last air over entries texts number all (omega (arith, some)) less; same = refl }))

-- each desk asked what its lines ask
desk_asks : (net : Net) (round : Round) (posted last : Posted) (air over : AirState) (entries : List Entry) (texts : List (List ℕ)) (number : ℕ) → AreDesks round.desks → 1 ≤ number
    → AllDone net round posted last air over entries texts → map call_in (calls_of entries (number + 1)) ≡ asked_by (number + 1) round.desks
desk_asks net round posted last air over entries texts number desks from_one all = ⊎_elim
    (λ (within : number + 1 < SEATS).
    let one = (desk_at net round posted last air over entries texts number all from_one within).lines in
    ap (map call_in) one.kept ∙ one.calls ∙ asked_by_desk number round.desks desks.ascend)
    (λ (past : SEATS ≤ number + 1).
    ap (map call_in) (all.strangers (number + 1) past)
    ∙ sym (none_asked number round.desks (λ k d inside. λ same. absurd (omega (arith, same, past, (desks.numbered k d inside).1)))))
    (below_or_past (number + 1) SEATS)

-- the text of each desk is that of its lines
desk_prints : (net : Net) (round : Round) (posted last : Posted) (air over : AirState) (entries : List Entry) (texts : List (List ℕ)) → AreDesks round.desks
    → (all : AllDone net round posted last air over entries texts)
    → flat_map (λ (desk : Desk). text_at (desk.0 + 1) texts) round.desks
    ≡ desks_text net round.desks entries (seen_in (shown_at net round posted last air over entries texts all) round.desks)
desk_prints net round posted last air over entries texts desks all =
    let seen = shown_at net round posted last air over entries texts all in
    let sights = seen_in seen round.desks in
    same_flat (λ (desk : Desk). text_at (desk.0 + 1) texts)
    (λ (desk : Desk). desk_text net desk.0 desk.1 (calls_of entries (desk.0 + 1)) (shown_to desk.0 sights)) round.desks
    (λ k d inside.
    let desk = get_or round.desks k d in
    let range = desks.numbered k d inside in
    let there = desk_shown_at net round posted last air over entries texts desk.0 all range.0 (omega (arith, range.1)) in
    let one = there.done.lines in
    let lines : lines_of desk.0 round.desks ≡ desk.1 = own_lines round.desks desks.ascend k d inside in
    let shown : one.shown ≡ shown_to desk.0 sights = there.same ∙ sym (shown_to_each seen round.desks desks.ascend k d inside) in
    one.printed
    ∙ ap (λ (l : List DeskLine). desk_text net desk.0 l one.own one.shown) lines
    ∙ ap (λ (e : List Entry). desk_text net desk.0 desk.1 e one.shown) (sym one.kept)
    ∙ ap (λ (p : List Plan). desk_text net desk.0 desk.1 (calls_of entries (desk.0 + 1)) p) shown)

-- nobody but the planner installs a plan
others_install_none : (net : Net) (round : Round) (posted last : Posted) (air over : AirState) (entries : List Entry) (texts : List (List ℕ)) → AllDone net round posted last air over entries texts
    → (caller : ℕ) → caller ≢ 1 → installed_by (calls_of entries caller) ≡ []
others_install_none net round posted last air over entries texts all caller differ = ⊎_elim
    (λ (first : caller ≡ 0).
    let centre = (centre_done net round posted air over all.first.0 (Ok tt) (calls_of entries 0) (text_at 0 texts) all.first.1 all.first.2).1 in
    ap (λ (n : ℕ). installed_by (calls_of entries n)) first
    ∙ ap installed_by centre.kept
    ∙ none_installed centre.entries (air_installs_none net air round.air centre.entries centre.own over centre.played))
    (λ (behind : caller ≢ 0).
    let number : ℕ = caller - 1 in
    let same : number + 1 ≡ caller = omega (arith, behind) in
    ap (λ (n : ℕ). installed_by (calls_of entries n)) (sym same)
    ∙ ⊎_elim
    (λ (within : number + 1 < SEATS).
    let one = (desk_at net round posted last air over entries texts number all (omega (arith, same, behind, differ)) within).lines in
    ap installed_by one.kept ∙ none_installed one.own (ap (flat_map plan_asked) one.calls ∙ desks_install_none (lines_of number round.desks)))
    (λ (past : SEATS ≤ number + 1). ap installed_by (all.strangers (number + 1) past))
    (below_or_past (number + 1) SEATS))
    (cases_eq caller 0)

-- what was posted is, at the end of a round, the newest plan when the board was made, and what was installed since
pub posted_over : (net : Net) (round : Round) (posted last : Posted) (air over : AirState) (entries : List Entry) (texts : List (List ℕ)) (opening since : List Change)
    → AllDone net round posted last air over entries texts → posted.plans ≡ newest opening ∷ installs since → last.plans ≡ newest opening ∷ installs (since ++ changes_of entries)
posted_over net round posted last air over entries texts opening since all first =
    let place = all.each 1 (omega arith) in
    let planner = planner_done net round posted last air place.0 (calls_of entries 1) (text_at 1 texts) place.1 place.2 in
    let own : installed_by planner.own ≡ installs (changes_of entries) =
    ap installed_by (sym planner.kept) ∙ sym (one_installs 1 entries (others_install_none net round posted last air over entries texts all)) in
    planner.posts
    ∙ ap (λ (l : List Plan). l ++ installed_by planner.own) first
    ∙ ap (λ (l : List Plan). newest opening ∷ (installs since ++ l)) own
    ∙ ap (λ (l : List Plan). newest opening ∷ l) (sym (installs-append since (changes_of entries)))

-- the changes of a book at the end of a round: those when its board was made, those since, and those of the round
pub changes_over : (old new : Books) (entries : List Entry) (opening since : List Change) → new.state ≡ state_from old.state entries → old.state.changes ≡ opening ++ since
    → new.state.changes ≡ opening ++ (since ++ changes_of entries)
changes_over old new entries opening since from parts =
    ap (λ (s : State). s.changes) from ∙ ap (λ (c : List Change). c ++ changes_of entries) parts ∙ append_assoc opening since (changes_of entries)

-- a round is over when all of its workers are
pub round_over : (net : Net) (round : Round) (posted last : Posted) (air over : AirState) (entries : List Entry) (texts : List (List ℕ)) (old new : Books) (opening since : List Change)
    (text written : List ℕ) → AreDesks round.desks → AllDone net round posted last air over entries texts → new.history ≡ old.history ++ entries → new.state ≡ state_from old.state entries
    → old.state.changes ≡ opening ++ since → Follows net new.state.changes → posted.plans ≡ newest opening ∷ installs since
    → written ≡ text ++ (flat_map (λ (desk : Desk). text_at (desk.0 + 1) texts) round.desks ++ text_at 1 texts ++ text_at 0 texts)
    → RoundDone net round air over old new text written
round_over net round posted last air over entries texts old new opening since text written desks all kept from parts follows first printed =
    let shown = shown_at net round posted last air over entries texts all in
    let sights = seen_in shown round.desks in
    let later : List Change = opening ++ (since ++ changes_of entries) in
    let later_is : new.state.changes ≡ later = changes_over old new entries opening since from parts in
    let follow : Follows net later = subst (Follows net) later_is follows in
    let place = all.each 1 (omega arith) in
    let planner = planner_done net round posted last air place.0 (calls_of entries 1) (text_at 1 texts) place.1 place.2 in
    let centre = (centre_done net round posted air over all.first.0 (Ok tt) (calls_of entries 0) (text_at 0 texts) all.first.1 all.first.2).1 in
    let then = posted_over net round posted last air over entries texts opening since all first in
    let each : (k : ℕ) (d : Desk) → k < length round.desks → IsShown net round posted last entries texts (get_or round.desks k d).0 (shown (get_or round.desks k d).0) = λ k d inside.
    let range = desks.numbered k d inside in
    desk_shown_at net round posted last air over entries texts (get_or round.desks k d).0 all range.0 (omega (arith, range.1)) in
    record {
      entries = entries;
      sights = sights;
      air_text = centre.own;
      desks = λ caller more.
          let number : ℕ = caller - 1 in
          let same : number + 1 ≡ caller = omega arith in
          subst (λ (n : ℕ). map call_in (calls_of entries n) ≡ asked_by n round.desks) same
          (desk_asks net round posted last air over entries texts number desks (omega arith) all);
      planner = subst (λ (e : List Entry). PlaysPlans net round.plans e) (sym planner.kept) planner.planned;
      centre = subst (λ (e : List Entry). PlaysAirLines net air round.air e centre.own over) (sym centre.kept) centre.played;
      kept = kept;
      seen = subst (λ (c : List Change). All (λ (s : Sight). IsShownBetween c new.state.changes s.plan) sights) (sym parts)
          (subst (λ (c : List Change). All (λ (s : Sight). IsShownBetween (opening ++ since) c s.plan) sights) (sym later_is)
          (all_seen (IsShownBetween (opening ++ since) later) shown round.desks (λ k d inside.
          let there = each k d inside in
          subst (All (IsShownBetween (opening ++ since) later)) there.same (λ j e within.
          lent_between net opening since (changes_of entries) posted.plans there.done.over.plans last.plans _ follow first then there.done.begins (there.done.lines.lent j e within)))));
      shown = λ number. shown_as_often shown number round.desks (λ k d inside.
          let there = each k d inside in
          ap length (sym there.same) ∙ there.done.lines.counted ∙ ap (λ (l : List DeskLine). length (flat_map shown_by_line l)) (own_lines round.desks desks.ascend k d inside));
      ascend = sights_ascend shown round.desks desks.ascend (λ k d inside.
          let there = each k d inside in
          subst (AllPairs IsNoNewer) there.same there.done.lines.ascend);
      printed = printed
          ∙ ap (λ (t : List ℕ). text ++ (t ++ text_at 1 texts ++ text_at 0 texts)) (desk_prints net round posted last air over entries texts desks all)
          ∙ ap (λ (t : List ℕ). text ++ (desks_text net round.desks entries sights ++ t ++ text_at 0 texts)) (planner.printed ∙ ap (planner_text net) (sym planner.kept))
          ∙ ap (λ (t : List ℕ). text ++ (desks_text net round.desks entries sights ++ planner_text net (calls_of entries 1) ++ t)) centre.added;
    }

unlocked : (entries : List Entry) → map journal_entry (map lock_entry entries) ≡ entries
unlocked [] = refl
unlocked (entry ∷ entries) = ap (λ (e : List Entry). entry ∷ e) (unlocked entries)

-- what a line made of the book's history stands behind what it was
pub stored_entries : (history after : List Entry) (log : List (line.TurnEntry Call Reply)) → map lock_entry after ≡ map lock_entry history ++ log → after ≡ history ++ map journal_entry log
stored_entries history after log stored =
    sym (unlocked after) ∙ ap (map journal_entry) stored ∙ map-append journal_entry (map lock_entry history) log ∙ ap (λ (e : List Entry). e ++ map journal_entry log) (unlocked history)

-- the texts of the desks, of the planner and of the air stand one behind the other
pub three_texts : {W : Type 0} (workers : List W) (text : W → List ℕ) (one two : W) (t0 t1 t2 t3 desks : List ℕ) → 1 < length workers → two ≡ get_or workers 1 two → one ≡ get_or workers 0 one
    → t1 ≡ t0 ++ desks → t2 ≡ t1 ++ text two → t3 ≡ t2 ++ text one
    → t3 ≡ t0 ++ (desks ++ text_at 1 (map text workers) ++ text_at 0 (map text workers))
three_texts {W} workers text one two t0 t1 t2 t3 desks within two_is one_is first second third =
    let planner : text two ≡ text_at 1 (map text workers) = ap text two_is ∙ sym (get_or-map text workers 1 two [] within) in
    let centre : text one ≡ text_at 0 (map text workers) = ap text one_is ∙ sym (get_or-map text workers 0 one [] (omega (arith, within))) in
    third ∙ ap (λ (t : List ℕ). t ++ text one) (second ∙ ap (λ (t : List ℕ). t ++ text two) first)
    ∙ ap (λ (t : List ℕ). ((t0 ++ desks) ++ t) ++ text one) planner
    ∙ ap (λ (t : List ℕ). ((t0 ++ desks) ++ text_at 1 (map text workers)) ++ t) centre
    ∙ ap (λ (t : List ℕ). t ++ text_at 0 (map text workers)) (append_assoc t0 desks (text_at 1 (map text workers)))
    ∙ append_assoc t0 (desks ++ text_at 1 (map text workers)) (text_at 0 (map text workers))
