-- What the turns of a run know of the plans that are installed.
use Rattle.std.proofs.Common.{◌≡◌, ℕ, ◌-◌, Bool, true, false, List, [], ◌∷◌, ◌++◌, length, get_or, reverse, refl, sym, ap, ◌∙◌, subst, arith, inl, inr}
use Rattle.std.specs.Option.{is_some}
use Rattle.std.proofs.lemmas.List.{get_or-reverse}
use Rattle.bt_frame.specs.declared.numbers.EditionNo.{EditionNo}
use Rattle.bt_net.specs.Network.{Net}
use Rattle.bt_script.specs.declared.sites.Sites.{Sites}
use Rattle.bt_script.specs.declared.sites.Sites.TheVariants.{Together, Apart}
use Rattle.bt_demand.specs.declared.plan.Plan.{Plan}
use Rattle.bt_demand.specs.Plan.{empty_plan}
use Rattle.bt_air.specs.declared.event.Event.{Event}
use Rattle.bt_machines.specs.Plans.{newest_of}
use Rattle.bt_journal.specs.declared.call.Change.{Change}
use Rattle.bt_journal.specs.Journal.{changes_of}
use Rattle.bt_history.specs.Causes.{Follows}
use Rattle.bt_history.specs.Changes.{newest, orders, plans}
use Rattle.bt_history.specs.Machine.{Legal}
use Rattle.bt_history.specs.Store.{lost_of}
use Rattle.bt_script.specs.declared.script.Item.{Item}
use Rattle.bt_script.specs.declared.script.Item.TheVariants as item
use Rattle.bt_script.specs.declared.script.Round.{Round}
use Rattle.bt_round.specs.AirLines.{newest_in}
use Rattle.bt_round.proofs.Installed.{newest_ascends}
use Rattle.bt_centre.specs.declared.history.History.{History}
use Rattle.bt_report.specs.Output.{Output}
use Rattle.bt_centre.specs.Parts.{EachPart, EachPartAtEnd, EachPartOfRun, EachPartOfSession}
use Rattle.bt_centre.specs.Session.{SessionEndsFrom}
use Rattle.bt_centre.specs.Talked.{Talked}
use Rattle.bt_centre.specs.Run.{AreLegalTimes, EndsFrom, IsRun, PlaysItem, PlaysItems, PlaysRestart, PlaysRound, Stand, at_start, changes_at}
use Rattle.bt_report.specs.Stored.{Stored}
use Rattle.bt_centre.specs.Turns.{IsNewestOf, IsNoNewer, PartIsNoNewer, TurnsKnow}
use Rattle.bt_centre.proofs.Lawful.{IsLawful, lawful_end, lawful_from, next_more}
use Rattle.bt_centre.proofs.Orderly.{not_both}
use Rattle.bt_centre.proofs.OrdersJoin.{begun_changes}
use Rattle.bt_centre.proofs.OrdersPlayed.{restart_newest, stays_bus}
use Rattle.bt_centre.proofs.TurnsPlayed.{round_goes}

first_edition : (all : List Plan) → newest_of all ≡ (get_or all 0 empty_plan).edition
first_edition [] = refl
first_edition (plan ∷ earlier) = refl

less_none : (n : ℕ) → n - 0 ≡ n
less_none n = omega arith

-- the newest plan of the changes stands first
opens_newest : (opening : List Change) → newest_of (reverse (plans opening)) ≡ (newest opening).edition
opens_newest opening =
    let all = plans opening in
    first_edition (reverse all) ∙ ap (λ (plan : Plan). plan.edition) (get_or-reverse all 0 empty_plan (omega arith))
    ∙ ap (λ (n : ℕ). (get_or all n empty_plan).edition) (less_none (length all - 1))

-- an air opens with the newest plan of the changes
pub start_newest : (net : Net) (sites : Sites) (opening : List Change) → IsNewestOf opening (at_start net sites opening).air
start_newest net Together opening = opens_newest opening
start_newest net Apart opening = opens_newest opening

start_no_newer : (net : Net) (sites : Sites) (opening : List Change) → IsNoNewer (changes_at (at_start net sites opening)) (at_start net sites opening).air
start_no_newer net sites opening =
    let stand = at_start net sites opening in
    let is : IsNewestOf opening stand.air = start_newest net sites opening in
    subst (λ (c : List Change). IsNoNewer c stand.air) (sym (begun_changes stand refl)) (omega (arith, ap (λ (e : EditionNo). e.0) is))

-- what holds of a part
record IsKnown (net : Net) (before : Stand) (one : Item) (text : List ℕ) (after : Stand) (played : PlaysItem net true before one text after) : Type 0 where
  pub know : TurnsKnow net true before one text after played
  pub so : IsNoNewer (changes_at after) after.air

-- a round more
round_known : (net : Net) (before : Stand) (round : Round) (text : List ℕ) (after : Stand) (played : PlaysRound net before round text after) → Follows net after.opening
    → Legal net after.opening after.history → IsNoNewer (changes_at before) before.air → IsKnown net before (item.Round round) text after played
round_known net before round text after played follow legal so =
    let entries = played.entries in
    let gone = round_goes net before.opening before.history entries before.air round.air played.air_text after.air played.centre
    (subst (Follows net) played.opening follow)
    (subst (λ (o : List Change). Legal net o (before.history ++ entries)) played.opening (subst (Legal net after.opening) played.kept legal)) so in
    let same : changes_at after ≡ before.opening ++ changes_of (before.history ++ entries) =
    ap (λ (o : List Change). o ++ changes_of after.history) played.opening ∙ ap (λ h. before.opening ++ changes_of h) played.kept in
    record { know = gone.know; so = subst (λ (c : List Change). IsNoNewer c after.air) (sym same) gone.so }

-- a restart more, over a store that tells its bytes
restart_no_newer : (net : Net) (before : Stand) (text : List ℕ) (after : Stand) → PlaysRestart net true before text after → Follows net after.opening
    → IsNoNewer (changes_at before) before.air → IsNoNewer (changes_at after) after.air
restart_no_newer net before text after played follow so =
    let next = next_more (changes_at before) (lost_of before.history) after.opening played.next in
    let up = newest_ascends net (changes_at before) next.0 (subst (Follows net) next.1 follow) in
    let stays : newest_in after.air ≡ newest_in before.air = ap newest_in played.air ∙ restart_newest before.air played.kept (reverse (orders after.opening)) in
    subst (λ (c : List Change). IsNoNewer c after.air) (sym (begun_changes after played.none ∙ next.1)) (omega (arith, so, up, ap (λ (e : EditionNo). e.0) stays))

part_known : (net : Net) (first : List Change) (before : Stand) (one : Item) (text : List ℕ) (after : Stand) (played : PlaysItem net true before one text after) → IsLawful net first after
    → IsNoNewer (changes_at before) before.air → IsKnown net before one text after played
part_known net first before (item.Round round) text after played lawful so = round_known net before round text after played lawful.follow lawful.legal so
part_known net first before item.Restart text after played lawful so = record { know = tt; so = restart_no_newer net before text after played lawful.follow so }
part_known net first before (item.Heard line) text after played lawful so = record {
  know = tt;
  so = subst (λ (s : Stand). IsNoNewer (changes_at s) s.air) (sym played.1) (omega (arith, so, ap (λ (e : EditionNo). e.0) (stays_bus before.air line).newest));
}

-- what holds of the parts of a run
record AreKnown (net : Net) (before : Stand) (items : List Item) (text : List ℕ) (after : Stand) (played : PlaysItems net true before items text after) : Type 0 where
  pub know : EachPart TurnsKnow net true before items text after played
  pub so : EachPart PartIsNoNewer net true before items text after played

parts_known : (net : Net) (first : List Change) (before : Stand) (items : List Item) (text : List ℕ) (after : Stand) (played : PlaysItems net true before items text after) → IsLawful net first after
    → IsNoNewer (changes_at before) before.air → AreKnown net before items text after played
parts_known net first before [] text after played lawful so = record { know = tt; so = tt }
parts_known net first before (one ∷ items) text after (between, own, others, now, more, text_is) lawful so =
    let part = part_known net first before one own between now (lawful_from net first between items others after more lawful) so in
    let rest = parts_known net first between items others after more lawful part.so in
    record { know = (part.know, rest.know); so = ((so, part.so), rest.so) }

run_known : (net : Net) (sites : Sites) (opening : List Change) (items : List Item) (histories : List History) (events : List Event) (lines : List ℕ)
    → (run : IsRun net sites true opening items histories events lines) → AreKnown net (at_start net sites opening) items lines run.end run.played
run_known net sites opening items histories events lines run =
    parts_known net opening (at_start net sites opening) items lines run.end run.played
    (lawful_end net opening run.end (subst (λ (l : List History). AreLegalTimes net true opening run.end.opening l) run.history run.legal)) (start_no_newer net sites opening)

run_knows : (net : Net) (sites : Sites) (tells : Bool) (opening : List Change) (items : List Item) (histories : List History) (events : List Event) (lines : List ℕ) → tells ≡ true
    → (run : IsRun net sites tells opening items histories events lines) → EachPartOfRun TurnsKnow net sites tells opening items histories events lines run
run_knows net sites true opening items histories events lines is run = (run_known net sites opening items histories events lines run).know
run_knows net sites false opening items histories events lines is run = absurd (not_both false is refl)

run_no_newer : (net : Net) (sites : Sites) (tells : Bool) (opening : List Change) (items : List Item) (histories : List History) (events : List Event) (lines : List ℕ) → tells ≡ true
    → (run : IsRun net sites tells opening items histories events lines) → EachPartOfRun PartIsNoNewer net sites tells opening items histories events lines run
run_no_newer net sites true opening items histories events lines is run = (run_known net sites opening items histories events lines run).so
run_no_newer net sites false opening items histories events lines is run = absurd (not_both false is refl)

-- each turn knows of the newest plan
pub end_knows : (net : Net) (items : List Item) (output : Output) (stored : Stored) (opening : List Change) (status : ℕ) (histories : List History) (events : List Event)
    → is_some stored.before ≡ true → (ends : EndsFrom net items output stored opening status histories events) → EachPartAtEnd TurnsKnow net items output stored opening status histories events ends
end_knows net items output stored opening status histories events tells (inl breaks) = tt
end_knows net items output stored opening status histories events tells (inr (inl whole)) =
    run_knows net Together (is_some stored.before) opening items histories events whole.lines tells whole.run
end_knows net items output stored opening status histories events tells (inr (inr (inl partly))) =
    run_knows net Together (is_some stored.before) opening partly.first histories events partly.lines tells partly.run
end_knows net items output stored opening status histories events tells (inr (inr (inr until))) =
    run_knows net Together (is_some stored.before) opening until.first histories events until.lines tells until.run

-- before and behind each part the world has no plan newer than the changes
pub end_no_newer : (net : Net) (items : List Item) (output : Output) (stored : Stored) (opening : List Change) (status : ℕ) (histories : List History) (events : List Event)
    → is_some stored.before ≡ true → (ends : EndsFrom net items output stored opening status histories events) → EachPartAtEnd PartIsNoNewer net items output stored opening status histories events ends
end_no_newer net items output stored opening status histories events tells (inl breaks) = tt
end_no_newer net items output stored opening status histories events tells (inr (inl whole)) =
    run_no_newer net Together (is_some stored.before) opening items histories events whole.lines tells whole.run
end_no_newer net items output stored opening status histories events tells (inr (inr (inl partly))) =
    run_no_newer net Together (is_some stored.before) opening partly.first histories events partly.lines tells partly.run
end_no_newer net items output stored opening status histories events tells (inr (inr (inr until))) =
    run_no_newer net Together (is_some stored.before) opening until.first histories events until.lines tells until.run

-- so does each turn of a session
pub session_knows : (net : Net) (sites : Sites) (talk : Talked) (stored : Stored) (opening : List Change) (status : ℕ) (histories : List History) (events : List Event) → is_some stored.before ≡ true
    → (ends : SessionEndsFrom net sites talk stored opening status histories events) → EachPartOfSession TurnsKnow net sites talk stored opening status histories events ends
session_knows net sites talk stored opening status histories events tells (inl breaks) = tt
session_knows net sites talk stored opening status histories events tells (inr (inl whole)) =
    run_knows net sites (is_some stored.before) opening whole.session.parts histories events whole.session.lines tells whole.session.run
session_knows net sites talk stored opening status histories events tells (inr (inr (inl unsaid))) =
    run_knows net sites (is_some stored.before) opening unsaid.session.parts histories events unsaid.session.lines tells unsaid.session.run
session_knows net sites talk stored opening status histories events tells (inr (inr (inr until))) =
    run_knows net sites (is_some stored.before) opening until.session.parts histories events until.session.lines tells until.session.run

-- nor in a session
pub session_no_newer : (net : Net) (sites : Sites) (talk : Talked) (stored : Stored) (opening : List Change) (status : ℕ) (histories : List History) (events : List Event) → is_some stored.before ≡ true
    → (ends : SessionEndsFrom net sites talk stored opening status histories events) → EachPartOfSession PartIsNoNewer net sites talk stored opening status histories events ends
session_no_newer net sites talk stored opening status histories events tells (inl breaks) = tt
session_no_newer net sites talk stored opening status histories events tells (inr (inl whole)) =
    run_no_newer net sites (is_some stored.before) opening whole.session.parts histories events whole.session.lines tells whole.session.run
session_no_newer net sites talk stored opening status histories events tells (inr (inr (inl unsaid))) =
    run_no_newer net sites (is_some stored.before) opening unsaid.session.parts histories events unsaid.session.lines tells unsaid.session.run
session_no_newer net sites talk stored opening status histories events tells (inr (inr (inr until))) =
    run_no_newer net sites (is_some stored.before) opening until.session.parts histories events until.session.lines tells until.session.run
