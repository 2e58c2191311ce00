-- The lines of the planner, done one after the other.
use Rattle.std.proofs.Common.{◌≡◌, ◌≢◌, ℕ, ◌+◌, ◌==◌, if◌then◌else◌, Bool, true, false, List, [], ◌∷◌, ◌++◌, All, None, Some, refl, sym, ap, ◌∙◌, subst, length-append, arith, inl, inr}
use Rattle.std.specs.List.{flat_map}
use Rattle.std.proofs.lemmas.Grind.{flat_map-append}
use Rattle.std.proofs.lemmas.Bool.Decides.{nat_tests}
use Rattle.std.proofs.lemmas.List.{append-nil}
use Rattle.std.proofs.lemmas.List.Elements.{All-append, All-nil, All-cons}
use Rattle.bt_frame.specs.Critical.{IsOfBeams}
use Rattle.bt_frame.specs.declared.numbers.EditionNo.{EditionNo}
use Rattle.bt_net.specs.Network.{Net}
use Rattle.bt_matrix.specs.Traffic.{IsHeaviest}
use Rattle.bt_demand.specs.Apart.{AreBetweenTerminals}
use Rattle.bt_demand.specs.declared.demand.Link.{Link}
use Rattle.bt_demand.specs.declared.plan.Plan.{Plan}
use Rattle.bt_demand.specs.Plan.{IsGoodPlan}
use Rattle.bt_demand.specs.Traffic.{matrix_of}
use Rattle.bt_demand.proofs.Matrices.{length-matrix_of}
use Rattle.bt_demand.specs.declared.verdict.Verdict.{Verdict}
use Rattle.bt_demand.specs.declared.verdict.Verdict.TheVariants.{Good, V1, V2, V3, V4, V5, V6, V7, V8}
use Rattle.bt_journal.specs.declared.call.Call.{Call}
use Rattle.bt_journal.specs.declared.call.Call.TheVariants as call
use Rattle.bt_journal.specs.declared.call.Change.{Change}
use Rattle.bt_journal.specs.declared.call.Change.TheVariants as change
use Rattle.bt_journal.specs.declared.entry.Entry.{Entry}
use Rattle.bt_journal.specs.declared.reply.Reply.{Reply}
use Rattle.bt_journal.specs.declared.reply.Reply.TheVariants.{Done, SameTerminal, NotThere, RowFull, ColumnFull, BookFull, NotNewer, NoSuchEdition, NotGood, OutOfTurn, NotInstalled, Demand, Installed, Newest, Placed, StoreFault, Stopped}
use Rattle.bt_history.specs.Causes.{IsCause, IsPlanOn}
use Rattle.bt_history.specs.Changes.{IsDemandAfter}
use Rattle.bt_history.specs.Machine.{State, Step, ChangeStep, NamesBeams, Tells}
use Rattle.bt_timeline.specs.Timeline.{AnswersInstall, entry_line}
use Rattle.bt_timeline.specs.Verdicts.{CanName}
use Rattle.bt_round.specs.Planning.{PlansOnce, planner_line, planner_text}
use Rattle.bt_round.specs.Callers.{Calling, IsAnswered, IsSameCaller, own_of}
use Rattle.bt_round.specs.Done.{PlannerDone}
use Rattle.bt_round.specs.Planned.{HasPosted, InstallDone}
use Rattle.bt_round.proofs.DeskLines.{IsBy, two_pieces}
use Rattle.bt_round.proofs.Posting.{installed_by, installed_by-append, none_installed, plan_asked, posted_more}

-- the links of a reply that tells a demand
abbrev links_in : Reply → List Link
links_in (Demand edition newest links) = links
links_in _ = []

-- a snapshot tells the demand after the changes
pub demand_told : (net : Net) (old new : State) (reply : Reply) (edition newest : EditionNo) (links : List Link) → Step net old call.Snapshot reply new → reply ≡ Demand edition newest links
    → IsDemandAfter old.changes links
demand_told net old new reply edition newest links step is =
    let told : step.answered.0.links ≡ links = ap links_in (sym step.answered.0.told ∙ is) in
    subst (λ (l : List Link). IsDemandAfter old.changes l) told step.answered.0.demand

-- what the planner saw is the demand after the changes then
pub seen_demand : {caller : Calling} (net : Net) (seen : Entry) (edition newest : EditionNo) (links : List Link) (so : IsAnswered net caller seen) → seen.call ≡ call.Snapshot
    → seen.reply ≡ Demand edition newest links → IsDemandAfter so.old.changes links
seen_demand net seen edition newest links so asked is =
    demand_told net so.old so.new seen.reply edition newest links (subst (λ (c : Call). Step net so.old c seen.reply so.new) asked so.step) is

-- a plan that was made for the network names terminals and beams of it
pub plan_is_on : (net : Net) (links : List Link) (plan : Plan) → AreBetweenTerminals net plan.bursts
    → IsHeaviest (matrix_of net links) plan.schedule.critical plan.schedule.length → IsPlanOn net plan
plan_is_on net links plan between heaviest = record {
  bursts = between;
  critical = subst (λ n. IsOfBeams n plan.schedule.critical) (length-matrix_of net links) heaviest.on_matrix;
}

can_name : (net : Net) (verdict : Verdict) → NamesBeams net (NotGood verdict) → CanName (Some net) verdict
can_name net Good names = tt
can_name net (V1 _) names = tt
can_name net (V2 _) names = tt
can_name net (V3 _ _) names = tt
can_name net (V4 _ _) names = tt
can_name net (V5 _ _) names = tt
can_name net (V6 _) names = tt
can_name net (V7 from to want have) names = names
can_name net (V8 _ _ _ _) names = tt

install_refused : (net : Net) (changes : List Change) (plan : Plan) (reply : Reply) → IsCause net changes (change.Install plan) reply → NamesBeams net reply → AnswersInstall net reply
install_refused net changes plan (NotNewer _) cause names = tt
install_refused net changes plan (NoSuchEdition _) cause names = tt
install_refused net changes plan (NotGood verdict) cause names = can_name net verdict names
install_refused net changes plan (Done _ _) cause names = absurd cause
install_refused net changes plan SameTerminal cause names = absurd cause
install_refused net changes plan (NotThere _) cause names = absurd cause
install_refused net changes plan (RowFull _ _) cause names = absurd cause
install_refused net changes plan (ColumnFull _ _) cause names = absurd cause
install_refused net changes plan (BookFull _) cause names = absurd cause
install_refused net changes plan (OutOfTurn _) cause names = absurd cause
install_refused net changes plan (NotInstalled _) cause names = absurd cause
install_refused net changes plan (Demand _ _ _) cause names = absurd cause
install_refused net changes plan (Installed _) cause names = absurd cause
install_refused net changes plan (Newest _) cause names = absurd cause
install_refused net changes plan Placed cause names = absurd cause
install_refused net changes plan StoreFault cause names = absurd cause
install_refused net changes plan Stopped cause names = absurd cause

install_told : (net : Net) (changes : List Change) (plan : Plan) (reply : Reply) → Tells net changes (change.Install plan) reply → AnswersInstall net reply
install_told net changes plan (Installed _) told = tt
install_told net changes plan (NotNewer _) told = absurd told
install_told net changes plan (NoSuchEdition _) told = absurd told
install_told net changes plan (NotGood _) told = absurd told
install_told net changes plan (Done _ _) told = absurd told
install_told net changes plan SameTerminal told = absurd told
install_told net changes plan (NotThere _) told = absurd told
install_told net changes plan (RowFull _ _) told = absurd told
install_told net changes plan (ColumnFull _ _) told = absurd told
install_told net changes plan (BookFull _) told = absurd told
install_told net changes plan (OutOfTurn _) told = absurd told
install_told net changes plan (NotInstalled _) told = absurd told
install_told net changes plan (Demand _ _ _) told = absurd told
install_told net changes plan (Newest _) told = absurd told
install_told net changes plan Placed told = absurd told
install_told net changes plan StoreFault told = absurd told
install_told net changes plan Stopped told = absurd told

-- the reply to an install is one that an install can have
pub answers_install : (net : Net) (old new : State) (plan : Plan) (reply : Reply) → ChangeStep net old (change.Install plan) reply new → NamesBeams net reply → AnswersInstall net reply
answers_install net old new plan reply (inl halts) names = subst (AnswersInstall net) (sym halts.told) tt
answers_install net old new plan reply (inr (inl refused)) names = install_refused net old.changes plan reply refused.cause names
answers_install net old new plan reply (inr (inr (inl full))) names = subst (AnswersInstall net) (sym full.told) tt
answers_install net old new plan reply (inr (inr (inr (inl done)))) names = install_told net new.changes plan reply done.told
answers_install net old new plan reply (inr (inr (inr (inr lost)))) names = subst (AnswersInstall net) (sym lost.told) tt

-- and so is that of an entry
pub install_answered : {caller : Calling} (net : Net) (entry : Entry) (plan : Plan) (so : IsAnswered net caller entry) → entry.call ≡ call.Install plan → NamesBeams net entry.reply
    → AnswersInstall net entry.reply
install_answered net entry plan so asked names =
    let step : Step net so.old (call.Install plan) entry.reply so.new = subst (λ (c : Call). Step net so.old c entry.reply so.new) asked so.step in
    answers_install net so.old so.new plan entry.reply step.answered names

-- such a reply is always printed
always_printed : (net : Net) (reply : Reply) (line : List ℕ) → AnswersInstall net reply → planner_line net reply line ≡ line
always_printed net (Demand _ _ _) line answers = absurd answers
always_printed net (Installed _) line answers = refl
always_printed net (NotNewer _) line answers = refl
always_printed net (NoSuchEdition _) line answers = refl
always_printed net (NotGood _) line answers = refl
always_printed net (Done _ _) line answers = refl
always_printed net SameTerminal line answers = refl
always_printed net (NotThere _) line answers = refl
always_printed net (RowFull _ _) line answers = refl
always_printed net (ColumnFull _ _) line answers = refl
always_printed net (BookFull _) line answers = refl
always_printed net (OutOfTurn _) line answers = refl
always_printed net (NotInstalled _) line answers = refl
always_printed net (Newest _) line answers = refl
always_printed net Placed line answers = refl
always_printed net StoreFault line answers = refl
always_printed net Stopped line answers = refl

-- what is printed of it is its line
pub install_printed : (net : Net) (entry : Entry) (text written : List ℕ) → AnswersInstall net entry.reply → written ≡ text ++ entry_line net None entry
    → written ≡ text ++ planner_text net (entry ∷ [])
install_printed net entry text written answers printed =
    let line = entry_line net None entry in
    printed ∙ ap (λ (l : List ℕ). text ++ l) (sym (append-nil (planner_line net entry.reply line) ∙ always_printed net entry.reply line answers))

where_same : (a b : ℕ) (line : List ℕ) → a ≡ b → (if a == b then line else []) ≡ line
where_same a b line same =
    let passes : (a == b) ≡ true = grind (arith, nat_tests, same) in
    ap (λ (t : Bool). if t then line else []) passes

where_not : (a b : ℕ) (line : List ℕ) → a ≢ b → (if a == b then line else []) ≡ []
where_not a b line differ =
    let fails : (a == b) ≡ false = grind (arith, nat_tests, differ) in
    ap (λ (t : Bool). if t then line else []) fails

-- one line of the planner
one_line : (net : Net) (p0 p1 : List Plan) (own h0 h1 : List Entry) (t0 t1 : List ℕ) → PlansOnce net own → All (IsBy 1) own → p1 ≡ p0 ++ installed_by own → h1 ≡ h0 ++ own
    → t1 ≡ t0 ++ planner_text net own → PlannerDone net 1 p0 p1 h0 h1 t0 t1
one_line net p0 p1 own h0 h1 t0 t1 plans callers posts kept printed = record {
  own = own;
  planned = record {
    parts = own ∷ [];
    counted = refl;
    each = All-cons (PlansOnce net) own [] plans (All-nil (PlansOnce net));
    whole = sym (append-nil own);
  };
  callers = callers;
  posts = posts;
  kept = kept;
  printed = printed;
}

seen_installs_none : (seen : Entry) → seen.call ≡ call.Snapshot → installed_by (seen ∷ []) ≡ []
seen_installs_none seen asked = none_installed (seen ∷ []) (ap (λ (c : Call). plan_asked c ++ []) asked)

-- what the planner only saw is not posted
posts_none : (posted : List Plan) (seen : Entry) → seen.call ≡ call.Snapshot → posted ≡ posted ++ installed_by (seen ∷ [])
posts_none posted seen asked = sym (append-nil posted) ∙ ap (λ (l : List Plan). posted ++ l) (sym (seen_installs_none seen asked))

-- and leaves the others to be posted
pub saw_more : (old new : Calling) (posted : List Plan) (seen : Entry) → IsSameCaller old new → own_of new ≡ own_of old ++ seen ∷ [] → seen.call ≡ call.Snapshot
    → HasPosted old posted → HasPosted new posted
saw_more old new posted seen same own asked has = posted_more old new posted posted seen same own has (posts_none posted seen asked)

-- where nothing is new there is nothing to plan, and the line says so
pub nothing_planned : (net : Net) (seen : Entry) (edition newest : EditionNo) (links : List Link) → seen.call ≡ call.Snapshot → seen.reply ≡ Demand edition newest links → edition.0 ≡ newest.0
    → PlansOnce net (seen ∷ [])
nothing_planned net seen edition newest links asked reply same = record {
  seen = seen;
  others = [];
  all = refl;
  edition = edition;
  newest = newest;
  links = links;
  call = asked;
  reply = reply;
  planned = same;
}

pub nothing_shown : (net : Net) (seen : Entry) (edition newest : EditionNo) (links : List Link) → seen.reply ≡ Demand edition newest links → edition.0 ≡ newest.0
    → planner_text net (seen ∷ []) ≡ entry_line net None seen
nothing_shown net seen edition newest links reply same =
    let line = entry_line net None seen in
    append-nil (planner_line net seen.reply line) ∙ ap (λ (r : Reply). planner_line net r line) reply ∙ where_same edition.0 newest.0 line same

-- where the edition is new its plan is asked to be installed, and the line of that alone is printed
pub edition_plans : (net : Net) (seen entry : Entry) (edition newest : EditionNo) (links : List Link) (plan : Plan) → seen.call ≡ call.Snapshot → seen.reply ≡ Demand edition newest links
    → edition.0 ≢ newest.0 → entry.call ≡ call.Install plan → plan.edition ≡ edition → IsGoodPlan net links plan → PlansOnce net (seen ∷ entry ∷ [])
edition_plans net seen entry edition newest links plan asked reply differ installs same good = record {
  seen = seen;
  others = entry ∷ [];
  all = refl;
  edition = edition;
  newest = newest;
  links = links;
  call = asked;
  reply = reply;
  planned = (differ, (plan, installs, same, good));
}

pub edition_shown : (net : Net) (seen entry : Entry) (edition newest : EditionNo) (links : List Link) → seen.reply ≡ Demand edition newest links → edition.0 ≢ newest.0
    → planner_text net (seen ∷ entry ∷ []) ≡ planner_text net (entry ∷ [])
edition_shown net seen entry edition newest links reply differ =
    let unseen : planner_line net seen.reply (entry_line net None seen) ≡ [] =
    ap (λ (r : Reply). planner_line net r (entry_line net None seen)) reply ∙ where_not edition.0 newest.0 (entry_line net None seen) differ in
    ap (λ (l : List ℕ). l ++ planner_text net (entry ∷ [])) unseen

-- nothing is new
pub nothing_new : (net : Net) (seen : Entry) (edition newest : EditionNo) (links : List Link) (posted : List Plan) (h0 h1 : List Entry) (t0 t1 : List ℕ) → seen.caller ≡ 1 → seen.call ≡ call.Snapshot
    → seen.reply ≡ Demand edition newest links → edition.0 ≡ newest.0 → h1 ≡ h0 ++ seen ∷ [] → t1 ≡ t0 ++ entry_line net None seen → PlannerDone net 1 posted posted h0 h1 t0 t1
nothing_new net seen edition newest links posted h0 h1 t0 t1 caller asked reply same kept printed =
    let shown = nothing_shown net seen edition newest links reply same in
    one_line net posted posted (seen ∷ []) h0 h1 t0 t1 (nothing_planned net seen edition newest links asked reply same) (All-cons (IsBy 1) seen [] caller (All-nil (IsBy 1))) (posts_none posted seen asked) kept (printed ∙ ap (λ (l : List ℕ). t0 ++ l) (sym shown))

-- the edition was planned, and its plan asked to be installed
pub edition_planned : (net : Net) (seen : Entry) (edition newest : EditionNo) (links : List Link) (plan : Plan) (p0 p1 : List Plan) (h0 h1 h2 : List Entry) (t0 t1 : List ℕ) → seen.caller ≡ 1
    → seen.call ≡ call.Snapshot → seen.reply ≡ Demand edition newest links → edition.0 ≢ newest.0 → h1 ≡ h0 ++ seen ∷ [] → plan.edition ≡ edition → IsGoodPlan net links plan
    → InstallDone net plan p0 p1 h1 h2 t0 t1 → PlannerDone net 1 p0 p1 h0 h2 t0 t1
edition_planned net seen edition newest links plan p0 p1 h0 h1 h2 t0 t1 caller asked reply differ kept same good done =
    let entry = done.entry in
    let shown = edition_shown net seen entry edition newest links reply differ in
    let posted : installed_by (seen ∷ entry ∷ []) ≡ installed_by (entry ∷ []) =
    installed_by-append (seen ∷ []) (entry ∷ []) ∙ ap (λ (l : List Plan). l ++ installed_by (entry ∷ [])) (seen_installs_none seen asked) in
    one_line net p0 p1 (seen ∷ entry ∷ []) h0 h2 t0 t1 (edition_plans net seen entry edition newest links plan asked reply differ done.call same good) (All-cons (IsBy 1) seen (entry ∷ []) caller (All-cons (IsBy 1) entry [] done.caller (All-nil (IsBy 1))))
    (done.posts ∙ ap (λ (l : List Plan). p0 ++ l) (sym posted)) (two_pieces h0 (seen ∷ []) (entry ∷ []) h1 h2 kept done.kept)
    (done.printed ∙ ap (λ (l : List ℕ). t0 ++ l) (sym shown))

-- no lines yet
pub planner_begins : (net : Net) (posted : List Plan) (history : List Entry) (text : List ℕ) → PlannerDone net 0 posted posted history history text text
planner_begins net posted history text = record {
  own = [];
  planned = record { parts = []; counted = refl; each = All-nil (PlansOnce net); whole = refl };
  callers = All-nil (IsBy 1);
  posts = sym (append-nil posted);
  kept = sym (append-nil history);
  printed = sym (append-nil text);
}

-- more lines
pub planner_goes_on : (net : Net) (count more : ℕ) (p0 p1 p2 : List Plan) (h0 h1 h2 : List Entry) (t0 t1 t2 : List ℕ) → PlannerDone net count p0 p1 h0 h1 t0 t1
    → PlannerDone net more p1 p2 h1 h2 t1 t2 → PlannerDone net (count + more) p0 p2 h0 h2 t0 t2
planner_goes_on net count more p0 p1 p2 h0 h1 h2 t0 t1 t2 one two = record {
  own = one.own ++ two.own;
  planned = record {
    parts = one.planned.parts ++ two.planned.parts;
    counted = omega (arith, length-append one.planned.parts two.planned.parts, one.planned.counted, two.planned.counted);
    each = All-append (PlansOnce net) one.planned.parts two.planned.parts one.planned.each two.planned.each;
    whole = ap (λ (e : List Entry). e ++ two.own) one.planned.whole
        ∙ ap (λ (e : List Entry). flat_map (λ (part : List Entry). part) one.planned.parts ++ e) two.planned.whole
        ∙ sym (flat_map-append (λ (part : List Entry). part) one.planned.parts two.planned.parts);
  };
  callers = All-append (IsBy 1) one.own two.own one.callers two.callers;
  posts = two_pieces p0 (installed_by one.own) (installed_by two.own) p1 p2 one.posts two.posts ∙ ap (λ (l : List Plan). p0 ++ l) (sym (installed_by-append one.own two.own));
  kept = two_pieces h0 one.own two.own h1 h2 one.kept two.kept;
  printed = two_pieces t0 (planner_text net one.own) (planner_text net two.own) t1 t2 one.printed two.printed
      ∙ ap (λ (l : List ℕ). t0 ++ l) (sym (flat_map-append (λ (entry : Entry). planner_line net entry.reply (entry_line net None entry)) one.own two.own));
}
