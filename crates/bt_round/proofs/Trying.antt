-- A block of lines, tried on a copy of the book.
use Rattle.std.proofs.Common.{◌≡◌, ◌≢◌, ℕ, ◌+◌, ◌<◌, ◌++◌, true, false, List, [], ◌∷◌, length, drop, get_or, Option, Some, None, inl, inr, refl, sym, ap, ◌∙◌, subst, append_assoc, arith}
use Rattle.std.specs.Prelude.{IfSome, decimal, option_map}
use Rattle.std.specs.Option.{is_some}
use Rattle.std.proofs.lemmas.List.{append-nil, drop_more}
use Rattle.std.proofs.lemmas.List.Elements.{All-nil, All-cons}
use Rattle.bt_outside.specs.Told.{GainsPrefix, Rose}
use Rattle.bt_frame.specs.declared.numbers.EditionNo.{EditionNo}
use Rattle.bt_net.specs.Network.{Net}
use Rattle.bt_demand.specs.declared.demand.Link.{Link}
use Rattle.bt_demand.specs.declared.plan.Plan.{Plan}
use Rattle.bt_demand.specs.Plan.{IsGoodPlan}
use Rattle.bt_journal.specs.declared.call.Call.{Call}
use Rattle.bt_journal.specs.declared.call.Call.TheVariants as call
use Rattle.bt_journal.specs.declared.call.Change.{Change}
use Rattle.bt_journal.specs.declared.call.Change.TheVariants as change
use Rattle.bt_journal.specs.declared.call.Edit.{Edit}
use Rattle.bt_journal.specs.declared.entry.Entry.{Entry}
use Rattle.bt_journal.specs.declared.reply.Reply.{Reply}
use Rattle.bt_journal.specs.declared.reply.Reply.TheVariants.{Done, SameTerminal, NotThere, RowFull, ColumnFull, BookFull, NotNewer, NoSuchEdition, NotGood, OutOfTurn, NotInstalled, Demand, Installed, Newest, Placed, StoreFault, Stopped}
use Rattle.bt_journal.specs.Journal.{NamesTerminals, change_made, changes_of, is_made}
use Rattle.bt_history.specs.Causes.{Follows, IsCause}
use Rattle.bt_history.specs.Machine.{State, Step, ChangeStep, NamesBeams, Tells}
use Rattle.bt_history.specs.Store.{StoreStep}
use Rattle.bt_history.proofs.Histories.{Step-adds, as_list, changes_of-cons, steps_follow}
use Rattle.bt_script.specs.declared.line.ScriptLine.{ScriptLine}
use Rattle.bt_script.specs.declared.line.ScriptLine.TheVariants as line
use Rattle.bt_script.specs.declared.script.DeskLine.TheVariants as desk_line
use Rattle.bt_script.specs.Said.{IsSaidFor}
use Rattle.bt_words.specs.declared.form.Form.TheVariants as form
use Rattle.bt_words.specs.Filled.{form_line}
use Rattle.bt_timeline.specs.Timeline.{AnswersEdit, AnswersInstall, HasLine, entry_line}
use Rattle.bt_round.specs.Planning.{planner_text}
use Rattle.bt_round.specs.Trial.{AllTried, IsDoneThere, IsRefusedThere, IsSure, TriesEdit, TriesLines, TriesPlan, edit_asked}
use Rattle.bt_round.proofs.PlannerLines.{edition_plans, edition_shown, install_printed, nothing_planned, nothing_shown}

never_rose : (before now : ℕ) → before ≡ 0 → now ≡ 0 → Rose before now → ⊥
never_rose before now none still (inl more) = omega (arith, none, still, more)
never_rose before now none still (inr most) = omega (arith, still, most)

-- no store fails that has no fault before and after
pub never_fails : (line : List ℕ) (reply : Reply) (old new : Option (List ℕ)) (before now : ℕ) → before ≡ 0 → now ≡ 0 → StoreStep line reply old new before now → reply ≢ StoreFault
never_fails line reply old new before now none still step fault =
    let failed : GainsPrefix old line new × Rose before now = subst (λ (r : Reply). StoreStep line r old new before now) fault step in
    never_rose before now none still failed.1

-- the changes follow after a step, where they did before it
pub step_follows : (net : Net) (old : State) (asked : Call) (reply : Reply) (new : State) → Follows net old.changes → Step net old asked reply new → Follows net new.changes
step_follows net old asked reply new follow step =
    let entry : Entry = record { caller = 0; call = asked; reply = reply } in
    let made : changes_of (entry ∷ []) ≡ as_list (change_made asked reply) = changes_of-cons entry [] ∙ append-nil (as_list (change_made asked reply)) in
    let is : new.changes ≡ old.changes ++ changes_of (entry ∷ []) =
    ap (λ (s : State). s.changes) (Step-adds net old asked reply new step) ∙ ap (λ (c : List Change). old.changes ++ c) (sym made) in
    subst (Follows net) (sym is) (steps_follow net old (entry ∷ []) follow (new, step, tt))

pub now_follows : (net now : Net) (old : State) (asked : Call) (reply : Reply) (new : State) → now ≡ net → Follows net old.changes → Step now old asked reply new → Follows net new.changes
now_follows net now old asked reply new same follow step =
    step_follows net old asked reply new follow (subst (λ (n : Net). Step n old asked reply new) same step)

-- the edit of a line names terminals of the network
pub said_named : (net : Net) (line : ScriptLine) (asked : ℕ × Edit) → edit_asked line ≡ Some asked → IsSaidFor net line → NamesTerminals net asked.1
said_named net (line.Desk desk (desk_line.Edit edit)) asked is said =
    let same : edit ≡ asked.1 = cc in
    subst (NamesTerminals net) same said
said_named net (line.Desk desk (desk_line.Show terminal)) asked is said = absurd cc
said_named net line.Remark asked is said = absurd cc
said_named net line.Round asked is said = absurd cc
said_named net line.Restart asked is said = absurd cc
said_named net line.Plan asked is said = absurd cc
said_named net (line.Air own) asked is said = absurd cc

-- the reply to an edit is one that an edit can have
edit_refused_by : (net : Net) (changes : List Change) (edit : Edit) (reply : Reply) → IsCause net changes (change.Edit edit) reply → NamesBeams net reply → AnswersEdit net reply
edit_refused_by net changes edit SameTerminal cause names = tt
edit_refused_by net changes edit (NotThere _) cause names = tt
edit_refused_by net changes edit (RowFull _ _) cause names = names
edit_refused_by net changes edit (ColumnFull _ _) cause names = names
edit_refused_by net changes edit (BookFull _) cause names = absurd cause
edit_refused_by net changes edit (NotNewer _) cause names = absurd cause
edit_refused_by net changes edit (NoSuchEdition _) cause names = absurd cause
edit_refused_by net changes edit (NotGood _) cause names = absurd cause
edit_refused_by net changes edit (OutOfTurn _) cause names = absurd cause
edit_refused_by net changes edit (NotInstalled _) cause names = absurd cause
edit_refused_by net changes edit (Demand _ _ _) cause names = absurd cause
edit_refused_by net changes edit (Done _ _) cause names = absurd cause
edit_refused_by net changes edit (Installed _) cause names = absurd cause
edit_refused_by net changes edit (Newest _) cause names = absurd cause
edit_refused_by net changes edit Placed cause names = absurd cause
edit_refused_by net changes edit StoreFault cause names = absurd cause
edit_refused_by net changes edit Stopped cause names = absurd cause

edit_told : (net : Net) (changes : List Change) (edit : Edit) (reply : Reply) → Tells net changes (change.Edit edit) reply → AnswersEdit net reply
edit_told net changes edit SameTerminal told = absurd told
edit_told net changes edit (NotThere _) told = absurd told
edit_told net changes edit (RowFull _ _) told = absurd told
edit_told net changes edit (ColumnFull _ _) told = absurd told
edit_told net changes edit (BookFull _) told = absurd told
edit_told net changes edit (NotNewer _) told = absurd told
edit_told net changes edit (NoSuchEdition _) told = absurd told
edit_told net changes edit (NotGood _) told = absurd told
edit_told net changes edit (OutOfTurn _) told = absurd told
edit_told net changes edit (NotInstalled _) told = absurd told
edit_told net changes edit (Demand _ _ _) told = absurd told
edit_told net changes edit (Done _ _) told = tt
edit_told net changes edit (Installed _) told = absurd told
edit_told net changes edit (Newest _) told = absurd told
edit_told net changes edit Placed told = absurd told
edit_told net changes edit StoreFault told = absurd told
edit_told net changes edit Stopped told = absurd told

answers_edit : (net : Net) (old new : State) (edit : Edit) (reply : Reply) → ChangeStep net old (change.Edit edit) reply new → NamesBeams net reply → AnswersEdit net reply
answers_edit net old new edit reply (inl halts) names = subst (AnswersEdit net) (sym halts.told) tt
answers_edit net old new edit reply (inr (inl refused)) names = edit_refused_by net old.changes edit reply refused.cause names
answers_edit net old new edit reply (inr (inr (inl full))) names = subst (AnswersEdit net) (sym full.told) tt
answers_edit net old new edit reply (inr (inr (inr (inl done)))) names = edit_told net new.changes edit reply done.told
answers_edit net old new edit reply (inr (inr (inr (inr lost)))) names = subst (AnswersEdit net) (sym lost.told) tt

pub edit_has_line : (net : Net) (old new : State) (desk : ℕ) (edit : Edit) (entry : Entry) → entry.call ≡ call.Edit edit → Step net old (call.Edit edit) entry.reply new → NamesBeams net entry.reply
    → HasLine net (Some desk) entry.call entry.reply
edit_has_line net old new desk edit entry asked step names =
    subst (λ (c : Call). HasLine net (Some desk) c entry.reply) (sym asked) (answers_edit net old new edit entry.reply step.answered names)

-- a refusal that was given is none of none
pub refused_text : {X : Type 0} (items : X → List ℕ) (net : Net) (old : State) (place : ℕ) (asked : Option (ℕ × Edit)) (refusal : Option X) → is_some refusal ≡ true
    → IfSome refusal (λ text. IsRefusedThere net old place asked (Some (items text))) → IsRefusedThere net old place asked (option_map items refusal)
refused_text items net old place asked None some refused = absurd cc
refused_text items net old place asked (Some text) some refused = refused

pub no_refusal : {X : Type 0} (refusal : Option X) → is_some refusal ≡ false → refusal ≡ None
no_refusal None none = refl
no_refusal (Some text) none = absurd cc

-- the text has what a line came to behind it
abbrev pub TellsEdit : Net → State → ScriptLine → State → List ℕ → List ℕ → Type 0
TellsEdit net old line new text written = (told : List ℕ) × TriesEdit net old (edit_asked line) told new × (written ≡ text ++ told)

-- the line asks no edit
pub nothing_asked : (net : Net) (old : State) (line : ScriptLine) (text : List ℕ) → edit_asked line ≡ None → TellsEdit net old line old text text
nothing_asked net old line text none =
    ([], subst (λ (asked : Option (ℕ × Edit)). TriesEdit net old asked [] old) (sym none) (refl, refl), sym (append-nil text))

-- its edit was tried
pub edit_tried : (net : Net) (old : State) (line : ScriptLine) (desk : ℕ) (edit : Edit) (entry : Entry) (new : State) (text written : List ℕ) → edit_asked line ≡ Some (desk, edit)
    → Step net old (call.Edit edit) entry.reply new → entry.reply ≢ StoreFault → written ≡ text ++ entry_line net (Some desk) entry → TellsEdit net old line new text written
edit_tried net old line desk edit entry new text written is step sure added =
    let told = entry_line net (Some desk) entry in
    (told, subst (λ (asked : Option (ℕ × Edit)). TriesEdit net old asked told new) (sym is) (entry.reply, record { step = step; sure = sure }, refl), added)

-- it is done
pub edit_done : (net : Net) (old : State) (line : ScriptLine) (desk : ℕ) (edit : Edit) (reply : Reply) (new : State) → edit_asked line ≡ Some (desk, edit)
    → Step net old (call.Edit edit) reply new → reply ≢ StoreFault → is_made reply ≡ true → IsDoneThere net old (edit_asked line) new
edit_done net old line desk edit reply new is step sure made =
    subst (λ (asked : Option (ℕ × Edit)). IsDoneThere net old asked new) (sym is) (reply, record { step = step; sure = sure }, made)

pub none_done : (net : Net) (old : State) (line : ScriptLine) → edit_asked line ≡ None → IsDoneThere net old (edit_asked line) old
none_done net old line none = subst (λ (asked : Option (ℕ × Edit)). IsDoneThere net old asked old) (sym none) refl

-- it is not done
pub edit_refused : (net : Net) (old : State) (place : ℕ) (line : ScriptLine) (desk : ℕ) (edit : Edit) (entry : Entry) (new : State) (first text : List ℕ) → edit_asked line ≡ Some (desk, edit)
    → Step net old (call.Edit edit) entry.reply new → entry.reply ≢ StoreFault → is_made entry.reply ≡ false → first ≡ form_line form.BlockRefused (decimal place ∷ [])
    → text ≡ first ++ entry_line net (Some desk) entry → IsRefusedThere net old place (edit_asked line) (Some text)
edit_refused net old place line desk edit entry new first text is step sure not_made begins ends =
    subst (λ (asked : Option (ℕ × Edit)). IsRefusedThere net old place asked (Some text)) (sym is)
    (entry.reply, new, record { step = step; sure = sure }, not_made, ap Some (ends ∙ ap (λ (t : List ℕ). t ++ entry_line net (Some desk) entry) begins))

-- The lines so far were tried: whatever those ahead come to, all come to it behind what is told so far.
abbrev pub TriesSoFar : Net → State → List ScriptLine → ℕ → State → List ℕ → Type 0
TriesSoFar net start lines place state text =
    (more : List ℕ) (end : State) → TriesLines net state (drop place lines) more end → TriesLines net start lines (text ++ more) end

pub tries_first : (net : Net) (start now : State) (lines : List ScriptLine) (text : List ℕ) → now ≡ start → text ≡ [] → TriesSoFar net start lines 0 now text
tries_first net start now lines text same none more end tries =
    subst (λ (t : List ℕ). TriesLines net start lines (t ++ more) end) (sym none) (subst (λ (s : State). TriesLines net s lines more end) same tries)

pub tries_next : (net : Net) (start : State) (lines : List ScriptLine) (place : ℕ) (line : ScriptLine) (state new : State) (text written : List ℕ) → place < length lines
    → line ≡ get_or lines place line → TellsEdit net state line new text written → TriesSoFar net start lines place state text → TriesSoFar net start lines (place + 1) new written
tries_next net start lines place line state new text written within is tells so more end tries =
    let told = tells.0 in
    let ahead : drop place lines ≡ line ∷ drop (place + 1) lines = drop_more lines place line within ∙ ap (λ (l : ScriptLine). l ∷ drop (place + 1) lines) (sym is) in
    let here = so (told ++ more) end (subst (λ (l : List ScriptLine). TriesLines net state l (told ++ more) end) (sym ahead) (told, new, more, tells.1, tries, refl)) in
    subst (λ (t : List ℕ). TriesLines net start lines t end) (sym (append_assoc text told more) ∙ ap (λ (t : List ℕ). t ++ more) (sym tells.2)) here

pub tries_all : (net : Net) (start state : State) (lines : List ScriptLine) (place : ℕ) (text : List ℕ) → drop place lines ≡ [] → TriesSoFar net start lines place state text
    → TriesLines net start lines text state
tries_all net start state lines place text none so =
    subst (λ (t : List ℕ). TriesLines net start lines t state) (append-nil text)
    (so [] state (subst (λ (l : List ScriptLine). TriesLines net state l [] state) (sym none) (refl, refl)))

-- The edits so far are done: whatever refuses the lines ahead refuses all, and where nothing does, nothing refuses all.
abbrev pub DoneSoFar : Net → State → List ScriptLine → ℕ → State → Type 0
DoneSoFar net start lines place state = (refusal : Option (List ℕ)) → AllTried net state (place + 1) (drop place lines) refusal → AllTried net start 1 lines refusal

pub done_first : (net : Net) (start now : State) (lines : List ScriptLine) → now ≡ start → DoneSoFar net start lines 0 now
done_first net start now lines same refusal tried = subst (λ (s : State). AllTried net s 1 lines refusal) same tried

pub done_next : (net : Net) (start : State) (lines : List ScriptLine) (place : ℕ) (line : ScriptLine) (state new : State) → place < length lines → line ≡ get_or lines place line
    → IsDoneThere net state (edit_asked line) new → DoneSoFar net start lines place state → DoneSoFar net start lines (place + 1) new
done_next net start lines place line state new within is done so refusal tried =
    let ahead : drop place lines ≡ line ∷ drop (place + 1) lines = drop_more lines place line within ∙ ap (λ (l : ScriptLine). l ∷ drop (place + 1) lines) (sym is) in
    so refusal (subst (λ (l : List ScriptLine). AllTried net state (place + 1) l refusal) (sym ahead) (inr (new, done, tried)))

pub refused_here : (net : Net) (start : State) (lines : List ScriptLine) (place : ℕ) (line : ScriptLine) (state : State) (refusal : Option (List ℕ)) → place < length lines
    → line ≡ get_or lines place line → IsRefusedThere net state (place + 1) (edit_asked line) refusal → DoneSoFar net start lines place state → AllTried net start 1 lines refusal
refused_here net start lines place line state refusal within is refused so =
    let ahead : drop place lines ≡ line ∷ drop (place + 1) lines = drop_more lines place line within ∙ ap (λ (l : ScriptLine). l ∷ drop (place + 1) lines) (sym is) in
    so refusal (subst (λ (l : List ScriptLine). AllTried net state (place + 1) l refusal) (sym ahead) (inl refused))

pub all_done : (net : Net) (start state : State) (lines : List ScriptLine) (place : ℕ) → drop place lines ≡ [] → DoneSoFar net start lines place state → AllTried net start 1 lines None
all_done net start state lines place none so = so None (subst (λ (l : List ScriptLine). AllTried net state (place + 1) l None) (sym none) refl)

-- the text has what the planner came to behind it
abbrev pub TellsPlan : Net → State → List ℕ → List ℕ → Type 0
TellsPlan net state text written = (plan : List ℕ) × TriesPlan net state plan × (written ≡ text ++ plan)

-- the planner found nothing new
pub nothing_tried : (net : Net) (old new : State) (seen : Entry) (edition newest : EditionNo) (links : List Link) (text written : List ℕ) → seen.call ≡ call.Snapshot
    → Step net old call.Snapshot seen.reply new → IsSure seen → seen.reply ≡ Demand edition newest links → edition.0 ≡ newest.0 → written ≡ text ++ entry_line net None seen
    → TellsPlan net old text written
nothing_tried net old new seen edition newest links text written asked step sure reply same added = (
  entry_line net None seen,
  record {
    entries = seen ∷ [];
    steps = (new, subst (λ (c : Call). Step net old c seen.reply new) (sym asked) step, tt);
    plans = nothing_planned net seen edition newest links asked reply same;
    sure = All-cons IsSure seen [] sure (All-nil IsSure);
    printed = sym (nothing_shown net seen edition newest links reply same);
  },
  added,
)

-- it planned the last edition
pub edition_tried : (net : Net) (old mid new : State) (seen entry : Entry) (edition newest : EditionNo) (links : List Link) (plan : Plan) (text written : List ℕ) → seen.call ≡ call.Snapshot
    → Step net old call.Snapshot seen.reply mid → IsSure seen → seen.reply ≡ Demand edition newest links → edition.0 ≢ newest.0 → plan.edition ≡ edition → IsGoodPlan net links plan
    → entry.call ≡ call.Install plan → Step net mid (call.Install plan) entry.reply new → IsSure entry → AnswersInstall net entry.reply → written ≡ text ++ entry_line net None entry
    → TellsPlan net old text written
edition_tried net old mid new seen entry edition newest links plan text written asked saw sure reply differ same good installs step sure_too answers added = (
  planner_text net (entry ∷ []),
  record {
    entries = seen ∷ entry ∷ [];
    steps = (mid, subst (λ (c : Call). Step net old c seen.reply mid) (sym asked) saw, (new, subst (λ (c : Call). Step net mid c entry.reply new) (sym installs) step, tt));
    plans = edition_plans net seen entry edition newest links plan asked reply differ installs same good;
    sure = All-cons IsSure seen (entry ∷ []) sure (All-cons IsSure entry [] sure_too (All-nil IsSure));
    printed = sym (edition_shown net seen entry edition newest links reply differ);
  },
  install_printed net entry text written answers added,
)
