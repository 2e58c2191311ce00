-- What was answered lasts to the end of a session.
use Rattle.std.proofs.Common.{◌≡◌, ℕ, ◌+◌, Bool, true, false, List, [], ◌∷◌, ◌++◌, Option, sym, ap, ◌∙◌, subst, append_assoc, inl, inr}
use Rattle.std.specs.Option.{is_some}
use Rattle.std.proofs.lemmas.List.{append-nil}
use Rattle.bt_outside.specs.Crash.{Crashes}
use Rattle.bt_outside.specs.Talk.{Shown}
use Rattle.bt_net.specs.Network.{Net}
use Rattle.bt_script.specs.declared.sites.Sites.{Sites}
use Rattle.bt_air.specs.declared.event.Event.{Event}
use Rattle.bt_journal.specs.declared.call.Change.{Change}
use Rattle.bt_journal.specs.declared.entry.Entry.{Entry}
use Rattle.bt_journal.specs.Journal.{changes_of}
use Rattle.bt_history.specs.Crash.{Last}
use Rattle.bt_history.specs.Store.{IsNextOpening, lost_of}
use Rattle.bt_history.proofs.Lasting.{last_first, last_then}
use Rattle.bt_script.specs.declared.script.Item.{Item}
use Rattle.bt_script.specs.declared.script.Item.TheVariants as item
use Rattle.bt_talk.specs.declared.block.Step.{Step}
use Rattle.bt_talk.specs.declared.block.Step.TheVariants as step
use Rattle.bt_talk.specs.Asked.{timed_behind}
use Rattle.bt_talk.specs.Blocks.{Open}
use Rattle.bt_report.specs.Stored.{Stored}
use Rattle.bt_round.proofs.DeskLines.{changes_of-append}
use Rattle.bt_centre.specs.declared.history.History.{History}
use Rattle.bt_centre.specs.Lasting.{AnsweredLasts, EachLasts}
use Rattle.bt_centre.specs.Run.{IsNextTime, PlaysItem, PlaysItems, Stand, at_start, changes_at}
use Rattle.bt_centre.specs.Session.{Exchange, PlaysLines, PlaysStep, SessionEndsFrom, row_in, shown_behind}
use Rattle.bt_centre.specs.Talked.{Talked}

-- the changes of the second go on from those of the first
record Grows (first second : List Change) : Type 0 where
  more : List Change
  parts : second ≡ first ++ more

grows_none : (first second : List Change) → second ≡ first → Grows first second
grows_none first second same = record { more = []; parts = same ∙ sym (append-nil first) }

-- behind a restart too
grows_next : (changes lost next : List Change) → IsNextOpening changes lost next → Grows changes next
grows_next changes lost next (inl same) = grows_none changes next same
grows_next changes lost next (inr (one, is, more)) = record { more = one ∷ []; parts = more }

grows_item : (net : Net) (tells : Bool) (before after : Stand) (one : Item) (text : List ℕ) → tells ≡ true → PlaysItem net tells before one text after → Grows (changes_at before) (changes_at after)
grows_item net tells before after (item.Round round) text is played = record {
  more = changes_of played.entries;
  parts = ap (λ (o : List Change). o ++ changes_of after.history) played.opening
      ∙ ap (λ (h : List Entry). before.opening ++ changes_of h) played.kept
      ∙ ap (λ (c : List Change). before.opening ++ c) (changes_of-append before.history played.entries)
      ∙ sym (append_assoc before.opening (changes_of before.history) (changes_of played.entries));
}
grows_item net tells before after item.Restart text is played =
    let next : IsNextOpening (changes_at before) (lost_of before.history) after.opening = subst (λ (b : Bool). IsNextTime b before.opening before.history after.opening) is played.next in
    let grown = grows_next (changes_at before) (lost_of before.history) after.opening next in
    record {
      more = grown.more;
      parts = ap (λ (h : List Entry). after.opening ++ changes_of h) played.none ∙ append-nil after.opening ∙ grown.parts;
    }
grows_item net tells before after (item.Heard line) text is played = grows_none (changes_at before) (changes_at after) (ap changes_at played.1)

grows_then : (first second third : List Change) → Grows first second → Grows second third → Grows first third
grows_then first second third one two = record { more = one.more ++ two.more; parts = two.parts ∙ ap (λ (l : List Change). l ++ two.more) one.parts ∙ append_assoc first one.more two.more }

grows_items : (net : Net) (tells : Bool) (before after : Stand) (items : List Item) (text : List ℕ) → tells ≡ true → PlaysItems net tells before items text after → Grows (changes_at before) (changes_at after)
grows_items net tells before after [] text is (nothing, same) = grows_none (changes_at before) (changes_at after) (ap changes_at same)
grows_items net tells before after (one ∷ items) text is (between, own, rest, played, more, text_is) =
    grows_then (changes_at before) (changes_at between) (changes_at after) (grows_item net tells before between one own is played) (grows_items net tells between after items rest is more)

grows_step : (net : Net) (tells : Bool) (before after : Stand) (stp : Step) (parts : List Item) (text : List ℕ) → tells ≡ true → PlaysStep net tells before stp parts text after → Grows (changes_at before) (changes_at after)
grows_step net tells before after (step.Plays one) parts text is played = grows_item net tells before after one text is played.0
grows_step net tells before after step.Nothing parts text is played = grows_none (changes_at before) (changes_at after) (ap changes_at played.1)
grows_step net tells before after (step.Fault code) parts text is played = grows_none (changes_at before) (changes_at after) (ap changes_at played.1)
grows_step net tells before after (step.Clock on) parts text is played = grows_none (changes_at before) (changes_at after) (ap changes_at played.1)
grows_step net tells before after (step.Tells one) parts text is played = grows_none (changes_at before) (changes_at after) (ap changes_at played.1)
grows_step net tells before after (step.All said) parts text is (inl (tried, played, all)) = grows_items net tells before after parts text is played
grows_step net tells before after (step.All said) parts text is (inr (refusal, tried, told, same, none)) = grows_none (changes_at before) (changes_at after) (ap changes_at same)

-- the first of them
lasts_first : (net : Net) (sites : Sites) (tells : Bool) (at : ℕ) (blocks : Open) (timed : Bool) (before : Stand) (shown : Shown) (exchanges : List Exchange) (parts : List Item) (after : Stand) (played : PlaysLines net sites tells at blocks timed before shown exchanges parts after)
    (end : Option Crashes) → EachLasts net sites tells at blocks timed before shown exchanges parts after played end → Last net (changes_at before) shown.crashes end
lasts_first net sites tells at blocks timed before shown [] parts after played end each = each
lasts_first net sites tells at blocks timed before shown (first ∷ exchanges) parts after played end each = each.0

-- what lasts behind the last of them makes that each does
lasts_each : (net : Net) (sites : Sites) (tells : Bool) (at : ℕ) (blocks : Open) (timed : Bool) (before : Stand) (shown : Shown) (exchanges : List Exchange) (parts : List Item) (after : Stand) (end : Option Crashes) → tells ≡ true
    → (played : PlaysLines net sites tells at blocks timed before shown exchanges parts after) → Last net (changes_at after) (shown_behind shown exchanges).crashes end
    → EachLasts net sites tells at blocks timed before shown exchanges parts after played end
lasts_each net sites tells at blocks timed before shown [] parts after end is played last = subst (λ (s : Stand). Last net (changes_at s) shown.crashes end) played.0 last
lasts_each net sites tells at blocks timed before shown (first ∷ exchanges) parts after end is (next, own, asked, others, played, going, parts_are, known, told, text_is, shows, lasts) last =
    let rest_open = (row_in net sites at blocks first).0 in
    let on = timed_behind timed (row_in net sites at blocks first).1 in
    let grown = grows_step net tells before next (row_in net sites at blocks first).1 asked own is played in
    let rest = lasts_each net sites tells (at + 1) rest_open on next first.shown exchanges others after end is going last in
    let later = lasts_first net sites tells (at + 1) rest_open on next first.shown exchanges others after going end rest in
    let then = last_first net (changes_at before) grown.more first.shown.crashes end (subst (λ (c : List Change). Last net c first.shown.crashes end) grown.parts later) in
    (last_then net (changes_at before) shown.crashes first.shown.crashes end lasts then, rest)

-- so it is in a session
pub answered_lasts : (net : Net) (sites : Sites) (talk : Talked) (stored : Stored) (opening : List Change) (status : ℕ) (histories : List History) (events : List Event) → is_some stored.before ≡ true
    → (ends : SessionEndsFrom net sites talk stored opening status histories events) → AnsweredLasts net sites talk stored opening status histories events ends
answered_lasts net sites talk stored opening status histories events tells (inl breaks) =
    lasts_each net sites (is_some stored.before) 1 [] false (at_start net sites opening) breaks.start breaks.exchanges breaks.parts breaks.stand talk.store.crashes tells breaks.played breaks.lasts
answered_lasts net sites talk stored opening status histories events tells (inr (inl whole)) =
    lasts_each net sites (is_some stored.before) 1 [] false (at_start net sites opening) whole.start whole.exchanges whole.session.parts whole.session.run.end talk.store.crashes tells whole.session.played whole.lasts
answered_lasts net sites talk stored opening status histories events tells (inr (inr (inl unsaid))) =
    lasts_each net sites (is_some stored.before) 1 [] false (at_start net sites opening) unsaid.start unsaid.exchanges unsaid.session.parts unsaid.session.run.end talk.store.crashes tells unsaid.session.played unsaid.lasts
answered_lasts net sites talk stored opening status histories events tells (inr (inr (inr until))) =
    lasts_each net sites (is_some stored.before) 1 [] false (at_start net sites opening) until.start until.exchanges until.session.parts until.session.run.end talk.store.crashes tells until.session.played until.lasts
