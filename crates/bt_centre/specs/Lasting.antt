-- What a crash leaves of what was answered in a session.
use Rattle.std.specs.Prelude.{ℕ, ◌+◌, Bool, false, List, [], ◌∷◌, Option}
use Rattle.std.proofs.Common.{inl, inr}
use Rattle.std.specs.Option.{is_some}
use Rattle.bt_outside.specs.Crash.{Crashes}
use Rattle.bt_outside.specs.Talk.{Shown}
use Rattle.bt_net.specs.Network.{Net}
use Rattle.bt_air.specs.declared.event.Event.{Event}
use Rattle.bt_script.specs.declared.sites.Sites.{Sites}
use Rattle.bt_journal.specs.declared.call.Change.{Change}
use Rattle.bt_history.specs.Crash.{Last}
use Rattle.bt_script.specs.declared.script.Item.{Item}
use Rattle.bt_talk.specs.Asked.{timed_behind}
use Rattle.bt_talk.specs.Blocks.{Open}
use Rattle.bt_report.specs.Stored.{Stored}
use Rattle.bt_centre.specs.declared.history.History.{History}
use Rattle.bt_centre.specs.Run.{Stand, at_start, changes_at}
use Rattle.bt_centre.specs.Session.{Exchange, PlaysLines, SessionEndsFrom, row_in}
use Rattle.bt_centre.specs.Talked.{Talked}

-- From each piece said to the end, the changes last that were made up to it: from the piece before these lines, and from that said to each
-- of them. So a crash at any moment from an answer on, up to the end, leaves a journal that is recovered to those changes at least.
abbrev pub EachLasts : (net : Net) → (sites : Sites) → (tells : Bool) → (at : ℕ) → (blocks : Open) → (timed : Bool) → (before : Stand) → (shown : Shown) → (exchanges : List Exchange) → (parts : List Item) → (after : Stand)
    → PlaysLines net sites tells at blocks timed before shown exchanges parts after → (end : Option Crashes) → Type 0
EachLasts net sites tells at blocks timed before shown [] parts after played end = Last net (changes_at before) shown.crashes end
EachLasts net sites tells at blocks timed before shown (first ∷ exchanges) parts after played end =
    Last net (changes_at before) shown.crashes end
    × EachLasts net sites tells (at + 1) (row_in net sites at blocks first).0 (timed_behind timed (row_in net sites at blocks first).1) played.0 first.shown exchanges played.3 after played.5 end

-- so it is in a session, however it ended
abbrev pub AnsweredLasts : (net : Net) → (sites : Sites) → (talk : Talked) → (stored : Stored) → (opening : List Change) → (status : ℕ) → (histories : List History) → (events : List Event)
    → SessionEndsFrom net sites talk stored opening status histories events → Type 0
AnsweredLasts net sites talk stored opening status histories events (inl breaks) =
    EachLasts net sites (is_some stored.before) 1 [] false (at_start net sites opening) breaks.start breaks.exchanges breaks.parts breaks.stand breaks.played talk.store.crashes
AnsweredLasts net sites talk stored opening status histories events (inr (inl whole)) =
    EachLasts net sites (is_some stored.before) 1 [] false (at_start net sites opening) whole.start whole.exchanges whole.session.parts whole.session.run.end whole.session.played talk.store.crashes
AnsweredLasts net sites talk stored opening status histories events (inr (inr (inl unsaid))) =
    EachLasts net sites (is_some stored.before) 1 [] false (at_start net sites opening) unsaid.start unsaid.exchanges unsaid.session.parts unsaid.session.run.end unsaid.session.played talk.store.crashes
AnsweredLasts net sites talk stored opening status histories events (inr (inr (inr until))) =
    EachLasts net sites (is_some stored.before) 1 [] false (at_start net sites opening) until.start until.exchanges until.session.parts until.session.run.end until.session.played talk.store.crashes
