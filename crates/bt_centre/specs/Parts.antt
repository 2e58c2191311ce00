-- What holds of each part of a run.
use Rattle.std.specs.Prelude.{ℕ, Bool, List, [], ◌∷◌}
use Rattle.std.proofs.Common.{inl, inr}
use Rattle.std.specs.Option.{is_some}
use Rattle.bt_net.specs.Network.{Net}
use Rattle.bt_air.specs.declared.event.Event.{Event}
use Rattle.bt_script.specs.declared.sites.Sites.{Sites}
use Rattle.bt_script.specs.declared.sites.Sites.TheVariants.{Together}
use Rattle.bt_journal.specs.declared.call.Change.{Change}
use Rattle.bt_script.specs.declared.script.Item.{Item}
use Rattle.bt_centre.specs.declared.history.History.{History}
use Rattle.bt_report.specs.Output.{Output}
use Rattle.bt_centre.specs.Run.{EndsFrom, IsRun, PlaysItem, PlaysItems, Stand, at_start}
use Rattle.bt_report.specs.Stored.{Stored}
use Rattle.bt_centre.specs.Session.{SessionEndsFrom}
use Rattle.bt_centre.specs.Talked.{Talked}

-- this holds of each of the parts that were played: of where the run stood before it, of the part and its text, of where it stood behind
-- it, and of how it came there
abbrev pub EachPart : ((net : Net) → (tells : Bool) → (before : Stand) → (one : Item) → (text : List ℕ) → (after : Stand) → PlaysItem net tells before one text after → Type 0)
    → (net : Net) → (tells : Bool) → (before : Stand) → (items : List Item) → (text : List ℕ) → (after : Stand) → PlaysItems net tells before items text after → Type 0
EachPart IsSo net tells before [] text after played = Unit {0}
EachPart IsSo net tells before (first ∷ items) text after played =
    IsSo net tells before first played.1 played.0 played.3 × EachPart IsSo net tells played.0 items played.2 after played.4

-- of each part of a run
abbrev pub EachPartOfRun : ((net : Net) → (tells : Bool) → (before : Stand) → (one : Item) → (text : List ℕ) → (after : Stand) → PlaysItem net tells before one text after → Type 0)
    → (net : Net) → (sites : Sites) → (tells : Bool) → (opening : List Change) → (items : List Item) → (histories : List History) → (events : List Event) → (lines : List ℕ)
    → IsRun net sites tells opening items histories events lines → Type 0
EachPartOfRun IsSo net sites tells opening items histories events lines run =
    EachPart IsSo net tells (at_start net sites opening) items lines run.end run.played

-- of each part that was run, however the run ended; where memory ran out, it is not told which parts these are
abbrev pub EachPartAtEnd : ((net : Net) → (tells : Bool) → (before : Stand) → (one : Item) → (text : List ℕ) → (after : Stand) → PlaysItem net tells before one text after → Type 0)
    → (net : Net) → (items : List Item) → (output : Output) → (stored : Stored) → (opening : List Change) → (status : ℕ) → (histories : List History) → (events : List Event)
    → EndsFrom net items output stored opening status histories events → Type 0
EachPartAtEnd IsSo net items output stored opening status histories events (inl breaks) = Unit {0}
EachPartAtEnd IsSo net items output stored opening status histories events (inr (inl whole)) =
    EachPartOfRun IsSo net Together (is_some stored.before) opening items histories events whole.lines whole.run
EachPartAtEnd IsSo net items output stored opening status histories events (inr (inr (inl partly))) =
    EachPartOfRun IsSo net Together (is_some stored.before) opening partly.first histories events partly.lines partly.run
EachPartAtEnd IsSo net items output stored opening status histories events (inr (inr (inr until))) =
    EachPartOfRun IsSo net Together (is_some stored.before) opening until.first histories events until.lines until.run

-- of each part that the lines of a session asked, however it ended; where memory ran out, the parts are those of the lines that were played,
-- and nothing is said of them here
abbrev pub EachPartOfSession : ((net : Net) → (tells : Bool) → (before : Stand) → (one : Item) → (text : List ℕ) → (after : Stand) → PlaysItem net tells before one text after → Type 0)
    → (net : Net) → (sites : Sites) → (talk : Talked) → (stored : Stored) → (opening : List Change) → (status : ℕ) → (histories : List History) → (events : List Event)
    → SessionEndsFrom net sites talk stored opening status histories events → Type 0
EachPartOfSession IsSo net sites talk stored opening status histories events (inl breaks) = Unit {0}
EachPartOfSession IsSo net sites talk stored opening status histories events (inr (inl whole)) =
    EachPartOfRun IsSo net sites (is_some stored.before) opening whole.session.parts histories events whole.session.lines whole.session.run
EachPartOfSession IsSo net sites talk stored opening status histories events (inr (inr (inl unsaid))) =
    EachPartOfRun IsSo net sites (is_some stored.before) opening unsaid.session.parts histories events unsaid.session.lines unsaid.session.run
EachPartOfSession IsSo net sites talk stored opening status histories events (inr (inr (inr until))) =
    EachPartOfRun IsSo net sites (is_some stored.before) opening until.session.parts histories events until.session.lines until.session.run
