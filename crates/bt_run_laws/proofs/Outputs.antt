-- The output of a whole run is read.
use Rattle.std.proofs.Common.{◌≡◌, ℕ, ◌≤◌, List, ◌++◌, length, reverse, Ok, sym, ◌∙◌, subst, arith}
use Rattle.bt_net.specs.Network.{IsSound, Net}
use Rattle.bt_script.specs.declared.sites.Sites.TheVariants.{Together}
use Rattle.bt_air.specs.declared.event.Event.{Event}
use Rattle.bt_site.specs.Event.{Opening}
use Rattle.bt_journal.specs.declared.call.Change.{Change}
use Rattle.bt_script.specs.declared.script.Item.{Item}
use Rattle.bt_report.specs.Stored.{Stored}
use Rattle.bt_run_lines.specs.Lines.{output_of}
use Rattle.bt_round.specs.AirLines.{events_in}
use Rattle.bt_centre.specs.declared.history.History.{History}
use Rattle.bt_centre.specs.Lines.{done_of, total_of}
use Rattle.bt_journal.specs.Journal.{failed_of, refused_of}
use Rattle.bt_centre.specs.Run.{IsLegalHistory, IsOpening, IsRun, Stand, at_start, entries_of, first_line, histories_at, history_at, opening_on, whole_text}
use Rattle.bt_centre.specs.World.{IsSpelledWorld}
use Rattle.bt_centre.proofs.Lawful.{same_last}
use Rattle.bt_run_laws.specs.Readable.{AreLines}
use Rattle.bt_run_laws.specs.Small.{AreParts}
use Rattle.bt_run_laws.proofs.Counts.{totals_small}
use Rattle.bt_run_laws.proofs.Read.{lines_read, more_lines}
use Rattle.bt_run_laws.proofs.Runs.{IsSet, IsTold, parts_printed, start_printed, told_at_start, total_printed}
use Rattle.bt_run_laws.proofs.Waiting.{few_at_start}

-- at the end of a run the present time is legal, and its world is the run's
told_at_end : (net : Net) (tells : _) (opening : List Change) (items : List Item) (histories : List History) (events : List Event) (lines : List ℕ)
    → (run : IsRun net Together tells opening items histories events lines) → IsSpelledWorld (opening_on net opening) (reverse events) → IsTold net run.end
told_at_end net tells opening items histories events lines run world =
    let last = same_last run.end.over run.legal.over (history_at run.end) run.legal.present (sym run.history ∙ run.legal.all) in
    record {
      legal = (subst (IsLegalHistory net run.end.opening) (sym last.1) run.legal.legal).legal;
      world = subst (λ (o : Opening). IsSpelledWorld o (reverse (events_in run.end.air))) (sym run.opened)
          (subst (λ (e : List Event). IsSpelledWorld (opening_on net opening) (reverse e)) run.events_are world);
    }

-- the last line
last_printed : (net : Net) (end : Stand) (histories : List History) → histories ≡ histories_at end
    → (length (done_of (entries_of (histories_at end))) ≤ 20000) × (length (refused_of (entries_of (histories_at end))) ≤ 20000) × (length (failed_of (entries_of (histories_at end))) ≤ 20000)
    → AreLines net (total_of (entries_of histories))
last_printed net end histories is (done, refused, failed) =
    let entries = entries_of (histories_at end) in
    subst (λ (h : List History). AreLines net (total_of (entries_of h))) (sym is)
    (total_printed net (length (done_of entries)) (length (refused_of entries)) (length (failed_of entries)) (omega (arith, done)) (omega (arith, refused)) (omega (arith, failed)))

-- all that a whole run prints is printed lines
whole_printed : (net : Net) (tells : _) (opening : List Change) (items : List Item) (histories : List History) (events : List Event) (lines : List ℕ) (stored : Stored)
    → IsSound net → AreParts items → IsOpening net stored opening → IsSpelledWorld (opening_on net opening) (reverse events)
    → IsRun net Together tells opening items histories events lines → AreLines net (whole_text net opening lines histories)
whole_printed net tells opening items histories events lines stored sound parts opens world run =
    let start = at_start net Together opening in
    let set : IsSet net start = record { follow = opens.follow; few = opens.few; air = few_at_start net opening } in
    let end = told_at_end net tells opening items histories events lines run world in
    let told = told_at_start net tells start items lines run.end run.played end in
    let first = start_printed net opening start.air opens.follow opens.few told.world set.air in
    let between = parts_printed net sound tells start items lines run.end run.played parts.small (omega (arith, parts.few)) set end in
    let last = last_printed net run.end histories run.history (totals_small net tells opening items lines run.end run.played parts) in
    more_lines net (first_line net Together opening ++ lines) (total_of (entries_of histories)) (more_lines net (first_line net Together opening) lines first between) last

-- and so it is read
pub whole_read : (net : Net) (tells : _) (opening : List Change) (items : List Item) (histories : List History) (events : List Event) (lines : List ℕ) (stored : Stored)
    → IsSound net → AreParts items → IsOpening net stored opening → IsSpelledWorld (opening_on net opening) (reverse events)
    → IsRun net Together tells opening items histories events lines → (are : AreLines net (whole_text net opening lines histories)) × (output_of net (whole_text net opening lines histories) ≡ Ok are.all)
whole_read net tells opening items histories events lines stored sound parts opens world run =
    let are = whole_printed net tells opening items histories events lines stored sound parts opens world run in
    (are, lines_read net sound (whole_text net opening lines histories) are)
