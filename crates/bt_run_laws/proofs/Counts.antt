-- How many edits a run asks for: no more than its script has lines.
use Rattle.std.proofs.Common.{◌≡◌, ℕ, ◌+◌, ◌≤◌, ◌&&◌, Bool, true, false, cond, List, [], ◌∷◌, ◌++◌, length, ap, ◌∙◌, arith, append-nil}
use Rattle.std.specs.Prelude.{filter}
use Rattle.std.proofs.lemmas.List.Concat.{flat_map-append}
use Rattle.std.proofs.lemmas.List.Sums.{sum_by-cons}
use Rattle.bt_frame.specs.declared.limits.TheConstants.{MOST_LINES}
use Rattle.bt_net.specs.Network.{Net}
use Rattle.bt_script.specs.declared.sites.Sites.TheVariants.{Together}
use Rattle.bt_journal.specs.declared.call.Change.{Change}
use Rattle.bt_journal.specs.declared.entry.Entry.{Entry}
use Rattle.bt_journal.specs.Journal.{asks_edit, calls_of, is_fault, is_made, is_refusal, failed_of, refused_of}
use Rattle.bt_script.specs.declared.script.Item.{Item}
use Rattle.bt_script.specs.declared.script.Item.TheVariants as item
use Rattle.bt_script.specs.Length.{item_length, script_length}
use Rattle.bt_centre.specs.declared.history.History.{History}
use Rattle.bt_centre.specs.Lines.{done_of}
use Rattle.bt_centre.specs.Run.{PlaysItem, PlaysItems, Stand, at_start, entries_of, history_at, histories_at}
use Rattle.bt_run_laws.specs.Small.{AreParts}
use Rattle.bt_run_laws.proofs.ByCaller.{edits, edits-append, edits-cons, edits_counted}
use Rattle.bt_run_laws.proofs.NoEdits.{centre_asks_none, planner_asks_none}

-- the edits of all times up to here
abbrev pub edits_at : Stand → ℕ
edits_at stand = edits (entries_of (histories_at stand))

-- they are those of the times that are over and those of the present one
by_time : (stand : Stand) → edits_at stand ≡ edits (entries_of stand.over) + edits stand.history
by_time stand =
    ap edits (flat_map-append (λ (history : History). history.entries) stand.over (history_at stand ∷ []))
    ∙ edits-append (entries_of stand.over) (stand.history ++ []) ∙ ap (λ (own : List Entry). edits (entries_of stand.over) + edits own) (append-nil stand.history)

-- each part of a script adds no more edits than it has lines
module _ (net : Net) (tells : Bool) where
  item_edits : (before : Stand) (one : Item) (text : List ℕ) (after : Stand) → PlaysItem net tells before one text after → edits_at after ≤ edits_at before + item_length one
  item_edits before (item.Round round) text after is =
      let few = edits_counted round is.entries is.desks (centre_asks_none net before.air round.air (calls_of is.entries 0) is.air_text after.air is.centre)
      (planner_asks_none net round.plans (calls_of is.entries 1) is.planner) in
      omega (arith, few, by_time before, by_time after, ap (λ (over : List History). edits (entries_of over)) is.over, ap edits is.kept, edits-append before.history is.entries)
  item_edits before item.Restart text after is =
      omega (arith, by_time after, ap (λ (over : List History). edits (entries_of over)) is.over, ap edits is.none)
  item_edits before (item.Heard line) text after is = omega (arith, ap edits_at is.1)

  pub edits_asked : (before : Stand) (items : List Item) (text : List ℕ) (after : Stand) → PlaysItems net tells before items text after → edits_at after ≤ edits_at before + script_length items
  edits_asked before [] text after is = omega (arith, ap edits_at is.1)
  edits_asked before (first ∷ items) text after (between, own, others, here, later, whole) =
      omega (arith, item_edits before first own between here, edits_asked between items others after later, sum_by-cons item_length first items)

-- of the entries that ask for an edit, some pass another test too
fewer : (test : Entry → Bool) (entries : List Entry) → length (filter (λ (entry : Entry). asks_edit entry.call && test entry) entries) ≤ edits entries
fewer test [] = omega arith
fewer test (first ∷ rest) = with_first (asks_edit first.call) (test first) (omega (arith, edits-cons first rest, fewer test rest))
  where
    own : List Entry
    own = filter (λ (entry : Entry). asks_edit entry.call && test entry) rest

    with_first : (asks passes : Bool) → cond asks 1 0 + length own ≤ edits (first ∷ rest) → length (cond (asks && passes) (first ∷ own) own) ≤ edits (first ∷ rest)
    with_first true true few = omega arith
    with_first true false few = omega arith
    with_first false passes few = omega arith

-- In a run of a script the edits that were done, those that were refused and those that the store failed are no more than it has lines.
pub totals_small : (net : Net) (tells : Bool) (opening : List Change) (items : List Item) (lines : List ℕ) (end : Stand)
    → PlaysItems net tells (at_start net Together opening) items lines end → AreParts items
    → (length (done_of (entries_of (histories_at end))) ≤ MOST_LINES) × (length (refused_of (entries_of (histories_at end))) ≤ MOST_LINES) × (length (failed_of (entries_of (histories_at end))) ≤ MOST_LINES)
totals_small net tells opening items lines end played parts =
    let entries = entries_of (histories_at end) in
    let few : edits entries ≤ MOST_LINES = omega (arith, edits_asked net tells (at_start net Together opening) items lines end played, parts.few) in (
      omega (arith, few, fewer (λ (entry : Entry). is_made entry.reply) entries),
      omega (arith, few, fewer (λ (entry : Entry). is_refusal entry.reply) entries),
      omega (arith, few, fewer (λ (entry : Entry). is_fault entry.reply) entries),
    )
