-- What the lines of a block come to on a copy of the book without its store: the edit of each, one after the other, and what the planner
-- makes of them then. The book itself does not change.
use Rattle.std.specs.Prelude.{◌≡◌, ◌≢◌, ◌⊎◌, ℕ, ◌+◌, ◌++◌, true, false, List, [], ◌∷◌, All, Option, Some, None, decimal}
use Rattle.bt_net.specs.Network.{Net}
use Rattle.bt_journal.specs.declared.call.Call.TheVariants as call
use Rattle.bt_journal.specs.declared.call.Edit.{Edit}
use Rattle.bt_journal.specs.declared.entry.Entry.{Entry}
use Rattle.bt_journal.specs.declared.reply.Reply.{Reply}
use Rattle.bt_journal.specs.declared.reply.Reply.TheVariants.{StoreFault}
use Rattle.bt_journal.specs.Journal.{is_made}
use Rattle.bt_history.specs.Machine.{State, AreSteps, Step}
use Rattle.bt_script.specs.declared.line.ScriptLine.{ScriptLine}
use Rattle.bt_script.specs.declared.line.ScriptLine.TheVariants as line
use Rattle.bt_script.specs.declared.script.DeskLine.TheVariants as desk_line
use Rattle.bt_words.specs.declared.form.Form.TheVariants as form
use Rattle.bt_words.specs.Filled.{form_line}
use Rattle.bt_timeline.specs.Timeline.{entry_line}
use Rattle.bt_round.specs.Planning.{PlansOnce, planner_text}

-- the edit that a line of a block asks, behind its desk; the other lines ask none
abbrev pub edit_asked : ScriptLine → Option (ℕ × Edit)
edit_asked (line.Desk desk (desk_line.Edit edit)) = Some (desk, edit)
edit_asked (line.Desk desk (desk_line.Show terminal)) = None
edit_asked line.Remark = None
edit_asked line.Round = None
edit_asked line.Restart = None
edit_asked line.Plan = None
edit_asked (line.Air own) = None

-- an edit is tried: the machine answers it by a step, and no store fails
pub record IsTried (net : Net) (old : State) (edit : Edit) (reply : Reply) (new : State) : Type 0 where
  pub step : Step net old (call.Edit edit) reply new
  pub sure : reply ≢ StoreFault

-- the line of what the edit of a desk is answered
abbrev pub tried_line : Net → ℕ × Edit → Reply → List ℕ
tried_line net asked reply = entry_line net (Some asked.0) (record { caller = asked.0 + 1; call = call.Edit asked.1; reply = reply })

-- what a line of a block comes to: the edit that it asks is tried and its answer told; where it asks none, nothing is told
abbrev pub TriesEdit : Net → State → Option (ℕ × Edit) → List ℕ → State → Type 0
TriesEdit net old None text new = (text ≡ []) × (new ≡ old)
TriesEdit net old (Some asked) text new = (reply : Reply) × IsTried net old asked.1 reply new × (text ≡ tried_line net asked reply)

-- what the lines of a block come to, one after the other
abbrev pub TriesLines : Net → State → List ScriptLine → List ℕ → State → Type 0
TriesLines net old [] text new = (text ≡ []) × (new ≡ old)
TriesLines net old (line ∷ lines) text new =
    (told : List ℕ) × (mid : State) × (more : List ℕ) × TriesEdit net old (edit_asked line) told mid × TriesLines net mid lines more new × (text ≡ told ++ more)

-- the store did not fail at the entry
abbrev pub IsSure : Entry → Type 0
IsSure entry = entry.reply ≢ StoreFault

-- what the planner comes to after these changes, as it is printed
pub record TriesPlan (net : Net) (state : State) (text : List ℕ) : Type 0 where
  pub entries : List Entry
  pub steps : AreSteps net state entries
  pub plans : PlansOnce net entries
  pub sure : All IsSure entries
  pub printed : text ≡ planner_text net entries

-- what a block comes to: the answer to the edit of each line, and behind them what the planner makes of them
pub record IsTry (net : Net) (state : State) (lines : List ScriptLine) (text : List ℕ) : Type 0 where
  pub edited : State
  pub answers : List ℕ
  pub plan : List ℕ
  pub tries : TriesLines net state lines answers edited
  pub plans : TriesPlan net edited plan
  pub whole : text ≡ answers ++ plan

-- the edit that a line asks is done, or it asks none
abbrev pub IsDoneThere : Net → State → Option (ℕ × Edit) → State → Type 0
IsDoneThere net old None new = new ≡ old
IsDoneThere net old (Some asked) new = (reply : Reply) × IsTried net old asked.1 reply new × (is_made reply ≡ true)

-- the edit that the line at this place asks is not done: so the block is refused, which names the place and tells the answer
abbrev pub IsRefusedThere : Net → State → ℕ → Option (ℕ × Edit) → Option (List ℕ) → Type 0
IsRefusedThere net old place None refusal = ⊥
IsRefusedThere net old place (Some asked) refusal =
    (reply : Reply) × (new : State) × IsTried net old asked.1 reply new × (is_made reply ≡ false)
    × (refusal ≡ Some (form_line form.BlockRefused (decimal place ∷ []) ++ tried_line net asked reply))

-- The refusal of a block whose first line stands at this place: that at the first line whose edit is not done behind those before it.
-- None where each edit is done.
abbrev pub AllTried : Net → State → ℕ → List ScriptLine → Option (List ℕ) → Type 0
AllTried net old place [] refusal = refusal ≡ None
AllTried net old place (line ∷ lines) refusal =
    IsRefusedThere net old place (edit_asked line) refusal
    ⊎ ((new : State) × IsDoneThere net old (edit_asked line) new × AllTried net new (place + 1) lines refusal)
