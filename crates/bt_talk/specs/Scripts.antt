-- The session that asks what a script asks.
use Rattle.std.specs.Prelude.{◌≡◌, ℕ, ◌+◌, ◌&&◌, if◌then◌else◌, Bool, false, List, [], ◌∷◌, ◌++◌, codes, Some, Ok}
use Rattle.bt_text.specs.Text.{lines}
use Rattle.bt_net.specs.Network.{Net}
use Rattle.bt_journal.specs.declared.call.Change.{Change}
use Rattle.bt_script.specs.declared.sites.Sites.TheVariants.{Together}
use Rattle.bt_script.specs.declared.line.ScriptLine.{ScriptLine}
use Rattle.bt_script.specs.ScriptText.{ends_round, is_open_behind, items_of, lines_in}
use Rattle.bt_talk.specs.Asked.{Came, parts_of}

-- the line `go`, where a round is open that ends here
abbrev pub go_if : Bool → List (List ℕ)
go_if is_open = if is_open then codes "go" ∷ [] else []

-- The lines of a script that say this, with `go` in front of each that ends a round, and behind them where one is open there. Behind
-- what they say stands no line, or none with a newline.
abbrev pub session_of : (is_open : Bool) → List (List ℕ) → List ScriptLine → List (List ℕ)
session_of is_open (text ∷ texts) (one ∷ said) = go_if (is_open && ends_round one) ++ text ∷ session_of (is_open_behind is_open one) texts said
session_of is_open texts [] = go_if is_open
session_of is_open [] (one ∷ said) = go_if is_open

-- such lines, the first of them line `at`, each heard when the changes were made that are known for its number
abbrev pub came_from : (ℕ → List Change) → ℕ → List (List ℕ) → List Came
came_from known at [] = []
came_from known at (text ∷ texts) = (known at, Some text) ∷ came_from known (at + 1) texts

-- such lines ask, in a session, the rounds and restarts of the script, whatever changes are made meanwhile
abbrev pub AskItems : Type 0
AskItems = (net : Net) (text : List ℕ) (said : List ScriptLine) (known : ℕ → List Change) → lines_in net 1 false (lines text) ≡ Ok said
    → parts_of net Together 1 [] (came_from known 1 (session_of false (lines text) said)) ≡ items_of said
