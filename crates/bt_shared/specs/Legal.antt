-- Histories of an object's calls.
use Rattle.std.specs.Prelude.{◌≡◌, ℕ, List, [], ◌∷◌, ◌++◌, filter, ◌==◌}
use Rattle.bt_shared.specs.declared.object.TurnEntry.{TurnEntry}

-- each entry is a step, from the first object on, and the last one leaves the second
abbrev pub Legal : {O C R : Type 0} → (O → ℕ → C → R → O → Type 0) → O → List (TurnEntry C R) → O → Type 0
Legal steps from [] to = to ≡ from
Legal {O} steps from (entry ∷ entries) to = (next : O) × (steps from entry.caller entry.call entry.reply next × Legal steps next entries to)

-- the entries of one caller, in order
abbrev pub calls_by : {C R : Type 0} → ℕ → List (TurnEntry C R) → List (TurnEntry C R)
calls_by number log = filter (λ entry. entry.caller == number) log

-- the entry of one call
abbrev pub entry_of : {C R : Type 0} → ℕ → C → R → TurnEntry C R
entry_of caller call reply = record { caller = caller; call = call; reply = reply }

-- The history of a line: it leads from the object at the start to the object at the end, whose stored history is what
-- was stored at the start, and then this.
pub record IsHistory {O C R : Type 0} (steps : O → ℕ → C → R → O → Type 0) (history : O → List (TurnEntry C R)) (start end : O) (log : List (TurnEntry C R)) : Type 0 where
  pub legal : Legal steps start log end
  pub stored : history end ≡ history start ++ log
