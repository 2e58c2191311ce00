-- Looks at a journal, `state NET JOURNAL`, `demand NET JOURNAL [EDITION]`, `installed NET JOURNAL [EDITION]`, `compact NET JOURNAL` and `metrics NET JOURNAL`:
-- the network is loaded, then the bytes of the journal, which stay as they are, and what these tell is printed.
use Rattle.std.specs.Prelude.{◌≡◌, ◌⊎◌, ℕ, ◌≤◌, List, length, Option, Some, None, IsSomeAnd}
use Rattle.bt_frame.specs.declared.limits.TheConstants.{MOST_JOURNAL_BYTES}
use Rattle.bt_net.specs.Network.{Net, IsSound}
use Rattle.bt_history.specs.declared.fault.RecoverFault.{RecoverFault}
use Rattle.bt_history.specs.declared.fault.RecoverFault.TheVariants.{StoreFault, TooLong}
use Rattle.bt_look.specs.Installed.{TellsInstalled}
use Rattle.bt_look.specs.Look.{IsLookFault, TellsCompact, TellsDemand}
use Rattle.bt_look.specs.State.{TellsState}
use Rattle.bt_export.specs.Metrics.{TellsMetrics}
use Rattle.bt_report.specs.declared.status.TheConstants.{DONE}
use Rattle.bt_report.specs.Faults.{SaysFaultyWords}
use Rattle.bt_report.specs.Outcome.{Outcome, text_alone}
use Rattle.bt_load.specs.Kinds.{journal_file, network_file}
use Rattle.bt_load.specs.Loaders.{Loader, and_then, file}
use Rattle.bt_cli.specs.declared.look.Look.{Look}
use Rattle.bt_cli.specs.declared.look.Look.TheVariants as look
use Rattle.bt_cli.specs.Replay.{NamesRecoverFault}

-- the network is loaded, and then the bytes of a journal
abbrev pub journal_files : List ℕ → List ℕ → Loader (Net × List ℕ)
journal_files net journal = and_then (file network_file net) (λ network. file journal_file journal)

-- the first line at fault of these bytes is named
abbrev pub NamesLine : Net → List ℕ → Outcome → Type 0
NamesLine net bytes outcome = (fault : RecoverFault) × IsLookFault net bytes fault × NamesRecoverFault fault outcome

-- What a look comes to: on a sound network the bytes, no more than a journal may have, tell changes, of which this is printed; or
-- their first line at fault is named.
pub record Looks (Prints : Outcome → Type 0) (net : Net) (bytes : List ℕ) (outcome : Outcome) : Type 0 where
  pub sound : IsSound net
  pub short : length bytes ≤ MOST_JOURNAL_BYTES
  pub comes : Prints outcome ⊎ NamesLine net bytes outcome

-- such a text, and nothing else
abbrev pub PrintsText : (List ℕ → Type 0) → Outcome → Type 0
PrintsText Tells outcome = (text : List ℕ) × Tells text × (outcome ≡ text_alone text DONE)

-- such a text; or the words ask for one that is not there, and are at fault
abbrev pub PrintsOrNone : (Option (List ℕ) → Type 0) → Outcome → Type 0
PrintsOrNone Tells outcome = PrintsText (λ text. Tells (Some text)) outcome ⊎ (Tells None × SaysFaultyWords outcome)

-- the text that is told in a look
abbrev pub TellsLook : Look → Net → List ℕ → Option (List ℕ) → Type 0
TellsLook look.State net bytes text = IsSomeAnd text (TellsState net bytes)
TellsLook (look.Demand asked) net bytes text = TellsDemand net bytes asked text
TellsLook (look.Installed asked) net bytes text = TellsInstalled net bytes asked text
TellsLook look.Compact net bytes text = IsSomeAnd text (TellsCompact net bytes)
TellsLook look.Metrics net bytes text = IsSomeAnd text (TellsMetrics net bytes)

-- that text, or why there is none
abbrev pub PrintsLook : Look → Net → List ℕ → Outcome → Type 0
PrintsLook look net bytes = Looks (PrintsOrNone (TellsLook look net bytes)) net bytes

-- ---- for bodies alone

-- the fault is one of lines, or memory ran out
abbrev pub IsOfLines : RecoverFault → Type 0
IsOfLines StoreFault = ⊥
IsOfLines TooLong = ⊥
IsOfLines _ = Unit {0}
