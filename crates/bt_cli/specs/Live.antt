-- `live NET JOURNAL` and `centre NET JOURNAL`: the network is loaded, and then there is a session on it, from the changes that the store
-- tells. The sites of the one are together, and those of the other apart.
use Rattle.std.specs.Prelude.{◌⊎◌, ℕ, ◌&&◌, ◌||◌, if◌then◌else◌, nat_lt, Bool, length, codes, List, [], ◌∷◌, Option, Some, None}
use Rattle.std.specs.Str.{bytes_eq}
use Rattle.bt_script.specs.declared.sites.Sites.{Sites}
use Rattle.bt_script.specs.declared.sites.Sites.TheVariants.{Together, Apart}
use Rattle.bt_net.specs.Network.{Net, IsSound}
use Rattle.bt_report.specs.Faults.{SaysFaultyWords}
use Rattle.bt_report.specs.Input.{Input, FilesFailed}
use Rattle.bt_report.specs.Outcome.{Outcome}
use Rattle.bt_report.specs.Stored.{Stored}
use Rattle.bt_report.specs.declared.report.Stop.{Stop}
use Rattle.bt_report.specs.declared.report.Stop.TheVariants.{Early, OutOfMemory}
use Rattle.bt_centre.specs.Session.{SessionTo}
use Rattle.bt_centre.specs.Talked.{Says, SaysNothing, SaysOrNot, Talked}
use Rattle.bt_load.specs.Files.{IsLoaded, StopsAtLoad}
use Rattle.bt_load.specs.Kinds.{network_file}
use Rattle.bt_cli.specs.Run.{BeginsNoRun, End}

-- the word is a command that holds a session
abbrev pub is_session : List ℕ → Bool
is_session command = bytes_eq command (codes "live") || bytes_eq command (codes "centre")

-- the files that these words ask for, none of which is an empty word
abbrev pub live_request : List ℕ → List ℕ → List ℕ → Option (List ℕ × List ℕ)
live_request command net journal =
    if is_session command then (if nat_lt 0 (length net) && nat_lt 0 (length journal) then Some (net, journal) else None) else None

-- the files of the network and of the journal of a session, where the words ask for one
abbrev pub live_words : List (List ℕ) → Option (List ℕ × List ℕ)
live_words (command ∷ net ∷ journal ∷ []) = live_request command net journal
live_words _ = None

-- where the sites of the session are for which the words ask
abbrev pub sites_asked : List (List ℕ) → Sites
sites_asked [] = Together
sites_asked (command ∷ files) = if bytes_eq command (codes "centre") then Apart else Together

-- memory ran out, and no turn was taken; or the work had one of these outcomes, and it was said
abbrev pub SaysOneOf : Talked → (Outcome → Type 0) → ℕ → Type 0
SaysOneOf talk Outcomes status = SaysNothing talk status ⊎ ((outcome : Outcome) × Outcomes outcome × Says talk outcome.text outcome.status status)

-- how it ends after this stop was to be said
abbrev pub SaysStop : Talked → Stop → ℕ → Type 0
SaysStop talk (Early report) status = SaysOrNot talk report.text.items report.status status
SaysStop talk OutOfMemory status = SaysNothing talk status

-- the network was loaded, which is sound, and there was a session on it; or why it could not be was said, no line was heard, and the
-- store is as it was given
abbrev pub EndsOn : Sites → Input → Talked → Stored → List ℕ → End → Type 0
EndsOn sites input talk stored net end =
    (BeginsNoRun stored end × SaysOneOf talk (StopsAtLoad network_file input.told (FilesFailed input) net) end.status)
    ⊎ ((network : Net) × IsLoaded network_file input.told net network × IsSound network × SessionTo network sites talk stored end.status end.histories end.events)

-- how a session ends whose words ask for these files, or for none
abbrev pub EndsLive : Sites → Input → Talked → Stored → Option (List ℕ × List ℕ) → End → Type 0
EndsLive sites input talk stored (Some asked) end = EndsOn sites input talk stored asked.0 end
EndsLive sites input talk stored None end = BeginsNoRun stored end × SaysOneOf talk SaysFaultyWords end.status
