-- `page NET JOURNAL [ANSWERS] [every SECONDS]`: the network is loaded, then the bytes of the journal, which stay as they are, then those
-- of the answers of a session or of a centre, and the page of what the journal tells is printed, with what is shown of the answers.
use Rattle.std.specs.Prelude.{◌≡◌, ◌⊎◌, ℕ, List, [], codes, Option}
use Rattle.bt_net.specs.Network.{IsSound, Net}
use Rattle.bt_history.specs.Recovery.{IsFirstNoLine, IsFirstStray}
use Rattle.bt_chart.specs.Page.{TellsPage}
use Rattle.bt_report.specs.declared.status.TheConstants.{DONE, FAULTY_JOURNAL}
use Rattle.bt_report.specs.Faults.{line_fault_words}
use Rattle.bt_report.specs.Outcome.{Outcome, Says, text_alone}
use Rattle.bt_load.specs.Kinds.{journal_file, network_file}
use Rattle.bt_load.specs.Loaders.{Loader, and_then, file}

-- the network is loaded, and then the bytes of a journal
abbrev pub page_files : List ℕ → List ℕ → Loader (Net × List ℕ)
page_files net journal = and_then (file network_file net) (λ network. file journal_file journal)

-- the bytes of a journal are loaded, and then the answers of a session or of a centre, whose bytes are read as they are too
abbrev pub both_files : (journal answers : List ℕ) → Loader (List ℕ × List ℕ)
both_files journal answers = and_then (file journal_file journal) (λ bytes. file journal_file answers)

-- the same behind a network
abbrev pub answered_files : (net journal answers : List ℕ) → Loader (Net × (List ℕ × List ℕ))
answered_files net journal answers = and_then (file network_file net) (λ network. both_files journal answers)

-- what a page shows beside its journal is this
abbrev pub AreShown : (one other air ladder : List ℕ) → Type 0
AreShown one other air ladder = (air ≡ one) × (ladder ≡ other)

-- without answers it is nothing
abbrev pub ShowsNothing : (air ladder : List ℕ) → Type 0
ShowsNothing air ladder = AreShown [] [] air ladder

-- and what it is of answers is not claimed
abbrev pub ShowsAnswers : (air ladder : List ℕ) → Type 0
ShowsAnswers air ladder = Unit {0}

-- the page of what the bytes tell, with these parts beside it, and nothing else
abbrev pub ShowsPage : (List ℕ → List ℕ → Type 0) → Option ℕ → Net → List ℕ → Outcome → Type 0
ShowsPage Beside seconds net bytes outcome =
    (air : List ℕ) × (ladder : List ℕ) × (text : List ℕ) × Beside air ladder × TellsPage seconds net bytes air ladder text × (outcome ≡ text_alone text DONE)

-- a line of a journal is named, by this code
abbrev pub NamesLine : List ℕ → ℕ → Outcome → Type 0
NamesLine code number outcome = Says (line_fault_words code number) FAULTY_JOURNAL outcome

-- the first line that is of no change is named, or the first whose change does not follow
abbrev pub NamesNoLine : Net → List ℕ → Outcome → Type 0
NamesNoLine net bytes outcome = (number : ℕ) × IsFirstNoLine net bytes number × NamesLine (codes "J1") number outcome

abbrev pub NamesStray : Net → List ℕ → Outcome → Type 0
NamesStray net bytes outcome = (number : ℕ) × IsFirstStray net bytes number × NamesLine (codes "J2") number outcome

-- what a page comes to: on a sound network the bytes tell changes, and their page is shown; or their first line at fault is named
pub record DrawsPage (Beside : List ℕ → List ℕ → Type 0) (seconds : Option ℕ) (net : Net) (bytes : List ℕ) (outcome : Outcome) : Type 0 where
  pub sound : IsSound net
  pub comes : ShowsPage Beside seconds net bytes outcome ⊎ NamesNoLine net bytes outcome ⊎ NamesStray net bytes outcome
