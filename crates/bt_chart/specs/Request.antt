-- What the words after the program's name ask for.
use Rattle.std.specs.Prelude.{ℕ, ◌==◌, ◌&&◌, if◌then◌else◌, nat_lt, nat_le, length, codes, List, [], ◌∷◌, Option, Some, None, option_and_then, Bool, true, false}
use Rattle.std.specs.Str.{bytes_eq}
use Rattle.bt_text.specs.Text.{number_of}
use Rattle.bt_run_chart.specs.declared.view.Superframes.{Superframes}
use Rattle.bt_run_chart.specs.declared.view.View.{View}
use Rattle.bt_chart.specs.declared.command_line.TheConstants.{MOST_SECONDS}
use Rattle.bt_chart.specs.Range.{superframes_in}

-- a command with its words, or words of no command
pub data Request : Type 0 where
  Faulty : Request
  ChartPlan : List ℕ → List ℕ → List (List ℕ) → Request
  ChartRun : List ℕ → List ℕ → View → List (List ℕ) → Request
  ChartLadder : List ℕ → List ℕ → View → List (List ℕ) → Request
  ChartPage : List ℕ → List ℕ → Option ℕ → Request
  ChartAnswered : List ℕ → List ℕ → List ℕ → Option ℕ → Request

-- `plan NET PLAN [BEAM ..] [FIRST-LAST]`; a word that names a file is not empty
abbrev pub plan_request : List ℕ → List ℕ → List (List ℕ) → Request
plan_request net plan words = if nat_lt 0 (length net) && nat_lt 0 (length plan) then ChartPlan net plan words else Faulty

-- what is asked of a run's superframes, and the names behind that
pub record Chosen : Type 0 where
  pub view : View
  pub names : List (List ℕ)

-- the superframes of a range, folded or not, and all words behind it as names; where the first word is no range, all superframes
abbrev pub chosen_in : Bool → Option Superframes → List ℕ → List (List ℕ) → Chosen
chosen_in folds (Some range) word names = record { view = record { folds = folds; range = Some range }; names = names }
chosen_in folds None word names = record { view = record { folds = folds; range = None }; names = word ∷ names }

-- `[FIRST-LAST] [NAME ..]`
abbrev pub range_and_names : Bool → List (List ℕ) → Chosen
range_and_names folds [] = record { view = record { folds = folds; range = None }; names = [] }
range_and_names folds (word ∷ names) = chosen_in folds (superframes_in word) word names

-- `[all] [FIRST-LAST] [NAME ..]`
abbrev pub chosen_of : List (List ℕ) → Chosen
chosen_of [] = range_and_names true []
chosen_of (word ∷ words) = if bytes_eq word (codes "all") then range_and_names false words else range_and_names true (word ∷ words)

-- `run NET OUTPUT [all] [FIRST-LAST] [NAME ..]`
abbrev pub run_request : List ℕ → List ℕ → List (List ℕ) → Request
run_request net output words = if nat_lt 0 (length net) && nat_lt 0 (length output) then ChartRun net output (chosen_of words).view (chosen_of words).names else Faulty

-- `ladder NET OUTPUT [all] [FIRST-LAST] [NAME ..]`
abbrev pub ladder_request : List ℕ → List ℕ → List (List ℕ) → Request
ladder_request net output words = if nat_lt 0 (length net) && nat_lt 0 (length output) then ChartLadder net output (chosen_of words).view (chosen_of words).names else Faulty

-- the number, where it is one of seconds after which a page is loaded again
abbrev pub seconds_within : ℕ → Option ℕ
seconds_within number = if nat_lt 0 number && nat_le number MOST_SECONDS then Some number else None

-- the seconds that a word is
abbrev pub seconds_in : List ℕ → Option ℕ
seconds_in word = option_and_then seconds_within (number_of word)

-- a page of a journal, and of answers where there are some
abbrev pub page_beside : List ℕ → List ℕ → Option (List ℕ) → Option ℕ → Request
page_beside net journal None seconds = ChartPage net journal seconds
page_beside net journal (Some answers) seconds = ChartAnswered net journal answers seconds

-- a page that is loaded again after so many seconds, where these are some
abbrev pub page_in : List ℕ → List ℕ → Option (List ℕ) → Option ℕ → Request
page_in net journal answers None = Faulty
page_in net journal answers (Some seconds) = page_beside net journal answers (Some seconds)

-- `SECONDS`, behind `every`
abbrev pub page_every : List ℕ → List ℕ → Option (List ℕ) → List (List ℕ) → Request
page_every net journal answers [] = Faulty
page_every net journal answers (word ∷ rest) = if length rest == 0 then page_in net journal answers (seconds_in word) else Faulty

-- `[every SECONDS]`
abbrev pub page_again : List ℕ → List ℕ → Option (List ℕ) → List (List ℕ) → Request
page_again net journal answers [] = page_beside net journal answers None
page_again net journal answers (word ∷ rest) = if bytes_eq word (codes "every") then page_every net journal answers rest else Faulty

-- `[ANSWERS] [every SECONDS]`: the word `every` names no answers
abbrev pub page_with : List ℕ → List ℕ → List (List ℕ) → Request
page_with net journal [] = page_beside net journal None None
page_with net journal (word ∷ rest) =
    if bytes_eq word (codes "every") then page_every net journal None rest
    else (if nat_lt 0 (length word) then page_again net journal (Some word) rest else Faulty)

-- `page NET JOURNAL [ANSWERS] [every SECONDS]`
abbrev pub page_request : List ℕ → List ℕ → List (List ℕ) → Request
page_request net journal words = if nat_lt 0 (length net) && nat_lt 0 (length journal) then page_with net journal words else Faulty

-- what a command asks for with two files, and these words behind them
abbrev pub asked_with : List ℕ → List ℕ → List ℕ → List (List ℕ) → Request
asked_with command net file words =
    if bytes_eq command (codes "plan") then plan_request net file words
    else (if bytes_eq command (codes "run") then run_request net file words
    else (if bytes_eq command (codes "ladder") then ladder_request net file words
    else (if bytes_eq command (codes "page") then page_request net file words else Faulty)))

-- what the words ask for
abbrev pub chart_request_of : List (List ℕ) → Request
chart_request_of (command ∷ net ∷ file ∷ words) = asked_with command net file words
chart_request_of _ = Faulty
