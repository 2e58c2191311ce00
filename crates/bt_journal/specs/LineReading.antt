-- How the line of a change is read, word by word, and how the lines of a text are put into one. All of it is for bodies alone.
use Rattle.std.specs.Prelude.{◌≡◌, ℕ, zero, suc, ◌+◌, ◌==◌, ◌&&◌, ◌||◌, if◌then◌else◌, nat_le, codes, length, drop, List, [], ◌∷◌, ◌++◌, Option, Some, None, option_map, option_and_then, Result, Ok, Err}
use Rattle.bt_text.specs.Text.{is_word}
use Rattle.bt_text.specs.WordReader.{first_word, is_first, number_to}
use Rattle.bt_frame.specs.declared.limits.TheConstants.{MOST_BEAMS, MOST_TERMINALS, MOST_UNITS, LAST_MARK, LAST_COMMAND, LAST_EDITION}
use Rattle.bt_frame.specs.declared.numbers.EditionNo.{EditionNo}
use Rattle.bt_frame.specs.declared.numbers.TermNo.{TermNo}
use Rattle.bt_net.specs.Network.{Net}
use Rattle.bt_net.specs.Terminals.{terminal_of}
use Rattle.bt_demand.specs.declared.plan.Plan.{Plan}
use Rattle.bt_plan.specs.Reading.{Reading}
use Rattle.bt_plan.specs.PlanText.{plan_reading}
use Rattle.bt_air.specs.declared.order.Order.TheVariants.{Load, Arm}
use Rattle.bt_journal.specs.declared.call.Change.{Change}
use Rattle.bt_journal.specs.declared.call.Change.TheVariants as change
use Rattle.bt_journal.specs.declared.call.Edit.{Edit}
use Rattle.bt_journal.specs.declared.call.Edit.TheVariants.{Add, Drop, Move}
use Rattle.bt_journal.specs.declared.line_fault.JournalLineFault.{JournalLineFault}
use Rattle.bt_journal.specs.declared.line_fault.JournalLineFault.TheVariants.{Bad, OutOfMemory}

-- the value where nothing is left behind it
abbrev pub at_end : {A : Type 0} → List (List ℕ) → A → Option A
at_end ws value = if length ws == 0 then Some value else None

-- the number in front, from `least` to `most`
abbrev pub number_from : ℕ → ℕ → List (List ℕ) → Option ℕ
number_from least most ws = option_and_then (λ n. if nat_le least n then Some n else None) (option_and_then (number_to most) (first_word ws))

-- the terminal in front, by its name
abbrev pub terminal_in : Net → List (List ℕ) → Option TermNo
terminal_in net ws = option_and_then (terminal_of net) (first_word ws)

-- the ends of the link in front
abbrev pub ends_in : Net → List (List ℕ) → Option (TermNo × TermNo)
ends_in net ws = option_and_then (λ from. option_map (λ to. (from, to)) (terminal_in net (drop 1 ws))) (terminal_in net ws)

-- units, and no more words
abbrev pub units_in : List (List ℕ) → Option ℕ
units_in ws = option_and_then (at_end (drop 1 ws)) (number_from 1 MOST_UNITS ws)

-- a link and units
abbrev pub link_in : Net → List (List ℕ) → Option ((TermNo × TermNo) × ℕ)
link_in net ws = option_and_then (λ link. option_map (λ units. (link, units)) (units_in (drop 2 ws))) (ends_in net ws)

-- two links and units
abbrev pub links_in : Net → List (List ℕ) → Option ((TermNo × TermNo) × ((TermNo × TermNo) × ℕ))
links_in net ws = option_and_then (λ link. option_map (λ new. (link, new)) (link_in net (drop 2 ws))) (ends_in net ws)

-- what is edited, by the word that says it and the words behind
abbrev pub edit_of : Net → List ℕ → List (List ℕ) → Option Edit
edit_of net kind rest =
    if is_word (codes "add") kind then option_map (λ link. Add link.0.0 link.0.1 link.1) (link_in net rest)
    else (if is_word (codes "drop") kind then option_map (λ link. Drop link.0.0 link.0.1 link.1) (link_in net rest)
    else (if is_word (codes "move") kind then option_map (λ both. Move both.0.0 both.0.1 both.1.0.0 both.1.0.1 both.1.1) (links_in net rest)
    else None))

-- what is edited
abbrev pub edit_in : Net → List (List ℕ) → Option Edit
edit_in net [] = None
edit_in net (kind ∷ rest) = edit_of net kind rest

-- a change with the edition that its line says
abbrev pub Said : Type 0
Said = EditionNo × Change

-- the words behind `edit`
abbrev pub said_edit : Net → List (List ℕ) → Option Said
said_edit net ws = option_and_then (λ number. option_map (λ edit. (record { 0 = number }, change.Edit edit)) (edit_in net (drop 1 ws))) (number_from 1 LAST_EDITION ws)

-- the words behind `load`
abbrev pub said_load : List (List ℕ) → Option Said
said_load ws = option_and_then (λ command. option_and_then (λ edition. at_end (drop 1 (drop 1 ws)) (record { 0 = edition }, change.Order (Load (record { 0 = command }) (record { 0 = edition })))) (number_from 0 LAST_EDITION (drop 1 ws))) (number_from 1 LAST_COMMAND ws)

-- the words behind `arm`
abbrev pub said_arm : List (List ℕ) → Option Said
said_arm ws = option_and_then (λ command. option_and_then (λ edition. option_and_then (λ due. at_end (drop 1 (drop 1 (drop 1 ws))) (record { 0 = edition }, change.Order (Arm (record { 0 = command }) (record { 0 = edition }) (record { 0 = due })))) (number_from 1 LAST_MARK (drop 1 (drop 1 ws)))) (number_from 0 LAST_EDITION (drop 1 ws))) (number_from 1 LAST_COMMAND ws)

-- a change of one of the kinds but a plan, by its first word and the words behind
abbrev pub said_small : Net → List ℕ → List (List ℕ) → Option Said
said_small net kind rest =
    if is_word (codes "edit") kind then said_edit net rest
    else (if is_word (codes "load") kind then said_load rest
    else (if is_word (codes "arm") kind then said_arm rest
    else None))

-- how many words stand behind this one where it begins a line of a plan's text
abbrev pub words_behind : ℕ → List ℕ → ℕ
words_behind beams word =
    if is_word (codes "burst") word then 4
    else (if is_word (codes "mode") word then beams + 1
    else (if is_word (codes "critical") word then 2
    else (if is_word (codes "length") word || is_word (codes "plan") word then 1
    else 0)))

-- how many words of a line of a plan's text are left behind this one, where so many were left before; where none was, it
-- begins a line
abbrev pub left_behind : ℕ → ℕ → List ℕ → ℕ
left_behind beams zero word = words_behind beams word
left_behind beams (suc left) word = left

-- what stands behind a word: a newline where it ends a line
abbrev pub separator : ℕ → ℕ
separator zero = 10
separator (suc left) = 32

-- the words as lines of a plan's text, where so many words of the line in front are still left
abbrev pub in_lines : ℕ → ℕ → List (List ℕ) → List ℕ
in_lines beams left [] = []
in_lines beams left (word ∷ rest) = word ++ separator (left_behind beams left word) ∷ in_lines beams (left_behind beams left word) rest

-- the change that installs the plan, where one was read
abbrev pub install_of : Reading Plan → Option Said
install_of (Ok plan) = Some (plan.edition, change.Install plan)
install_of (Err fault) = None

-- the words of a plan's line
abbrev pub said_plan : Net → List (List ℕ) → Option Said
said_plan net ws = install_of (plan_reading net (in_lines (length net.beams) 0 ws))

-- the words of a line
abbrev pub said_in : Net → List (List ℕ) → Option Said
said_in net [] = None
said_in net (kind ∷ rest) = if is_word (codes "plan") kind then said_plan net (kind ∷ rest) else said_small net kind rest

-- the answer is what the line says, unless memory ran out
abbrev pub Answers : Result Said JournalLineFault → Option Said → Type 0
Answers (Ok change_read) said = said ≡ Some change_read
Answers (Err Bad) said = said ≡ None
Answers (Err OutOfMemory) said = Unit {0}

-- the beams and the terminals in front, and no more words
abbrev pub sizes_in : List (List ℕ) → Option (ℕ × ℕ)
sizes_in ws = option_and_then (λ beams. option_and_then (λ terminals. at_end (drop 1 (drop 1 ws)) (beams, terminals)) (number_from 1 MOST_TERMINALS (drop 1 ws))) (number_from 1 MOST_BEAMS ws)

-- the words of a mark
abbrev pub mark_in : List (List ℕ) → Option (ℕ × ℕ)
mark_in ws = if is_first (codes "journal") ws && is_first (codes "2") (drop 1 ws) then sizes_in (drop 1 (drop 1 ws)) else None

-- a space in the place of a newline, and each other byte as it is
abbrev pub space_for_newline : ℕ → ℕ
space_for_newline byte = if byte == 10 then 32 else byte
