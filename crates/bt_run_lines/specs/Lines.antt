-- The lines that a run prints, and the output that is such lines.
use Rattle.std.specs.Prelude.{ℕ, ◌+◌, ◌-◌, ◌==◌, if◌then◌else◌, nat_lt, List, [], ◌∷◌, ◌++◌, Option, Some, None, option_map, option_and_then, unwrap_or, codes, drop, Ok, Err}
use Rattle.bt_text.specs.Text.{words, lines, number_of_digits}
use Rattle.bt_text.specs.WordReader.{first_word, is_first}
use Rattle.bt_text.specs.Reading.{◌>>=◌, LineReading, or_fault}
use Rattle.bt_net.specs.Network.{Net}
use Rattle.bt_net.specs.Terminals.{IsTerminal}
use Rattle.bt_timeline.specs.Timeline.{IsBeam}
use Rattle.bt_words.specs.declared.form.Form.{Form}
use Rattle.bt_run_lines.specs.declared.output.OutputCode.{OutputCode}
use Rattle.bt_run_lines.specs.declared.output.OutputCode.TheVariants.{O1}
use Rattle.bt_run_lines.specs.declared.printed.Printed.{Printed}
use Rattle.bt_run_lines.specs.declared.printed.Value.{Value}
use Rattle.bt_run_lines.specs.declared.printed.Value.TheVariants as value
use Rattle.bt_words.specs.Forms.{Part, parts_of, forms_from}
use Rattle.bt_run_lines.specs.Words.{said_by}

-- these values, and behind them those that are said further on
abbrev pub followed : Option (List Value) → Option (List Value) → Option (List Value)
followed (Some front) (Some more) = Some (front ++ more)
followed _ _ = None

-- what the words say at these places, a word a place
abbrev pub values_in : Net → List Part → List (List ℕ) → Option (List Value)
values_in net [] [] = Some []
values_in net [] (_ ∷ _) = None
values_in net (_ ∷ _) [] = None
values_in net (place ∷ places) (word ∷ rest) = followed (said_by net place word) (values_in net places rest)

-- the words as a line of this form
abbrev pub printed_as : Net → Form → List (List ℕ) → Option Printed
printed_as net one ws = option_map (λ values. record { form = one; said = values }) (values_in net (parts_of one) ws)

-- the first of two readings that is one
abbrev pub or_else : Option Printed → Option Printed → Option Printed
or_else (Some line) _ = Some line
or_else None other = other

-- the words as a line of the first of these forms that they have
abbrev pub first_of_forms : Net → List Form → List (List ℕ) → Option Printed
first_of_forms net [] ws = None
first_of_forms net (one ∷ forms) ws = or_else (printed_as net one ws) (first_of_forms net forms ws)

-- the words as a printed line
abbrev pub printed_in : Net → List (List ℕ) → Option Printed
printed_in net [] = None
printed_in net (head ∷ rest) = first_of_forms net (forms_from head) (head ∷ rest)

-- the printed line that the bytes spell, where a run prints such a line
abbrev pub line_in : Net → List ℕ → Option Printed
line_in net line = printed_in net (words line)

-- a beam or a terminal among the values is the network's
abbrev pub IsOf : Net → Value → Type 0
IsOf net (value.Beam beam) = IsBeam net beam
IsOf net (value.Terminal terminal) = IsTerminal net terminal
IsOf net _ = Unit {0}

-- the line, or the fault of the line of that number
abbrev pub numbered_line : Net → ℕ → List ℕ → LineReading OutputCode Printed
numbered_line net at line = or_fault (O1, at) (line_in net line)

-- how many lines behind one of these words are what it tells of, and are no printed lines: the number behind `lines`
abbrev pub told_in : List (List ℕ) → ℕ
told_in ws = if is_first (codes "lines") ws then unwrap_or (option_and_then (number_of_digits 19) (first_word (drop 1 ws))) 0 else 0

-- the same of a line
abbrev pub told_behind : List ℕ → ℕ
told_behind line = told_in (words line)

-- The lines, the first of them line `at`, where so many in front were told of: these are passed over, and have to be there. None
-- stands behind the last newline.
abbrev pub lines_from : Net → (at told : ℕ) → List (List ℕ) → LineReading OutputCode (List Printed)
lines_from net at told (line ∷ next ∷ rest) =
    if nat_lt 0 told then lines_from net (at + 1) (told - 1) (next ∷ rest)
    else (numbered_line net at line >>= λ one. lines_from net (at + 1) (told_behind line) (next ∷ rest) >>= λ more. Ok (one ∷ more))
lines_from net at told ([] ∷ []) = if told == 0 then Ok [] else Err (O1, at)
lines_from net at told ((_ ∷ _) ∷ []) = Err (O1, at)
lines_from net at told [] = Ok []

-- a line in front of those that were read
abbrev pub with_line : Printed → LineReading OutputCode (List Printed) → LineReading OutputCode (List Printed)
with_line one rest = rest >>= λ more. Ok (one ∷ more)

-- the lines that a run's output is, or the first line that no run prints
abbrev pub output_of : Net → List ℕ → LineReading OutputCode (List Printed)
output_of net text = lines_from net 1 0 (lines text)

-- for bodies: one line of them, and how many are to be passed over behind it
abbrev pub over_line : Net → (at told : ℕ) → List ℕ → LineReading OutputCode ℕ
over_line net at told line = if nat_lt 0 told then Ok (told - 1) else (numbered_line net at line >>= λ one. Ok (told_behind line))

-- that the reading has no fault, or its fault
abbrev pub gone_over : {A : Type 0} → LineReading OutputCode A → LineReading OutputCode (Unit {0})
gone_over (Ok _) = Ok tt
gone_over (Err fault) = Err fault
