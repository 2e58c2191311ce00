-- What a desk wishes that becomes an edit by what the book holds when its line comes: the inverse of an edit, or a link with so many slots.
use Rattle.std.specs.Prelude.{ℕ, ◌-◌, ◌&&◌, if◌then◌else◌, List, ◌∷◌, codes, Option, Some, None, option_map, option_and_then, Result, Ok, Err}
use Rattle.bt_frame.specs.declared.limits.TheConstants.{LAST_EDITION, MOST_DESKS, MOST_DIGITS, MOST_UNITS}
use Rattle.bt_frame.specs.declared.numbers.TermNo.{TermNo}
use Rattle.bt_text.specs.Text.{is_word, number_of_digits}
use Rattle.bt_net.specs.Network.{Net}
use Rattle.bt_net.specs.Terminals.{terminal_of}
use Rattle.bt_journal.specs.declared.call.Edit.{Edit}
use Rattle.bt_journal.specs.declared.call.Edit.TheVariants.{Add, Drop, Move}
use Rattle.bt_journal.specs.declared.call.Change.{Change}
use Rattle.bt_history.specs.Changes.{edit_at, held_after}
use Rattle.bt_script.specs.declared.fault.ScriptCode.{ScriptCode}
use Rattle.bt_script.specs.declared.fault.ScriptCode.TheVariants.{S2, S3}
use Rattle.bt_script.specs.declared.line.ScriptLine.{ScriptLine}
use Rattle.bt_script.specs.declared.line.ScriptLine.TheVariants as line
use Rattle.bt_script.specs.declared.script.DeskLine.TheVariants as desk_line
use Rattle.bt_script.specs.LineShape.{LinkWords, link_in, lone_number}
use Rattle.bt_script.specs.Range.{up_to, within}
use Rattle.bt_script.specs.Said.{IsSaidFor}

-- What a wish comes to: a line that a desk says; no line, since the link has so many slots already; or its fault.
abbrev pub Wished : Type 0
Wished = Result (Option ScriptLine) ScriptCode

-- `desk D` and this word: the number of the desk, and the words behind
abbrev pub desk_words : List ℕ → List (List ℕ) → Option (ℕ × List (List ℕ))
desk_words kind (head ∷ desk ∷ word ∷ rest) =
    if is_word (codes "desk") head && is_word kind word then option_map (λ number. (number, rest)) (number_of_digits MOST_DIGITS desk) else None
desk_words kind _ = None

-- `desk D undo K`: the number of the desk, and that of the edit
abbrev pub undo_words : List (List ℕ) → Option (ℕ × ℕ)
undo_words words = option_and_then (λ both. option_map (λ number. (both.0, number)) (lone_number both.1)) (desk_words (codes "undo") words)

-- `desk D set FROM TO UNITS`: the number of the desk, and the link with its units
abbrev pub set_words : List (List ℕ) → Option (ℕ × LinkWords)
set_words words = option_and_then (λ both. option_map (λ link. (both.0, link)) (link_in both.1)) (desk_words (codes "set") words)

-- the edit that takes an edit back
abbrev pub inverse : Edit → Edit
inverse (Add from to units) = Drop from to units
inverse (Drop from to units) = Add from to units
inverse (Move from to new_from new_to units) = Move new_from new_to from to units

-- a desk says this edit, where both are there
abbrev pub says_edit : Option ℕ → Option Edit → Wished
says_edit (Some desk) (Some edit) = Ok (Some (line.Desk desk (desk_line.Edit edit)))
says_edit _ _ = Err S3

-- the edit that made the edition of this number, where it can be one and one did
abbrev pub edit_numbered : List Change → ℕ → Option Edit
edit_numbered changes number = option_and_then (λ edition. edit_at changes edition) (up_to LAST_EDITION number)

-- the inverse of the edit that made this edition, where one did
abbrev pub undone : List Change → ℕ × ℕ → Wished
undone changes asked = says_edit (within MOST_DESKS asked.0) (option_map inverse (edit_numbered changes asked.1))

-- the first, where it is there, and else the second
abbrev pub or_else : {A : Type 0} → Option A → Option A → Option A
or_else (Some a) second = Some a
or_else None second = second

-- the edit that brings a link which holds so many slots to so many, where they are others
abbrev pub setting : TermNo → TermNo → (held units : ℕ) → Option Edit
setting from to held units = or_else (option_map (Add from to) (within MOST_UNITS (units - held))) (option_map (Drop from to) (within MOST_UNITS (held - units)))

-- a desk says an edit, where there is one
abbrev pub says_if : Option Edit → ℕ → Wished
says_if edit desk = Ok (option_map (λ own. line.Desk desk (desk_line.Edit own)) edit)

-- a link is brought to so many slots, where its terminals, the desk and the units are ones that there can be
abbrev pub set_to : List Change → Option ℕ → Option ℕ → Option TermNo → Option TermNo → Wished
set_to changes (Some desk) (Some units) (Some from) (Some to) = says_if (setting from to (held_after changes from to) units) desk
set_to changes _ _ (Some from) (Some to) = Err S3
set_to changes _ _ _ _ = Err S2

-- so it is with these words
abbrev pub set_by : Net → List Change → ℕ × LinkWords → Wished
set_by net changes asked = set_to changes (within MOST_DESKS asked.0) (up_to MOST_UNITS asked.1.1) (terminal_of net asked.1.0.0) (terminal_of net asked.1.0.1)

-- what is wished, if it is one of these
abbrev pub wish_of : Net → List Change → Option (ℕ × ℕ) → Option (ℕ × LinkWords) → Option Wished
wish_of net changes (Some undoes) sets = Some (undone changes undoes)
wish_of net changes None sets = option_map (set_by net changes) sets

-- what the words of a line wish, where these changes were made
abbrev pub wished_in : Net → List Change → List (List ℕ) → Option Wished
wished_in net changes words = wish_of net changes (undo_words words) (set_words words)

-- the line that a desk says names terminals of the network alone
abbrev pub IsWishedFor : Net → Wished → Type 0
IsWishedFor net (Ok (Some one)) = IsSaidFor net one
IsWishedFor net _ = Unit {0}
