-- The lines of an input, and what a source gives of them.
use Rattle.std.specs.Prelude.{◌≡◌, ℕ, ◌≤◌, if◌then◌else◌, nat_le, List, [], ◌∷◌, length, vec_len, Option, Some, None}
use Rattle.bt_text.specs.Text.{lines}
use Rattle.bt_outside.specs.declared.source.Incoming.{Incoming}
use Rattle.bt_outside.specs.declared.source.Incoming.TheVariants.{Line, NoLine}

-- the line, where it has at most so many bytes
abbrev pub short_line : ℕ → List ℕ → Option (List ℕ)
short_line limit line = if nat_le (length line) limit then Some line else None

-- what stands behind the last newline: no line, if it is anything
abbrev pub unended : List ℕ → List (Option (List ℕ))
unended [] = []
unended (_ ∷ _) = None ∷ []

-- what pieces of a text are, the last of which has no newline behind it: each of the others a line, if it is short, or none
abbrev pub pieces_in : ℕ → List (List ℕ) → List (Option (List ℕ))
pieces_in limit (line ∷ next ∷ rest) = short_line limit line ∷ pieces_in limit (next ∷ rest)
pieces_in limit (last ∷ []) = unended last
pieces_in limit [] = []

-- what an input gives that has these bytes: its lines, and None in the place of each that is too long, or cut off by the end
abbrev pub given_by : ℕ → List ℕ → List (Option (List ℕ))
given_by limit bytes = pieces_in limit (lines bytes)

-- the line that this is, where it is one
abbrev pub said_by : Incoming → Option (List ℕ)
said_by (Line line) = Some line.items
said_by NoLine = None

-- this came of an input that gave these, or nothing at its end, and those are left
abbrev pub CameOf : List (Option (List ℕ)) → Option Incoming → List (Option (List ℕ)) → Type 0
CameOf given (Some came) rest = given ≡ said_by came ∷ rest
CameOf given None rest = (given ≡ []) × (rest ≡ [])

-- the same of the bytes of an input, where they are told, before and after or not at all
abbrev pub Comes : ℕ → Option (List ℕ) → Option Incoming → Option (List ℕ) → Type 0
Comes limit (Some bytes) came (Some rest) = CameOf (given_by limit bytes) came (given_by limit rest)
Comes limit (Some bytes) came None = ⊥
Comes limit None came (Some rest) = ⊥
Comes limit None came None = Unit {0}

-- a line has at most so many bytes
abbrev pub IsShort : ℕ → Option Incoming → Type 0
IsShort limit (Some (Line line)) = vec_len line ≤ limit
IsShort limit _ = Unit {0}
