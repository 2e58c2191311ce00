-- A table of links as CSV, a row a line: the terminal that sends, the one that receives, and the slots.
use Rattle.std.specs.Prelude.{ℕ, ◌+◌, ◌&&◌, ◌||◌, ◌==◌, if◌then◌else◌, not, Bool, false, List, [], ◌∷◌, map, codes, Option, Some, option_map, Ok, Err}
use Rattle.std.specs.List.{list_all}
use Rattle.csv.specs.Machine.{next_record}
use Rattle.csv.specs.Reading.{default_config, strip_bom}
use Rattle.csv.specs.declared.parser.State.TheVariants as state
use Rattle.bt_text.specs.Text.{ended, is_word, lines, spaced}
use Rattle.bt_net.specs.Network.{Net}
use Rattle.bt_demand.specs.declared.demand.Link.{Link}
use Rattle.bt_plan.specs.Reading.{Reading}
use Rattle.bt_plan.specs.TrafficText.{demand_of}

-- the fields of a line of CSV, of which an empty one has none: quotes are taken off, and so is a byte order mark in front
abbrev pub fields_in : List ℕ → Option (List (List ℕ))
fields_in line = option_map (λ read. read.0) (next_record default_config state.StartRecord [] [] (strip_bom line))

-- the lines, without the empty one behind the last newline
abbrev pub without_end : List (List ℕ) → List (List ℕ)
without_end [] = []
without_end ([] ∷ []) = []
without_end ((first ∷ rest) ∷ []) = (first ∷ rest) ∷ []
without_end (line ∷ next ∷ rest) = line ∷ without_end (next ∷ rest)

-- the lines of a text, whether a newline ends the last of them or not
abbrev pub rows_of : List ℕ → List (List ℕ)
rows_of text = without_end (lines text)

-- the field has neither a space nor a newline, so that it is one word
abbrev pub is_one_word : List ℕ → Bool
is_one_word field = list_all (λ byte. not (byte == 32 || byte == 10)) field

-- the line of a traffic text that a row says; an empty one, as no traffic has, where the row has not three fields of one word
abbrev pub link_row : Option (List (List ℕ)) → List ℕ
link_row (Some (from ∷ to ∷ units ∷ [])) = if is_one_word from && (is_one_word to && is_one_word units) then spaced (codes "link" ∷ from ∷ to ∷ units ∷ []) else []
link_row _ = []

-- the row names the columns, `from,to,units`
abbrev pub is_header : Option (List (List ℕ)) → Bool
is_header (Some (from ∷ to ∷ units ∷ [])) = is_word (codes "from") from && (is_word (codes "to") to && is_word (codes "units") units)
is_header _ = false

-- the rows below the header, where the first row is one
abbrev pub links_of : List (List ℕ) → List (List ℕ)
links_of [] = []
links_of (first ∷ rest) = if is_header (fields_in first) then rest else first ∷ rest

-- the first row is a header
abbrev pub has_header : List (List ℕ) → Bool
has_header [] = false
has_header (first ∷ rest) = is_header (fields_in first)

-- the traffic text of rows
abbrev pub traffic_lines : List (List ℕ) → List ℕ
traffic_lines rows = ended (map (λ row. link_row (fields_in row)) rows)

-- the traffic text that a table says
abbrev pub traffic_of : List ℕ → List ℕ
traffic_of table = traffic_lines (links_of (rows_of table))

-- a fault of a line, below a header where there is one
abbrev pub lowered : {Value : Type 0} → Bool → Reading Value → Reading Value
lowered below (Ok value) = Ok value
lowered below (Err (code, line)) = Err (code, if below then line + 1 else line)

-- the demand that a table says for a network, or its first fault, which is that of the traffic text, with the line of the table
abbrev pub table_demand : Net → List ℕ → Reading (List Link)
table_demand net table = lowered (has_header (rows_of table)) (demand_of net (traffic_of table))
