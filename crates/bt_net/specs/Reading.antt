-- The walk over a network file: the network that its bytes are, or the first fault in them.
use Rattle.std.specs.Prelude.{ℕ, ◌&&◌, List, [], ◌∷◌, ◌++◌, length, min, Option, Some, None, option_map, option_and_then, Result, Ok, Err, nat_le, if◌then◌else◌, codes, position}
use Rattle.std.specs.List.{list_any}
use Rattle.std.specs.Option.{ok_or}
use Rattle.std.specs.Str.{bytes_eq, is_utf8}
use Rattle.serde_json.specs.Data.{Data, Items, no_items, item}
use Rattle.serde_json.specs.Find.{get, as_u64, as_number, as_str, as_array, as_object}
use Rattle.serde_json.specs.Read as json
use Rattle.bt_text.specs.Reading.{◌>>=◌}
use Rattle.bt_frame.specs.declared.limits.TheConstants.{MOST_BEAMS, MOST_TERMINALS, MOST_SLOTS, MOST_FRAMES, LEAST_LEAD, MOST_LEAD, MOST_PATIENCE, LEAST_JOURNAL_BYTES, MOST_JOURNAL_BYTES, MOST_BOOK_BYTES}
use Rattle.bt_frame.specs.declared.numbers.BeamNo.{BeamNo}
use Rattle.bt_frame.specs.Range.{IsWithin}
use Rattle.bt_net.specs.declared.fault.NetFault.{NetFault}
use Rattle.bt_net.specs.declared.fault.NetFault.TheVariants.{N1, N2, N3, N6}
use Rattle.bt_net.specs.declared.fault.Path.{Path}
use Rattle.bt_net.specs.declared.fault.Path.TheVariants as path
use Rattle.bt_net.specs.declared.reading.Numbers.{Numbers}
use Rattle.bt_net.specs.Name.{is_name, is_terminal_name}
use Rattle.bt_net.specs.Walk.{checked}
use Rattle.bt_net.specs.Network.{Net, names_of}

-- the entries of an array, in order
abbrev pub entries_of : Items → List Data
entries_of no_items = []
entries_of (item entry more) = entry ∷ entries_of more

-- the entries of a field that is an array
abbrev pub array_at : List ℕ → Data → Option (List Data)
array_at key value = option_map entries_of (option_and_then as_array (get key value))

-- a field that is a text
unfoldable pub text_at : Path → List ℕ → Data → Result (List ℕ) NetFault
text_at place key value = ok_or (option_and_then as_str (get key value)) (N2 place)

-- a field that is an array, with at least one entry and at most so many
unfoldable pub entries_at : Path → ℕ → List ℕ → Data → Result (List Data) NetFault
entries_at place most key value = do
  entries ← ok_or (array_at key value) (N2 place)
  if nat_le 1 (length entries) && nat_le (length entries) most then Ok entries else Err (N3 place)

-- a field that is an unsigned whole number from least to most
unfoldable pub number_at : Path → ℕ → ℕ → List ℕ → Data → Result ℕ NetFault
number_at place least most key value = do
  number ← ok_or (option_and_then as_u64 (option_and_then as_number (get key value))) (N2 place)
  if nat_le least number && nat_le number most then Ok number else Err (N3 place)

-- goes through the entries in order, each behind the earlier ones
unfoldable pub through : {A : Type 0} → (A → Data → Result A NetFault) → A → List Data → Result A NetFault
through step earlier [] = Ok earlier
through step earlier (entry ∷ entries) = step earlier entry >>= λ more. through step more entries

-- the beam of that name, by its place among the beams
abbrev pub numbered : Path → Option ℕ → Result BeamNo NetFault
numbered place found = ok_or (option_map (λ number. record { 0 = number }) found) (N6 place)

-- an entry of the beams, behind the earlier ones
unfoldable pub with_beam : List (List ℕ) → Data → Result (List (List ℕ)) NetFault
with_beam earlier entry = do
  name ← ok_or (as_str entry) (N2 (path.Beam (length earlier)))
  new ← checked (path.Beam (length earlier)) (is_name name) (list_any (bytes_eq name) earlier)
  Ok (earlier ++ name ∷ [])

-- the names of the beams
unfoldable pub beams_of : Data → Result (List (List ℕ)) NetFault
beams_of value = entries_at path.Beams MOST_BEAMS (codes "beams") value >>= through with_beam []

-- the beam that a terminal names
unfoldable pub beam_at : Path → Data → List (List ℕ) → Result BeamNo NetFault
beam_at place entry beams = text_at place (codes "beam") entry >>= λ name. numbered place (position (bytes_eq name) beams)

-- an entry of the terminals, behind the earlier ones
unfoldable pub with_terminal : List (List ℕ) → List (List ℕ × BeamNo) → Data → Result (List (List ℕ × BeamNo)) NetFault
with_terminal beams earlier entry = do
  fields ← ok_or (as_object entry) (N2 (path.Terminal (length earlier)))
  name ← text_at (path.TerminalName (length earlier)) (codes "name") entry
  new ← checked (path.TerminalName (length earlier)) (is_terminal_name name) (list_any (bytes_eq name) (names_of earlier))
  beam ← beam_at (path.TerminalBeam (length earlier)) entry beams
  Ok (earlier ++ (name, beam) ∷ [])

-- the terminals, each with its beam
unfoldable pub terminals_of : List (List ℕ) → Data → Result (List (List ℕ × BeamNo)) NetFault
terminals_of beams value = entries_at path.Terminals MOST_TERMINALS (codes "terminals") value >>= through (with_terminal beams) []

-- the limit of a journal's changes: what the field says, and at most what the mark leaves; where the field is missing,
-- all that the mark leaves
abbrev pub journal_found : Option Data → Data → Result ℕ NetFault
journal_found None value = Ok MOST_BOOK_BYTES
journal_found (Some found) value = do
  number ← number_at path.Journal LEAST_JOURNAL_BYTES MOST_JOURNAL_BYTES (codes "journal") value
  Ok (min number MOST_BOOK_BYTES)

unfoldable pub journal_of : Data → Result ℕ NetFault
journal_of value = journal_found (get (codes "journal") value) value

-- the numbers behind the terminals
unfoldable pub numbers_of : Data → Result Numbers NetFault
numbers_of value = do
  slots ← number_at path.Slots 1 MOST_SLOTS (codes "slots") value
  frames ← number_at path.Frames 1 MOST_FRAMES (codes "frames") value
  lead ← number_at path.Lead LEAST_LEAD MOST_LEAD (codes "lead") value
  patience ← number_at path.Patience 1 MOST_PATIENCE (codes "patience") value
  journal ← journal_of value
  Ok (record { slots = slots; frames = frames; lead = lead; patience = patience; journal = journal })

-- each of these numbers is in its range
pub record AreInRange (numbers : Numbers) : Type 0 where
  pub slots : IsWithin 1 MOST_SLOTS numbers.slots
  pub frames : IsWithin 1 MOST_FRAMES numbers.frames
  pub lead : IsWithin LEAST_LEAD MOST_LEAD numbers.lead
  pub patience : IsWithin 1 MOST_PATIENCE numbers.patience
  pub journal : IsWithin LEAST_JOURNAL_BYTES MOST_BOOK_BYTES numbers.journal

-- a network of these beams, terminals and numbers
abbrev pub net_of : List (List ℕ) → List (List ℕ × BeamNo) → Numbers → Net
net_of beams terminals numbers = record { beams = beams; terminals = terminals; slots = numbers.slots; frames = numbers.frames; lead = numbers.lead; patience = numbers.patience; journal = numbers.journal }

-- the network that a value of JSON is, or the first fault in it
unfoldable pub network_of : Data → Result Net NetFault
network_of value = do
  fields ← ok_or (as_object value) (N2 path.Top)
  beams ← beams_of value
  terminals ← terminals_of beams value
  numbers ← numbers_of value
  Ok (net_of beams terminals numbers)

-- the value of JSON that the bytes are
unfoldable pub json_of : List ℕ → Option Data
json_of bytes = if is_utf8 bytes then json.read bytes else None

-- the network that the bytes of a file are, or the first fault in them
unfoldable pub network_in : List ℕ → Result Net NetFault
network_in bytes = ok_or (json_of bytes) N1 >>= network_of
