-- What the words behind the file of a plan choose of it: beams by their names, and slots as FIRST-LAST.
use Rattle.std.specs.Prelude.{ℕ, ◌+◌, ◌==◌, ◌&&◌, Bool, true, nat_lt, nat_le, if◌then◌else◌, List, [], ◌∷◌, length, map, replicate, take, drop, position, Option, Some, None, is_some, option_and_then}
use Rattle.std.specs.List.{list_any, range_with_len}
use Rattle.std.specs.Str.{bytes_eq}
use Rattle.bt_frame.specs.declared.limits.TheConstants.{MOST_BEAMS}
use Rattle.bt_net.specs.Network.{Net}
use Rattle.bt_text.specs.Text.{number_of}
use Rattle.bt_plan_chart.specs.Chart.{name_of_beam}
use Rattle.bt_plan_chart.specs.declared.choice.Choice.{Choice}
use Rattle.bt_plan_chart.specs.declared.choice.SlotRange.{SlotRange}

-- whether the word is the name of a beam
abbrev pub is_beam : Net → List ℕ → Bool
is_beam net word = list_any (bytes_eq word) net.beams

-- the number, where it is a slot of a frame of so many
abbrev pub slot_within : ℕ → ℕ → Option ℕ
slot_within slots number = if nat_lt number slots then Some number else None

-- the slot that a word is
abbrev pub slot_of : ℕ → List ℕ → Option ℕ
slot_of slots word = option_and_then (slot_within slots) (number_of word)

-- the slots from one to another, where that is not before it
abbrev pub forth : ℕ → ℕ → Option SlotRange
forth from to = if nat_le from to then Some (record { first = from; last = to }) else None

-- the slots from the slot that one word is to that which another is
abbrev pub range_between : ℕ → List ℕ → List ℕ → Option SlotRange
range_between slots first last = option_and_then (λ from. option_and_then (λ to. forth from to) (slot_of slots last)) (slot_of slots first)

-- the slots FIRST-LAST that a word names, on both sides of its first hyphen
abbrev pub range_of : ℕ → List ℕ → Option SlotRange
range_of slots word = option_and_then (λ hyphen. range_between slots (take hyphen word) (drop (hyphen + 1) word)) (position (λ byte. byte == 45) word)

-- whether the words choose a part: each is the name of a beam, but the last may be slots
abbrev pub are_parts : Net → List (List ℕ) → Bool
are_parts net [] = true
are_parts net (word ∷ rest) = if is_beam net word then are_parts net rest else (length rest == 0 && is_some (range_of net.slots word))

-- the slots that the last word is
abbrev pub slots_in : ℕ → List (List ℕ) → Option SlotRange
slots_in slots [] = None
slots_in slots (word ∷ rest) = if length rest == 0 then range_of slots word else slots_in slots rest

-- whether one of the words is the name of that beam
abbrev pub is_named : Net → List (List ℕ) → ℕ → Bool
is_named net words beam = list_any (bytes_eq (name_of_beam net beam)) words

-- by the number of a beam, whether a word names it
abbrev pub named_beams : Net → List (List ℕ) → List Bool
named_beams net words = map (is_named net words) (range_with_len 0 MOST_BEAMS)

-- the same, and all beams where no word names one
abbrev pub beams_in : Net → List (List ℕ) → List Bool
beams_in net words = if list_any (is_beam net) words then named_beams net words else replicate MOST_BEAMS true

-- what the words choose
abbrev pub choice_of : Net → List (List ℕ) → Choice
choice_of net words = record { beams = beams_in net words; slots = slots_in net.slots words }
