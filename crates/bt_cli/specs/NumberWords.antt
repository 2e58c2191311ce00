-- Words of a command that are numbers.
use Rattle.std.specs.Prelude.{ℕ, ◌-◌, ◌^◌, ◌&&◌, if◌then◌else◌, nat_le, List, Option, Some, None, option_and_then, option_map}
use Rattle.bt_frame.specs.declared.limits.TheConstants.{LAST_EDITION, MOST_DESKS, MOST_NUMBERED_BEAMS}
use Rattle.bt_frame.specs.declared.numbers.EditionNo.{EditionNo}
use Rattle.bt_text.specs.Text.{number_of}
use Rattle.bt_trans.specs.declared.part.TheConstants.{MOST_PART_BEAMS}

-- the number, where it is one of these
abbrev pub within : ℕ → ℕ → ℕ → Option ℕ
within least most number = if nat_le least number && nat_le number most then Some number else None

-- the number of beams that a word is, where a network is numbered with so many
abbrev pub beam_count_of : List ℕ → Option ℕ
beam_count_of word = option_and_then (within 1 MOST_NUMBERED_BEAMS) (number_of word)

-- the number that a word is from which a demand may be drawn: one of 64 bits
abbrev pub seed_of : List ℕ → Option ℕ
seed_of word = option_and_then (within 0 (2 ^ 64 - 1)) (number_of word)

-- the number of transponders that a word is, where a schedule is made for so few
abbrev pub transponders_of : List ℕ → Option ℕ
transponders_of word = option_and_then (within 1 MOST_PART_BEAMS) (number_of word)

-- the desk that a word is
abbrev pub desk_of : List ℕ → Option ℕ
desk_of word = option_and_then (within 1 MOST_DESKS) (number_of word)

-- the edition of a number
abbrev pub edition_numbered : ℕ → EditionNo
edition_numbered number = record { 0 = number }

-- the edition that a word is, from this one to the last
abbrev pub edition_of : ℕ → List ℕ → Option EditionNo
edition_of least word = option_map edition_numbered (option_and_then (within least LAST_EDITION) (number_of word))
