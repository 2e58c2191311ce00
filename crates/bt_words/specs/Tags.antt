-- The tag of those who speak in a session, as a word of a line.
use Rattle.std.specs.Prelude.{ℕ, ◌==◌, ◌&&◌, ◌||◌, Bool, false, List, ◌∷◌, length, nat_lt}
use Rattle.std.specs.Char.{is_ascii_alphanumeric}
use Rattle.std.specs.List.{list_all}
use Rattle.bt_frame.specs.declared.limits.TheConstants.{MOST_NAME_BYTES}

-- a letter, a digit or an underscore, as in a name
abbrev pub is_tag_byte : ℕ → Bool
is_tag_byte byte = is_ascii_alphanumeric byte || byte == 95

-- an `@`, and behind it such bytes: one at least, and at most so many as a name may have
abbrev pub is_tag : List ℕ → Bool
is_tag (first ∷ second ∷ rest) = first == 64 && nat_lt (length rest) MOST_NAME_BYTES && list_all is_tag_byte (second ∷ rest)
is_tag _ = false
