-- What a name of the network file is. A name is a list of bytes.
use Rattle.std.specs.Prelude.{ℕ, ◌==◌, ◌&&◌, ◌||◌, Bool, false, not, List, [], ◌∷◌, length, nat_lt, codes}
use Rattle.std.specs.Char.{is_ascii_alphabetic, is_ascii_alphanumeric}
use Rattle.std.specs.List.{list_all}
use Rattle.std.specs.Str.{bytes_eq}
use Rattle.bt_frame.specs.declared.limits.TheConstants.{MOST_NAME_BYTES}

-- a letter, a digit or an underscore
abbrev pub is_name_byte : ℕ → Bool
is_name_byte byte = is_ascii_alphanumeric byte || byte == 95

-- a letter, and letters, digits or underscores behind it, in at most so many bytes as a name may have
abbrev pub is_name : List ℕ → Bool
is_name [] = false
is_name (first ∷ rest) = is_ascii_alphabetic first && nat_lt (length rest) MOST_NAME_BYTES && list_all is_name_byte rest

-- a word that means something else where a terminal is named
abbrev pub is_reserved : List ℕ → Bool
is_reserved word = bytes_eq word (codes "all") || bytes_eq word (codes "sat") || bytes_eq word (codes "centre")

-- a name that a terminal may have
abbrev pub is_terminal_name : List ℕ → Bool
is_terminal_name word = is_name word && not (is_reserved word)

-- both words have the shape of a name
abbrev pub are_names : List ℕ → List ℕ → Bool
are_names from to = is_name from && is_name to
