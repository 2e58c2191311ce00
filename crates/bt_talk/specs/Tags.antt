-- The tag in front of a line of a session.
use Rattle.std.specs.Prelude.{ℕ, ◌&&◌, if◌then◌else◌, List, [], ◌∷◌, codes, Option, Some, None}
use Rattle.bt_text.specs.Text.{is_word, spaced, words}
use Rattle.bt_words.specs.Tags.{is_tag}

-- the first of the words of a line, where it is a tag and others stand behind it
abbrev pub tag_of : List (List ℕ) → List ℕ
tag_of (first ∷ second ∷ rest) = if is_tag first then first else []
tag_of _ = []

-- the line of these words behind its tag, or this text where it has none
abbrev pub behind_tag : List (List ℕ) → List ℕ → List ℕ
behind_tag (first ∷ second ∷ rest) text = if is_tag first then spaced (second ∷ rest) else text
behind_tag _ text = text

-- the tag with which a line begins, its `@` included; empty where it begins with none
abbrev pub tag_in : List ℕ → List ℕ
tag_in text = tag_of (words text)

-- the line behind its tag and one space; the whole line where it has no tag
abbrev pub untagged : List ℕ → List ℕ
untagged text = behind_tag (words text) text

-- the tag of what came; empty where that is no line
abbrev pub tag_from : Option (List ℕ) → List ℕ
tag_from (Some text) = tag_in text
tag_from None = []

-- the tag behind `forget`
abbrev pub forgotten : List (List ℕ) → Option (List ℕ)
forgotten (head ∷ tag ∷ []) = if is_word (codes "forget") head && is_tag tag then Some tag else None
forgotten _ = None
