-- Parts of a picture, one behind the other.
use Rattle.std.specs.Prelude.{ℕ, List, flat_map}
use Rattle.bt_picture.specs.Picture.{Part, part_text}

-- how they are spelled
unfoldable pub parts_text : List Part → List ℕ
parts_text parts = flat_map part_text parts

-- texts with nothing between them
abbrev pub text_of : List (List ℕ) → List ℕ
text_of pieces = flat_map (λ piece. piece) pieces
