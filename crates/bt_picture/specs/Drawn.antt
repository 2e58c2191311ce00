-- What a picture, or a part of one, adds to a text.
use Rattle.std.specs.Prelude.{◌≡◌, ℕ, ◌++◌, ◌∷◌, List, flat_map}
use Rattle.bt_picture.specs.Picture.{Alone, Part, Picture, Shape, part_text, picture_text}

-- the first part of a picture is that shape, and whatever else is drawn lies over it
abbrev pub BeginsWith : Shape → Picture → Type 0
BeginsWith shape picture = (more : List Part) × (picture.parts ≡ Alone shape ∷ more)

-- the second text is the first with a picture of that kind behind it
abbrev pub IsPictureBehind : (Picture → Type 0) → List ℕ → List ℕ → Type 0
IsPictureBehind IsOne before after = (picture : Picture) × IsOne picture × (after ≡ before ++ picture_text picture)

-- the second text is the first with parts of a picture behind it, maybe none
abbrev pub AddsParts : List ℕ → List ℕ → Type 0
AddsParts before after = (parts : List Part) × (after ≡ before ++ flat_map part_text parts)
