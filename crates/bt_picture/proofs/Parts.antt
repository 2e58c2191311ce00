-- Parts behind parts, and a picture of them.
use Rattle.std.proofs.Common.{◌≡◌, ℕ, ◌++◌, List, [], ◌∷◌, flat_map, ap, refl, sym, ◌∙◌, append_assoc}
use Rattle.std.proofs.lemmas.List.{append-nil}
use Rattle.std.proofs.lemmas.List.Concat.{flat_map-append}
use Rattle.bt_picture.specs.Picture.{Alone, Part, Shape, part_text, picture_text, head_text, foot_text}
use Rattle.bt_picture.specs.Drawn.{AddsParts, BeginsWith, IsPictureBehind}

-- nothing was added
pub adds_none : (text : List ℕ) → AddsParts text text
adds_none text = ([], sym (append-nil text))

-- one part was added
pub adds_one : (before after : List ℕ) (part : Part) → after ≡ before ++ part_text part → AddsParts before after
adds_one before after part added = (part ∷ [], added ∙ ap (λ text. before ++ text) (sym (append-nil (part_text part))))

-- parts were added, and more behind them
pub adds_on : (before between after : List ℕ) → AddsParts before between → AddsParts between after → AddsParts before after
adds_on before between after (first, is) (more, goes_on) = (
  first ++ more,
  goes_on ∙ ap (λ text. text ++ flat_map part_text more) is
      ∙ append_assoc before (flat_map part_text first) (flat_map part_text more)
      ∙ ap (λ text. before ++ text) (sym (flat_map-append part_text first more)),
)

-- a head, parts and a foot are the text of a picture
framed_text : (before headed inked after : List ℕ) (width height : ℕ) (parts : List Part) → headed ≡ before ++ head_text width height → inked ≡ headed ++ flat_map part_text parts → after ≡ inked ++ foot_text
    → after ≡ before ++ picture_text (record { width = width; height = height; parts = parts })
framed_text before headed inked after width height parts head is foot =
    foot ∙ ap (λ text. text ++ foot_text) (is ∙ ap (λ text. text ++ flat_map part_text parts) head ∙ append_assoc before (head_text width height) (flat_map part_text parts))
    ∙ append_assoc before (head_text width height ++ flat_map part_text parts) foot_text

-- and where the first of them is a shape, of one that begins with it
pub framed : (before headed titled inked after : List ℕ) (width height : ℕ) (shape : Shape) → headed ≡ before ++ head_text width height → titled ≡ headed ++ part_text (Alone shape) → AddsParts titled inked → after ≡ inked ++ foot_text
    → IsPictureBehind (BeginsWith shape) before after
unfolding adds_on adds_one
framed before headed titled inked after width height shape head title added foot =
    let all = adds_on headed titled inked (adds_one headed titled (Alone shape) title) added in
    (record { width = width; height = height; parts = all.0 }, (added.0, refl), framed_text before headed inked after width height all.0 head all.1 foot)
