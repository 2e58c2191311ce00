-- What an input gives first.
use Rattle.std.proofs.Common.{◌≡◌, ℕ, ◌<◌, ◌≤◌, List, [], ◌∷◌, drop, length, Option, Some, None, refl, sym, ap, ◌∙◌, arith}
use Rattle.std.specs.Prelude.{◌==◌}
use Rattle.std.proofs.lemmas.List.{drop_all, length-drop}
use Rattle.std.proofs.lemmas.List.Splits.{length-slice_split}
use Rattle.bt_text.specs.Text.{lines}
use Rattle.bt_outside.specs.Input.{given_by, pieces_in, short_line, unended}

-- a piece with a newline behind it, and the pieces behind
pieces-first : (limit : ℕ) (line : List ℕ) (more : List (List ℕ)) → 0 < length more → pieces_in limit (line ∷ more) ≡ short_line limit line ∷ pieces_in limit more
pieces-first limit line (next ∷ rest) some = refl
pieces-first limit line [] some = absurd (omega (arith, some))

-- the first line of a text is given first
pub given-first : (limit : ℕ) (bytes line after : List ℕ) → lines bytes ≡ line ∷ lines after → given_by limit bytes ≡ short_line limit line ∷ given_by limit after
given-first limit bytes line after is =
    ap (pieces_in limit) is ∙ pieces-first limit line (lines after) (omega (arith, length-slice_split (λ (b : ℕ). b == 10) after))

short-is : (limit : ℕ) (line : List ℕ) → length line ≤ limit → short_line limit line ≡ Some line
short-is limit line short = grind arith

-- where it is short, it is a line
pub given-line : (limit : ℕ) (bytes line own after : List ℕ) → lines bytes ≡ line ∷ lines after → own ≡ line → length line ≤ limit → given_by limit bytes ≡ Some own ∷ given_by limit after
given-line limit bytes line own after is same short = rw same (given-first limit bytes line after is ∙ ap (λ (o : Option (List ℕ)). o ∷ given_by limit after) (short-is limit line short))

unended-some : (last : List ℕ) → 0 < length last → unended last ≡ None ∷ []
unended-some (b ∷ rest) some = refl
unended-some [] some = absurd (omega (arith, some))

-- where no newline is left, what is left is none
pub given-unended : (limit : ℕ) (bytes : List ℕ) (place : ℕ) → lines (drop place bytes) ≡ drop place bytes ∷ [] → place < length bytes
    → given_by limit (drop place bytes) ≡ None ∷ given_by limit (drop (length bytes) bytes)
given-unended limit bytes place is some =
    ap (pieces_in limit) is ∙ unended-some (drop place bytes) (omega (arith, some, length-drop place bytes))
    ∙ ap (λ (l : List ℕ). None ∷ given_by limit l) (sym (drop_all (length bytes) bytes (omega arith)))
