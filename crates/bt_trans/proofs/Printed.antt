-- The lines of a schedule as a writer makes them, one downlink or one mode after the other.
use Rattle.std.proofs.Common.{◌≡◌, ℕ, ◌+◌, ◌<◌, codes, decimal, List, ◌∷◌, ◌++◌, length, map, take, get_or, ap, ◌∙◌}
use Rattle.std.proofs.lemmas.List.{take_more, map_push}
use Rattle.bt_text.specs.Text.{spaced, ended}
use Rattle.bt_text.proofs.TextLines.{spaced_more}
use Rattle.bt_trans.specs.declared.part.Bound.{Bound}
use Rattle.bt_trans.specs.declared.part.PartMode.{PartMode}
use Rattle.bt_trans.specs.PartText.{length_line, bound_line, downlink_word, part_mode_line}

-- a mode's line with the downlinks so far
abbrev pub part_mode_begun : ℕ → List ℕ → List ℕ
part_mode_begun duration perm = spaced (codes "mode" ∷ decimal duration ∷ map downlink_word perm)

-- one downlink more
pub part_mode_begun-take : (duration : ℕ) (perm : List ℕ) (i : ℕ) → i < length perm
    → part_mode_begun duration (take (i + 1) perm) ≡ part_mode_begun duration (take i perm) ++ 32 ∷ downlink_word (get_or perm i 0)
part_mode_begun-take duration perm i within =
    ap (part_mode_begun duration) (take_more perm i 0 within)
    ∙ ap (λ words. spaced (codes "mode" ∷ decimal duration ∷ words)) (map_push downlink_word (take i perm) (get_or perm i 0))
    ∙ spaced_more (codes "mode") (decimal duration ∷ map downlink_word (take i perm)) (downlink_word (get_or perm i 0))

-- a schedule's text with the modes so far
abbrev pub part_begun : List (List ℕ) → ℕ → Bound → List PartMode → List ℕ
part_begun rows slots bound modes = ended (length_line slots ∷ bound_line rows bound ∷ map part_mode_line modes)
