-- The lines of a schedule as a writer makes them, one number or one mode after the other.
use Rattle.std.proofs.Common.{◌≡◌, ℕ, ◌+◌, ◌<◌, codes, decimal, List, ◌∷◌, ◌++◌, length, map, take, get_or, ap, ◌∙◌}
use Rattle.std.proofs.lemmas.List.{take_more, map_push}
use Rattle.bt_text.specs.Text.{spaced, ended}
use Rattle.bt_frame.specs.declared.mode.Mode.{Mode}
use Rattle.bt_frame.specs.declared.schedule.Critical.{Critical}
use Rattle.bt_text.proofs.TextLines.{spaced_more}
use Rattle.bt_plan.specs.ScheduleSpelling.{length_line, critical_line, mode_line}

-- a mode's line with the downlinks so far
abbrev pub mode_begun : ℕ → List ℕ → List ℕ
mode_begun duration perm = spaced (codes "mode" ∷ map decimal (duration ∷ perm))

-- one downlink more
pub mode_begun-take : (duration : ℕ) (perm : List ℕ) (i : ℕ) → i < length perm → mode_begun duration (take (i + 1) perm) ≡ mode_begun duration (take i perm) ++ 32 ∷ decimal (get_or perm i 0)
mode_begun-take duration perm i within =
    ap (mode_begun duration) (take_more perm i 0 within)
    ∙ ap (λ words. spaced (codes "mode" ∷ decimal duration ∷ words)) (map_push decimal (take i perm) (get_or perm i 0))
    ∙ spaced_more (codes "mode") (decimal duration ∷ map decimal (take i perm)) (decimal (get_or perm i 0))

-- a schedule's text with the modes so far
abbrev pub schedule_begun : ℕ → Critical → List Mode → List ℕ
schedule_begun slots critical modes = ended (length_line slots ∷ critical_line critical ∷ map mode_line modes)
