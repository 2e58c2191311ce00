-- The marks of bursts that meet, one burst more.
use Rattle.std.proofs.Common.{refl, ◌≡◌, ℕ, ◌+◌, ◌<◌, ◌==◌, Bool, true, false, if◌then◌else◌, max, List, length, get_or, set, take, ap, sym, ◌∙◌}
use Rattle.std.proofs.lemmas.Bool.{eqb-true, eq-eqb}
use Rattle.std.proofs.lemmas.Grind.{get_or-set_at}
use Rattle.std.proofs.lemmas.List.{get_or-set_other}
use Rattle.std.proofs.lemmas.List.Sums.{fold_more}
use Rattle.bt_net.specs.Network.{Net}
use Rattle.bt_demand.specs.declared.burst.Burst.{Burst}
use Rattle.bt_plan_chart.specs.declared.scale.Direction.{Direction}
use Rattle.bt_plan_chart.specs.declared.scale.Scale.{Scale}
use Rattle.bt_plan_chart.specs.Chart.{clash_parts, clash_parts_at, clash_parts_of, latest_end, no_burst}
use Rattle.bt_plan_chart.specs.Scale.{beam_number, end_of, terminal_of}

-- the mark of a burst of a list, by what was found of it
pub marked : (net : Net) (scale : Scale) (direction : Direction) (bursts : List Burst) (k : ℕ) (burst : Burst) (beam latest : ℕ) → get_or bursts k no_burst ≡ burst
    → beam ≡ beam_number net (terminal_of direction burst) → latest ≡ latest_end net direction (take k bursts) beam
    → clash_parts scale direction beam burst latest ≡ clash_parts_at net scale direction bursts k
marked net scale direction bursts k burst beam latest found lane ends =
    ap (λ (l : ℕ). clash_parts scale direction beam burst l) ends
    ∙ ap (λ (b : ℕ). clash_parts scale direction b burst (latest_end net direction (take k bursts) b)) lane
    ∙ ap (λ (one : Burst). clash_parts_of net scale direction (take k bursts) one) (sym found)

-- one of some latest ends is set
kept_if : (test : Bool) (so_far : List ℕ) (beam b ends latest last : ℕ) → (beam == b) ≡ test → beam < length so_far → get_or so_far b 0 ≡ latest
    → ends ≡ max (get_or so_far beam 0) last → get_or (set so_far beam ends) b 0 ≡ (if test then max latest last else latest)
kept_if true so_far beam b ends latest last told within before is =
    let same : beam ≡ b = eqb-true beam b told in
    get_or-set_at so_far beam b ends 0 (sym same) within ∙ is ∙ ap (λ (n : ℕ). max (get_or so_far n 0) last) same ∙ ap (λ (n : ℕ). max n last) before
kept_if false so_far beam b ends latest last told within before is =
    get_or-set_other so_far beam b ends 0 (λ same. let alike : (beam == b) ≡ true = eq-eqb beam b (sym same) in cc) ∙ before

-- the latest ends, with those of one burst more
pub latest_more : (net : Net) (direction : Direction) (bursts : List Burst) (k beam ends : ℕ) (so_far : List ℕ) (b : ℕ) → k < length bursts
    → beam ≡ beam_number net (terminal_of direction (get_or bursts k no_burst)) → beam < length so_far → get_or so_far b 0 ≡ latest_end net direction (take k bursts) b
    → ends ≡ max (get_or so_far beam 0) (end_of (get_or bursts k no_burst)) → get_or (set so_far beam ends) b 0 ≡ latest_end net direction (take (k + 1) bursts) b
latest_more net direction bursts k beam ends so_far b within lane in_range before is =
    let burst : Burst = get_or bursts k no_burst in
    let latest = latest_end net direction (take k bursts) b in
    let step : ℕ → Burst → ℕ = λ latest one. if beam_number net (terminal_of direction one) == b then max latest (end_of one) else latest in
    kept_if (beam == b) so_far beam b ends latest (end_of burst) refl in_range before is
    ∙ ap (λ (n : ℕ). if n == b then max latest (end_of burst) else latest) lane
    ∙ sym (fold_more step 0 bursts k no_burst within)
