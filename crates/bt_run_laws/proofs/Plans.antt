-- The plans that changes installed have small numbers.
use Rattle.std.proofs.Common.{◌≡◌, ℕ, ◌+◌, ◌*◌, ◌<◌, ◌≤◌, ◌^◌, true, if◌then◌else◌, List, [], ◌∷◌, length, sum_by, get_or, All, ap, arith, inl}
use Rattle.std.proofs.lemmas.List.{get_or_default}
use Rattle.std.proofs.lemmas.List.Sums.{sum_by-cons}
use Rattle.bt_frame.proofs.Counts.{sum_by-places_differ}
use Rattle.bt_frame.proofs.OneNumber.{same_terminal}
use Rattle.bt_net.specs.Network.{Net, IsSound}
use Rattle.bt_net.specs.Terminals.{beam_at}
use Rattle.bt_demand.specs.declared.burst.Burst.{Burst}
use Rattle.bt_demand.specs.declared.plan.Plan.{Plan}
use Rattle.bt_demand.specs.Apart.{Collide}
use Rattle.bt_demand.specs.Flyable.{IsFlyable}
use Rattle.bt_demand.proofs.BurstTriples.{held_within}
use Rattle.bt_demand.proofs.Flyable.{few_modes}
use Rattle.bt_journal.specs.declared.call.Change.{Change}
use Rattle.bt_history.specs.Causes.{Follows}
use Rattle.bt_history.specs.Changes.{plans}
use Rattle.bt_history.proofs.Flying.{plans_fly}
use Rattle.bt_round.proofs.Installed.{installed_is_no_newer}
use Rattle.bt_centre.specs.Run.{AreFew}
use Rattle.bt_run_laws.specs.Small.{IsSmallPlan}
use Rattle.bt_run_laws.proofs.Bounds.{are_bounded}

-- the place of a burst among all slots of all terminals
abbrev place_of : Burst → ℕ
place_of burst = burst.from.0 * 4096 + burst.start

-- two bursts that do not meet have different places
places_apart : (net : Net) (a b : Burst) → 0 < a.length → 0 < b.length → a.start < 4096 → b.start < 4096 → ¬ (Collide net a b) → place_of a ≡ place_of b → ⊥
places_apart net a b first second in_frame also apart same =
    let sender : a.from ≡ b.from = same_terminal a.from b.from (omega (arith, in_frame, also, same)) in
    let start : a.start ≡ b.start = omega (arith, in_frame, also, same) in
    apart (record {
      slot = a.start;
      first = record { from_start = omega arith; before_end = omega arith };
      second = record { from_start = omega arith; before_end = omega arith };
      beam = inl (ap (beam_at net) sender);
    })

-- a burst of a plan that can be flown begins in a slot that a frame can have
starts_in_frame : (net : Net) (plan : Plan) → IsFlyable net plan → All (λ burst. burst.start < 4096) plan.bursts
starts_in_frame net plan is k d within =
    let held = is.held k d within in
    omega (arith, held_within net plan.schedule.modes (get_or plan.bursts k d) held, held.some, is.filled, is.short)

counted : (bursts : List Burst) → sum_by (λ (burst : Burst). if true then 1 else 0) bursts ≡ length bursts
counted [] = omega arith
counted (first ∷ rest) = omega (arith, sum_by-cons (λ (burst : Burst). if true then 1 else 0) first rest, counted rest)

-- so it has no more bursts than all terminals have slots
pub bursts_bounded : (net : Net) (plan : Plan) → IsSound net → IsFlyable net plan → length plan.bursts ≤ 64 * 4096
bursts_bounded net plan sound is =
    let starts = starts_in_frame net plan is in
    let places = sum_by-places_differ (λ (burst : Burst). true) place_of (64 * 4096) plan.bursts
    (λ i j d lt within _ _ same.
    places_apart net (get_or plan.bursts i d) (get_or plan.bursts j d) (is.held i d (omega arith)).some (is.held j d within).some (starts i d (omega arith)) (starts j d within) (is.apart i j d lt within) same)
    (λ k d within. omega (arith, starts k d within, (is.between k d within).0, sound.terminals.count.1)) in
    omega (arith, places, counted plan.bursts)

-- the numbers of a plan that can be flown are small
pub flyable_small : (net : Net) (plan : Plan) → IsSound net → IsFlyable net plan → plan.edition.0 < 2 ^ 32 → IsSmallPlan net plan
flyable_small net plan sound is few = record {
  edition = few;
  slots = omega (arith, is.short);
  modes = omega (arith, few_modes net plan is);
  bursts = omega (arith, bursts_bounded net plan sound is);
  each = λ k d within.
      let held = is.held k d within in
      let over = held_within net plan.schedule.modes (get_or plan.bursts k d) held in
      record {
        start = omega (arith, over, is.filled, is.short);
        slots = omega (arith, over, is.filled, is.short);
        from = (is.between k d within).0;
        to = (is.between k d within).1;
      };
}

-- and so are those of each plan that few changes installed
pub plans_small : (net : Net) → IsSound net → (changes : List Change) → Follows net changes → AreFew net changes → All (IsSmallPlan net) (plans changes)
plans_small net sound changes follow few k d within =
    let plan = get_or (plans changes) k d in
    let no_newer = installed_is_no_newer net changes plan follow (k, within, get_or_default (plans changes) k plan d within) in
    flyable_small net plan sound (plans_fly net changes sound follow k d within)
    (omega (arith, no_newer, (are_bounded net changes follow).newest, few.edition))
