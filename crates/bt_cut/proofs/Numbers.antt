-- The numbers of a connection's slots over the modes, and where modes begin.
use Rattle.std.proofs.Common.{◌≡◌, ℕ, ◌+◌, ◌<◌, ◌≤◌, ◌==◌, if◌then◌else◌, Bool, true, false, List, [], length, get_or, slice_index, inl, inr, arith}
use Rattle.std.proofs.lemmas.Bool.{cases_eq, cases_lt}
use Rattle.std.proofs.lemmas.List.Sums.{sum_by_more}
use Rattle.bt_frame.specs.declared.mode.Mode.{Mode}
use Rattle.bt_matrix.specs.Good.{slots_in}
use Rattle.bt_demand.specs.Plan.{begin_of}
use Rattle.bt_demand.proofs.Begins.{begin_of-next, begin_of-le}
use Rattle.bt_cut.specs.Serving.{number_at}
use Rattle.bt_cut.proofs.Prefixes.{prefix_grows}

-- the next mode's first slot has the number behind this mode's slots
pub number_next : (modes : List Mode) (up down place : ℕ) (d : Mode) → place < length modes
    → number_at modes up down (place + 1) ≡ number_at modes up down place + slots_in up down (get_or modes place d)
number_next modes up down place d within = sum_by_more (slots_in up down) modes place d within

either_le : (test : Bool) (n : ℕ) → (if test then n else 0) ≤ n
either_le true n = omega arith
either_le false n = omega arith

-- a mode gives a connection no more slots than it has
pub slots_in-le : (up down : ℕ) (mode : Mode) → slots_in up down mode ≤ mode.duration
slots_in-le up down mode = either_le (slice_index mode.perm up == down) mode.duration

-- numbers do not fall over the modes
pub numbers_grow : (modes : List Mode) (up down i j : ℕ) → i ≤ j → number_at modes up down i ≤ number_at modes up down j
numbers_grow modes up down i j le = prefix_grows (slots_in up down) modes i j le

-- over a mode the numbers grow no more than the slots
pub numbers_step : (modes : List Mode) (up down place : ℕ) → place < length modes
    → number_at modes up down (place + 1) + begin_of modes place ≤ number_at modes up down place + begin_of modes (place + 1)
numbers_step modes up down place within =
    let d : Mode = record { duration = 0; perm = [] } in
    omega (arith, number_next modes up down place d within, begin_of-next modes place d within, slots_in-le up down (get_or modes place d))

-- a slot lies in one mode only
pub one_mode : (modes : List Mode) (slot i j : ℕ) → begin_of modes i ≤ slot → slot < begin_of modes (i + 1) → begin_of modes j ≤ slot → slot < begin_of modes (j + 1) → i ≡ j
one_mode modes slot i j i_begins i_ends j_begins j_ends =
    elim (cases_eq i j) [
      | inl same ↦ same
      | inr other ↦
          elim (cases_lt i j) [
            | inl less ↦ absurd (omega (arith, begin_of-le modes (i + 1) j (omega arith)))
            | inr more ↦ absurd (omega (arith, begin_of-le modes (j + 1) i (omega arith)))
          ]
    ]
