-- Where modes begin, and which of them holds a burst.
use Rattle.std.proofs.Common.{◌≡◌, ◌↔◌, ℕ, ◌+◌, ◌<◌, ◌≤◌, List, [], length, All, take, get_or, slice_index, inl, inr, sym, ap, ◌∙◌, subst, arith}
use Rattle.std.specs.List.{HoldsAt}
use Rattle.std.proofs.lemmas.Bool.{cases_order, cases_lt}
use Rattle.std.proofs.lemmas.List.{get_or_default, get_or_past, take-take}
use Rattle.std.proofs.lemmas.List.Sums.{sum_by_more, sum_by-take-le}
use Rattle.bt_frame.specs.declared.numbers.BeamNo.{BeamNo}
use Rattle.bt_frame.specs.declared.numbers.TermNo.{TermNo}
use Rattle.bt_frame.specs.declared.mode.Mode.{Mode}
use Rattle.bt_net.specs.Network.{Net}
use Rattle.bt_matrix.specs.Good.{total_duration}
use Rattle.bt_demand.specs.declared.burst.Burst.{Burst}
use Rattle.bt_demand.specs.declared.holding.Turn.{Turn}
use Rattle.bt_demand.specs.Plan.{begin_of, Connects, IsHeld}
use Rattle.bt_demand.specs.Turn.{IsTurnAt}
use Rattle.bt_net.specs.Terminals.{IsInBeam}
use Rattle.bt_demand.specs.Verdict.{IsFirstWithout}
use Rattle.bt_demand.proofs.LatestEnds.{no_burst}

-- a mode of no slot
abbrev no_mode : Mode
no_mode = record { duration = 0; perm = [] }

-- the next mode begins where this one ends
pub begin_of-next : (modes : List Mode) (k : ℕ) (d : Mode) → k < length modes → begin_of modes (k + 1) ≡ begin_of modes k + (get_or modes k d).duration
begin_of-next modes k d within = sum_by_more (λ (mode : Mode). mode.duration) modes k d within

-- a later mode begins no earlier
pub begin_of-le : (modes : List Mode) (i j : ℕ) → i ≤ j → begin_of modes i ≤ begin_of modes j
begin_of-le modes i j le =
    let part = sum_by-take-le (λ (mode : Mode). mode.duration) (take j modes) i in
    omega (arith, part, ap total_duration (take-take i j modes le))

-- the mode that has a slot is the one that has any slot from there on
one_turn : (modes : List Mode) (slot : ℕ) (turn : Turn) (place last : ℕ) → IsTurnAt modes slot turn → begin_of modes place ≤ slot
    → HoldsAt (λ mode. last ≤ begin_of modes place + mode.duration) modes place → slot < last → (turn.place ≡ place) × (place < length modes)
one_turn modes slot turn place last at begins ends before = elim (cases_lt place (length modes)) [
  | inl within ↦
      let next : slot < begin_of modes (place + 1) = omega (arith, begin_of-next modes place no_mode within, ends no_mode) in
      elim (cases_order turn.place place) [
        | inl same ↦ (same, within)
        | inr order ↦ elim order [
          | inl lower ↦
              let inside : turn.place < length modes = omega arith in
              let here = at.not_over inside no_mode in
              absurd (omega (arith, begin_of-next modes turn.place no_mode inside, begin_of-le modes (turn.place + 1) place (omega arith), at.is.begins, here))
          | inr higher ↦ absurd (omega (arith, begin_of-le modes (place + 1) turn.place (omega arith), at.is.begins, at.begun))
        ]
      ]
  | inr past ↦ absurd (omega (arith, ends no_mode, ap (λ (m : Mode). m.duration) (get_or_past modes place no_mode past)))
]

-- a terminal is in one beam
pub one_beam : (net : Net) (terminal : TermNo) (a b : BeamNo) → IsInBeam net terminal a → IsInBeam net terminal b → a ≡ b
one_beam net terminal a b in_a in_b = cc

-- a mode makes the connection between two beams
pub connects_beams : (net : Net) (mode : Mode) (from to : TermNo) (up down : BeamNo) → IsInBeam net from up → IsInBeam net to down
    → (slice_index mode.perm up.0 ≡ down.0) ↔ Connects net mode from to
connects_beams net mode from to up down is_up is_down = (
  (λ sends u d is_u is_d.
      subst (λ (b : BeamNo). slice_index mode.perm u.0 ≡ b.0) (one_beam net to down d is_down is_d)
      (subst (λ (b : BeamNo). slice_index mode.perm b.0 ≡ down.0) (one_beam net from up u is_up is_u) sends)),
  (λ connects. connects up down is_up is_down),
)

-- the burst is held where the mode whose turn has its start holds it
pub held_by_its_mode : (net : Net) (modes : List Mode) (burst : Burst) (turn : Turn) (mode : Mode) → IsTurnAt modes burst.start turn → turn.place < length modes
    → mode ≡ get_or modes turn.place mode → ((0 < burst.length) × (burst.start + burst.length ≤ turn.begin + mode.duration)) × Connects net mode burst.from burst.to
    → IsHeld net modes burst
held_by_its_mode net modes burst turn mode at within is ((some, ends), connected) = record {
  some = some;
  place = turn.place;
  within = record {
    begins = omega (arith, at.is.begins, at.begun);
    connected = λ d.
        subst (λ (m : Mode). (burst.start + burst.length ≤ begin_of modes turn.place + m.duration) × Connects net m burst.from burst.to)
        (is ∙ get_or_default modes turn.place mode d within) (omega (arith, at.is.begins), connected);
  };
}

-- a burst that is held is held by that mode
pub its_mode_holds : (net : Net) (modes : List Mode) (burst : Burst) (turn : Turn) (mode : Mode) → IsTurnAt modes burst.start turn → turn.place < length modes
    → mode ≡ get_or modes turn.place mode → IsHeld net modes burst
    → ((0 < burst.length) × (burst.start + burst.length ≤ turn.begin + mode.duration)) × Connects net mode burst.from burst.to
its_mode_holds net modes burst turn mode at within is held =
    let here = one_turn modes burst.start turn held.place (burst.start + burst.length) at held.within.begins (λ d. (held.within.connected d).0) (omega (arith, held.some)) in
    let facts = held.within.connected mode in
    let same : get_or modes held.place mode ≡ mode = ap (λ (k : ℕ). get_or modes k mode) (sym here.0) ∙ sym is in
    let begins : turn.begin ≡ begin_of modes held.place = at.is.begins ∙ ap (begin_of modes) here.0 in
    let ends : burst.start + burst.length ≤ begin_of modes held.place + mode.duration = subst (λ (m : Mode). burst.start + burst.length ≤ begin_of modes held.place + m.duration) same facts.0 in
    ((held.some, omega arith), subst (λ (m : Mode). Connects net m burst.from burst.to) same facts.1)

-- behind all modes nothing is held
pub none_holds : (net : Net) (modes : List Mode) (burst : Burst) (turn : Turn) → IsTurnAt modes burst.start turn → turn.place ≡ length modes → ¬ (IsHeld net modes burst)
none_holds net modes burst turn at past held =
    let here = one_turn modes burst.start turn held.place (burst.start + burst.length) at held.within.begins (λ d. (held.within.connected d).0) (omega (arith, held.some)) in
    omega (arith, here.0, here.1)

-- the first burst that is not held
pub is_first_unheld : (net : Net) (modes : List Mode) (xs : List Burst) (i : ℕ) → i < length xs → All (IsHeld net modes) (take i xs)
    → ¬ (IsHeld net modes (get_or xs i no_burst)) → IsFirstWithout (IsHeld net modes) xs i
is_first_unheld net modes xs i within earlier not_held = record {
  within = within;
  earlier = earlier;
  broken = λ d. subst (λ (b : Burst). IsHeld net modes b → ⊥) (get_or_default xs i no_burst d within) not_held;
}
