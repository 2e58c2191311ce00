-- The triples that bursts spell: each is switched where each burst is held.
use Rattle.std.proofs.Common.{◌≡◌, ℕ, ◌<◌, List, [], length, get_or, All, ap, arith, inl, inr}
use Rattle.std.proofs.lemmas.Bool.{cases_lt}
use Rattle.std.proofs.lemmas.List.{get_or_default}
use Rattle.std.proofs.lemmas.List.Elements.{All-weaker}
use Rattle.std.proofs.Math.ListN.{get_or-eq_default}
use Rattle.bt_frame.specs.declared.mode.Mode.{Mode}
use Rattle.bt_net.specs.Network.{Net}
use Rattle.bt_demand.specs.declared.burst.Burst.{Burst}
use Rattle.bt_demand.specs.Burst.{Covers}
use Rattle.bt_demand.proofs.BurstTriples.{triple_in, All-all_triples}
use Rattle.bt_demand.specs.Plan.{all_triples, IsHeld}
use Rattle.bt_site.specs.Air.{IsSwitched}

-- a mode that is held for no slot
abbrev no_mode : Mode
no_mode = record { duration = 0; perm = [] }

-- the place of the mode that holds a burst is one of the list
in_list : (net : Net) (modes : List Mode) (burst : Burst) (held : IsHeld net modes burst) → held.place < length modes
in_list net modes burst held = elim (cases_lt held.place (length modes)) [
  | inl lt ↦ lt
  | inr past ↦
      let at : get_or modes held.place no_mode ≡ no_mode = get_or-eq_default modes no_mode past in
      let none : (get_or modes held.place no_mode).duration ≡ 0 = ap (λ (m : Mode). m.duration) at in
      absurd (omega (arith, held.some, held.within.begins, (held.within.connected no_mode).0))
]

-- a burst that a mode holds is switched in each of its slots
pub held_switched : (net : Net) (modes : List Mode) (burst : Burst) → IsHeld net modes burst → (slot : ℕ) → Covers burst slot → IsSwitched net modes (triple_in burst slot)
held_switched net modes burst held slot covers =
    let within = in_list net modes burst held in
    let connected = held.within.connected no_mode in record {
      mode = get_or modes held.place no_mode;
      spans = record {
        place = held.place;
        in_list = within;
        is = λ d. get_or_default modes held.place d no_mode within;
        begun = omega (arith, held.within.begins, covers.from_start);
        not_ended = omega (arith, covers.before_end, connected.0);
      };
      connected = connected.1;
    }

-- so are all
pub all_switched : (net : Net) (modes : List Mode) (bursts : List Burst) → All (IsHeld net modes) bursts → All (IsSwitched net modes) (all_triples bursts)
all_switched net modes bursts held = All-all_triples (IsSwitched net modes) bursts
    (All-weaker (IsHeld net modes) (λ (burst : Burst). (slot : ℕ) → Covers burst slot → IsSwitched net modes (triple_in burst slot)) (held_switched net modes) bursts held)
