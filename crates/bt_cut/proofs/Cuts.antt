-- The rule of the cutting, which speaks of single slots, and the part of a link in a mode, which counts them.
use Rattle.std.proofs.Common.{◌≡◌, ℕ, ◌+◌, ◌-◌, ◌<◌, ◌≤◌, min, max, List, [], length, take, get_or, sym, ap, ◌∙◌, subst, inl, inr, arith}
use Rattle.std.specs.List.{HoldsAt}
use Rattle.std.proofs.lemmas.Bool.{cases_lt}
use Rattle.std.proofs.lemmas.List.{get_or_default, get_or_past}
use Rattle.bt_frame.specs.declared.numbers.BeamNo.{BeamNo}
use Rattle.bt_frame.specs.declared.numbers.TermNo.{TermNo}
use Rattle.bt_frame.specs.declared.mode.Mode.{Mode}
use Rattle.bt_net.specs.Network.{Net}
use Rattle.bt_demand.specs.declared.burst.Burst.{Burst}
use Rattle.bt_demand.specs.declared.demand.Link.{Link}
use Rattle.bt_demand.specs.Plan.{begin_of}
use Rattle.bt_demand.specs.Traffic.{units_between}
use Rattle.bt_net.specs.Terminals.{IsInBeam}
use Rattle.bt_cut.specs.Cutting.{Takes, IsUnitOf, IsSlotOf, IsCut}
use Rattle.bt_cut.specs.Parts.{IsPart}
use Rattle.bt_cut.specs.Serving.{number_at}
use Rattle.bt_cut.proofs.Numbers.{number_next, slots_in-le}
use Rattle.bt_demand.proofs.Begins.{one_beam}

-- The slot has a number that is among those of a link, and among those of a mode that begins at this slot.
pub record IsNumbered (first last low high begin slot : ℕ) : Type 0 where
  pub unit : ℕ
  pub from_first : first ≤ unit
  pub to_last : unit < last
  pub from_low : low ≤ unit
  pub to_high : unit < high
  pub at : slot + low ≡ begin + unit

-- a burst of the numbers in both ranges covers exactly their slots
numbered_inside : (start length first last low high begin slot : ℕ) → start + low ≡ begin + max first low → length + max first low ≡ min last high
    → start ≤ slot → slot < start + length → IsNumbered first last low high begin slot
numbered_inside start length first last low high begin slot begins ends from to = record {
  unit = (slot - start) + max first low;
  from_first = omega arith;
  to_last = omega arith;
  from_low = omega arith;
  to_high = omega arith;
  at = omega arith;
}

inside_numbered : (start length first last low high begin slot : ℕ) → start + low ≡ begin + max first low → length + max first low ≡ min last high
    → IsNumbered first last low high begin slot → (start ≤ slot) × (slot < start + length)
inside_numbered start length first last low high begin slot begins ends numbered = (omega (arith, numbered.at, numbered.from_first, numbered.from_low), omega (arith, numbered.at, numbered.to_last, numbered.to_high))

-- a burst that covers exactly the slots whose numbers are in both ranges begins and ends with them
numbers_begin : (start length first last low high begin : ℕ) → 0 < length → ((slot : ℕ) → start ≤ slot → slot < start + length → IsNumbered first last low high begin slot)
    → ((slot : ℕ) → IsNumbered first last low high begin slot → (start ≤ slot) × (slot < start + length)) → start + low ≡ begin + max first low
numbers_begin start length first last low high begin some inside covered =
    let first_slot = inside start (omega arith) (omega arith) in
    elim (cases_lt (max first low) first_slot.unit) [
      | inl later ↦
          let at = first_slot.at in
          let low_least = first_slot.from_low in
          let numbered : IsNumbered first last low high begin (start - 1) = record {
            unit = first_slot.unit - 1;
            from_first = omega arith;
            to_last = omega (arith, first_slot.to_last);
            from_low = omega arith;
            to_high = omega (arith, first_slot.to_high);
            at = omega arith;
          } in
          absurd (omega (arith, (covered (start - 1) numbered).0, at, later))
      | inr sooner ↦ omega (arith, first_slot.at, first_slot.from_first, first_slot.from_low)
    ]

numbers_end : (start length first last low high begin : ℕ) → 0 < length → start + low ≡ begin + max first low
    → ((slot : ℕ) → start ≤ slot → slot < start + length → IsNumbered first last low high begin slot)
    → ((slot : ℕ) → IsNumbered first last low high begin slot → (start ≤ slot) × (slot < start + length)) → length + max first low ≡ min last high
numbers_end start length first last low high begin some begins inside covered =
    let last_slot = inside (start + length - 1) (omega arith) (omega arith) in
    let no_more : length + max first low ≤ min last high = omega (arith, last_slot.at, last_slot.to_last, last_slot.to_high) in
    elim (cases_lt (length + max first low) (min last high)) [
      | inl less ↦
          let numbered : IsNumbered first last low high begin (start + length) = record {
            unit = length + max first low;
            from_first = omega arith;
            to_last = omega arith;
            from_low = omega arith;
            to_high = omega arith;
            at = omega arith;
          } in
          absurd (omega (arith, (covered (start + length) numbered).1))
      | inr whole ↦ omega arith
    ]

-- the slots that units of a link take in a mode, by their numbers
takes_numbered : (net : Net) (links : List Link) (modes : List Mode) (link mode slot : ℕ) (up down : BeamNo) (l : Link) → mode < length modes
    → l ≡ get_or links link l → IsInBeam net l.from up → IsInBeam net l.to down → Takes net links modes link mode slot
    → IsNumbered (units_between net (take link links) up.0 down.0) (units_between net (take link links) up.0 down.0 + l.units)
    (number_at modes up.0 down.0 mode) (number_at modes up.0 down.0 (mode + 1)) (begin_of modes mode) slot
takes_numbered net links modes link mode slot up down l within is sends receives takes =
    let d : Mode = record { duration = 0; perm = [] } in
    let same_up : takes.up ≡ up = one_beam net l.from takes.up up (subst (λ (x : Link). IsInBeam net x.from takes.up) (sym is) (takes.sends l)) sends in
    let same_down : takes.down ≡ down = one_beam net l.to takes.down down (subst (λ (x : Link). IsInBeam net x.to takes.down) (sym is) (takes.receives l)) receives in
    let of_link = subst (λ (b : BeamNo). IsUnitOf net links up b link takes.unit) same_down (subst (λ (b : BeamNo). IsUnitOf net links b takes.down link takes.unit) same_up takes.of_link) in
    let of_mode = subst (λ (b : BeamNo). IsSlotOf modes up b mode takes.unit slot) same_down (subst (λ (b : BeamNo). IsSlotOf modes b takes.down mode takes.unit slot) same_up takes.of_mode) in
    record {
      unit = takes.unit;
      from_first = of_link.first;
      to_last = subst (λ (x : Link). takes.unit < units_between net (take link links) up.0 down.0 + x.units) (sym is) (of_link.last l);
      from_low = of_mode.first;
      to_high = omega (arith, of_mode.last d, number_next modes up.0 down.0 mode d within);
      at = of_mode.place_in_mode;
    }

numbered_takes : (net : Net) (links : List Link) (modes : List Mode) (link mode slot : ℕ) (up down : BeamNo) (l : Link) → mode < length modes
    → HoldsAt (λ x. x ≡ l) links link → IsInBeam net l.from up → IsInBeam net l.to down
    → IsNumbered (units_between net (take link links) up.0 down.0) (units_between net (take link links) up.0 down.0 + l.units)
    (number_at modes up.0 down.0 mode) (number_at modes up.0 down.0 (mode + 1)) (begin_of modes mode) slot
    → Takes net links modes link mode slot
numbered_takes net links modes link mode slot up down l within is sends receives numbered = record {
  up = up;
  down = down;
  sends = λ d. subst (λ (x : Link). IsInBeam net x.from up) (sym (is d)) sends;
  receives = λ d. subst (λ (x : Link). IsInBeam net x.to down) (sym (is d)) receives;
  unit = numbered.unit;
  of_link = record {
    first = numbered.from_first;
    last = λ d. subst (λ (x : Link). numbered.unit < units_between net (take link links) up.0 down.0 + x.units) (sym (is d)) numbered.to_last;
  };
  of_mode = record {
    first = numbered.from_low;
    last = λ d. omega (arith, numbered.to_high, number_next modes up.0 down.0 mode d within);
    place_in_mode = numbered.at;
  };
}

-- the part of a link in a mode is cut as the rule says
pub IsCut-part : (net : Net) (links : List Link) (modes : List Mode) (link mode : ℕ) (burst : Burst) → link < length links → IsPart net links modes link mode burst
    → IsCut net links modes link mode burst
IsCut-part net links modes link mode burst within part =
    let none : Link = record { from = record { 0 = 0 }; to = record { 0 = 0 }; units = 0 } in
    let l = get_or links link none in
    let is = λ (d : Link). get_or_default links link d none within in
    let piece = part.piece none in
    record {
      ends = λ d. (ap (λ (x : Link). x.from) (is d) ∙ sym piece.sends, ap (λ (x : Link). x.to) (is d) ∙ sym piece.receives);
      some = piece.some;
      slots = λ slot. (
        (λ covers. numbered_takes net links modes link mode slot part.up part.down l piece.in_range is (part.sends none) (part.receives none)
            (numbered_inside burst.start burst.length _ _ _ _ _ slot piece.begins piece.ends covers.from_start covers.before_end)),
        (λ takes.
            let inside = inside_numbered burst.start burst.length _ _ _ _ _ slot piece.begins piece.ends
            (takes_numbered net links modes link mode slot part.up part.down l piece.in_range (sym (is l)) (part.sends none) (part.receives none) takes) in
            record { from_start = inside.0; before_end = inside.1 }),
      );
    }

-- a link and a mode that a cut burst names are there
link_there : (net : Net) (links : List Link) (modes : List Mode) (link mode : ℕ) (burst : Burst) → IsCut net links modes link mode burst → link < length links
link_there net links modes link mode burst cut =
    elim (cases_lt link (length links)) [
      | inl inside ↦ inside
      | inr beyond ↦
          let other : Link = record { from = record { 0 = burst.from.0 + 1 }; to = burst.to; units = 0 } in
          let from = ap (λ (l : Link). l.from.0) (get_or_past links link other beyond) in
          let same = ap (λ (t : TermNo). t.0) (cut.ends other).0 in
          absurd (omega (arith, from, same))
    ]

mode_there : (modes : List Mode) (up down : BeamNo) (mode number slot : ℕ) → IsSlotOf modes up down mode number slot → mode < length modes
mode_there modes up down mode number slot is =
    elim (cases_lt mode (length modes)) [
      | inl inside ↦ inside
      | inr beyond ↦
          let other : Mode = record { duration = 0; perm = [] } in
          let none = ap (λ (m : Mode). m.duration) (get_or_past modes mode other beyond) in
          absurd (omega (arith, is.first, is.last other, none, slots_in-le up.0 down.0 (get_or modes mode other)))
    ]

-- what is cut as the rule says is the part of its link in its mode
pub IsPart-cut : (net : Net) (links : List Link) (modes : List Mode) (link mode : ℕ) (burst : Burst) → IsCut net links modes link mode burst
    → (link < length links) × IsPart net links modes link mode burst
IsPart-cut net links modes link mode burst cut =
    let none : Link = record { from = record { 0 = 0 }; to = record { 0 = 0 }; units = 0 } in
    let within = link_there net links modes link mode burst cut in
    let l = get_or links link none in
    let is = λ (d : Link). get_or_default links link d none within in
    let taken = (cut.slots burst.start).0 (record { from_start = omega arith; before_end = omega (arith, cut.some) }) in
    let up = taken.up in
    let down = taken.down in
    let in_range = mode_there modes up down mode taken.unit burst.start taken.of_mode in
    let first = units_between net (take link links) up.0 down.0 in
    let low = number_at modes up.0 down.0 mode in
    let high = number_at modes up.0 down.0 (mode + 1) in
    let inside = λ (slot : ℕ) (from : burst.start ≤ slot) (to : slot < burst.start + burst.length).
    takes_numbered net links modes link mode slot up down l in_range (sym (is l)) (taken.sends none) (taken.receives none)
    ((cut.slots slot).0 (record { from_start = from; before_end = to })) in
    let covered : (slot : ℕ) → IsNumbered first (first + l.units) low high (begin_of modes mode) slot → (burst.start ≤ slot) × (slot < burst.start + burst.length) = λ slot numbered.
    let covers = (cut.slots slot).1 (numbered_takes net links modes link mode slot up down l in_range is (taken.sends none) (taken.receives none) numbered) in
    (covers.from_start, covers.before_end) in
    let begins = numbers_begin burst.start burst.length first (first + l.units) low high (begin_of modes mode) cut.some inside covered in
    let ends = numbers_end burst.start burst.length first (first + l.units) low high (begin_of modes mode) cut.some begins inside covered in (
      within,
      record {
        up = up;
        down = down;
        sends = taken.sends;
        receives = taken.receives;
        piece = λ d. record {
          in_range = in_range;
          sends = sym (cut.ends d).0;
          receives = sym (cut.ends d).1;
          some = cut.some;
          begins = begins;
          ends = ends ∙ ap (λ (x : Link). min (first + x.units) high) (sym (is d));
        };
      },
    )
