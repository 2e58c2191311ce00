-- the links of one place more
use Rattle.std.proofs.Common.{ℕ, ◌≡◌, ◌<◌, ◌≤◌, List, [], ◌∷◌, ◌++◌, get_or, take, sym, subst, ap, ◌∙◌, arith}
use Rattle.std.proofs.lemmas.List.{get_or_read, take_all}
use Rattle.bt_demand.specs.declared.demand.Link.{Link}
use Rattle.bt_demand.specs.Demand.{IsDemand}
use Rattle.bt_plan.specs.LinkTable.{links_from, IsTable}
use Rattle.bt_plan.proofs.LinkTables.{next_demand, next_place, same_place, no_place}
use Rattle.bt_plan.proofs.link_table.LinkTable.demand.Goals as goal
use Rattle.bt_plan.proofs.link_table.LinkTable.demand.Goals.{then-units-gt0+in_ok-push, else-units-gt0}

read : (places : List ℕ) (place units : ℕ) → IsTable places → place < 4096 → units ≡ get_or places place units → units ≡ get_or places place 0
read places place units table within is = get_or_read places place units (omega (arith, table.size)) is 0

-- after the last place the links are those of the table
all : (places : List ℕ) (place : ℕ) (links : List Link) → IsTable places → 4096 ≤ place → links ≡ links_from 0 (take place places) → links ≡ links_from 0 places
all places place links table past so_far = so_far ∙ ap (links_from 0) (take_all place places (omega (arith, table.size, past)))

pub loop-place-init : goal.loop-place-init
loop-place-init c = c.empty-demand.ensures.empty ∙ sym (no_place c.self.inside.places.items)

-- the link of a place stands behind those of the places before it
pub push-requires : goal.push-requires
push-requires c =
    let places = c.self.inside.places.items in
    let place = c.loop-place.place in
    let units : c.index-units.result.now ≡ get_or places place 0 = read places place c.index-units.result.now c.self.invariant c.loop-place-test.true c.index-units.ensures in
    record { demand = subst (λ (link : Link). IsDemand (c.loop-place.demand ++ link ∷ [])) (sym c.link_at.ensures) (next_demand places place c.index-units.result.now c.loop-place.demand c.self.invariant c.loop-place-test.true c.if-units-gt0.true units c.loop-place.invariant) }

pub loop-place-preserved : goal.loop-place-preserved
loop-place-preserved c =
    let places = c.self.inside.places.items in
    let place = c.loop-place.place in
    let units : c.index-units.result.now ≡ get_or places place 0 = read places place c.index-units.result.now c.self.invariant c.loop-place-test.true c.index-units.ensures in
    elim c.if-units-gt0.branch [
      | then-units-gt0+in_ok-push w ↦ rw (w.demand-is, w.in_ok-push.ensures.ok, w.link_at.ensures) (next_place places place c.index-units.result.now c.loop-place.demand c.self.invariant c.loop-place-test.true w.if-units-gt0.true units c.loop-place.invariant)
      | else-units-gt0 w ↦ rw w.demand-is (same_place places place c.index-units.result.now c.loop-place.demand c.self.invariant c.loop-place-test.true units (omega (arith, w.if-units-gt0.false)) c.loop-place.invariant)
    ]

pub returns : goal.returns
returns c = all c.self.inside.places.items c.loop-place.place c.loop-place.demand c.self.invariant c.loop-place-test.false c.loop-place.invariant ∙ c.self.view_is
