use Rattle.std.proofs.Common.{◌++◌, slice_set, ◌≡◌, ℕ, ◌+◌, ◌*◌, ◌≤◌, List, length, take, get_or, refl, sym, ap, ◌∙◌, subst, arith}
use Rattle.std.proofs.lemmas.List.{get_or_default, take_all, length-append}
use Rattle.std.proofs.lemmas.Grind.{moves}
use Rattle.bt_frame.specs.declared.mode.Mode.{Mode}
use Rattle.bt_net.specs.Terminals.{IsTerminal}
use Rattle.bt_matrix.specs.Good.{slots_of}
use Rattle.bt_demand.specs.declared.demand.Link.{Link}
use Rattle.bt_demand.specs.Demand.{IsDemand}
use Rattle.bt_demand.specs.Rows.{all_links}
use Rattle.bt_demand.specs.Traffic.{AreOfNetwork, units_between}
use Rattle.bt_cut.specs.declared.connection.Connection.{Connection}
use Rattle.bt_cut.specs.Parts.{AreParts}
use Rattle.bt_cut.specs.Serving.{ArePieces, HasSlots, IsTable}
use Rattle.bt_demand.proofs.FewLinks.{few_links}
use Rattle.bt_demand.proofs.FlatPlaces.{flat_place, flat, flat_turn, flat_more, flat_end}
use Rattle.bt_cut.proofs.Links.{enough_left, slots_few, IsTable-given}
use Rattle.bt_cut.proofs.Parts.{AreParts-more}
use Rattle.bt_cut.proofs.bursts.bursts_of.Goals as goal

-- the connection has slots for the link
pub serve-requires-clause-enough : goal.serve-requires-clause-enough
serve-requires-clause-enough c =
    let rows = c.rows-row-items.result.now in
    let row = c.as_slice-link-items.result.now in
    let links = all_links rows in
    let at = flat_place rows c.loop-row.row-index c.loop-link.link-index in
    let here = flat rows links c.loop-row.row-index c.loop-link.link-index row _ refl c.loop-row-test.true c.as_slice-link-items.ensures.same c.row-item.is c.loop-link-test.true in
    let none : Link = record { from = record { 0 = 0 }; to = record { 0 = 0 }; units = 0 } in
    let up = c.beam_of.result in
    let down = c.beam_of-in-loop-link.result in
    let old = c.index_mut.result.now in
    let read : old ≡ get_or c.loop-link.connections.items (up.0 * 32 + down.0) old =
    c.index_mut.ensures.value ∙ ap (λ (n : ℕ). get_or c.loop-link.connections.items n old) c.place_of-place.ensures in
    let has = subst (λ (x : Connection). HasSlots c.args.modes.now up.0 down.0 (length c.args.modes.now) (units_between c.args.net.now (take at links) up.0 down.0) x) (sym read)
    (c.loop-link.invariant.table.each up.0 down.0 old c.beam_of.ensures.in_range c.beam_of-in-loop-link.ensures.in_range) in
    let carried = subst (λ (ls : List Link). units_between c.args.net.now ls up.0 down.0 ≤ slots_of c.args.modes.now up.0 down.0) (sym c.rows-row-items.ensures.links)
    (c.requires.carried up.0 down.0 c.beam_of.ensures.in_range c.beam_of-in-loop-link.ensures.in_range) in
    enough_left c.args.net.now links c.args.modes.now at (get_or row c.loop-link.link-index none) up down old here.within (λ d. here.link d ∙ get_or_default row c.loop-link.link-index d none c.loop-link-test.true)
    c.beam_of.ensures.beam c.beam_of-in-loop-link.ensures.beam carried has

-- one link more is served
pub loop-link-preserved : goal.loop-link-preserved
loop-link-preserved c =
    let rows = c.rows-row-items.result.now in
    let row = c.as_slice-link-items.result.now in
    let links = all_links rows in
    let at = flat_place rows c.loop-row.row-index c.loop-link.link-index in
    let here = flat rows links c.loop-row.row-index c.loop-link.link-index row _ refl c.loop-row-test.true c.as_slice-link-items.ensures.same c.row-item.is c.loop-link-test.true in
    let none : Link = record { from = record { 0 = 0 }; to = record { 0 = 0 }; units = 0 } in
    let link = get_or row c.loop-link.link-index none in
    let up = c.beam_of.result in
    let down = c.beam_of-in-loop-link.result in
    let old = c.index_mut.result.now in
    let modes = c.args.modes.now in
    let is = λ (d : Link). here.link d ∙ get_or_default row c.loop-link.link-index d none c.loop-link-test.true in
    let read : old ≡ get_or c.loop-link.connections.items (up.0 * 32 + down.0) old =
    c.index_mut.ensures.value ∙ ap (λ (n : ℕ). get_or c.loop-link.connections.items n old) c.place_of-place.ensures in
    let has = subst (λ (x : Connection). HasSlots modes up.0 down.0 (length modes) (units_between c.args.net.now (take at links) up.0 down.0) x) (sym read)
    (c.loop-link.invariant.table.each up.0 down.0 old c.beam_of.ensures.in_range c.beam_of-in-loop-link.ensures.in_range) in
    let served = c.in_ok-serve.ensures.served in
    let pieces = subst (λ (n : ℕ). ArePieces modes up.0 down.0 link.from link.to n link.units served.more) has.so_many (served.pieces modes up.0 down.0 has.turns) in
    let all = ap (λ (ms : List Mode). slots_of ms up.0 down.0) (take_all (length modes) modes (omega arith)) in
    let demand = subst (λ (ls : List Link). IsDemand ls) (sym c.rows-row-items.ensures.links) c.rows-row-items.ensures.demand in
    let carried = subst (λ (ls : List Link). units_between c.args.net.now ls up.0 down.0 ≤ slots_of modes up.0 down.0) (sym c.rows-row-items.ensures.links)
    (c.requires.carried up.0 down.0 c.beam_of.ensures.in_range c.beam_of-in-loop-link.ensures.in_range) in
    let enough = enough_left c.args.net.now links modes at link up down old here.within is c.beam_of.ensures.beam c.beam_of-in-loop-link.ensures.beam carried has in
    record {
      table = rw c.place_of-place.ensures (subst (λ (n : ℕ). IsTable modes (length c.args.net.now.beams) (length modes) (units_between c.args.net.now (take n links)) (slice_set c.loop-link.connections.items (up.0 * 32 + down.0) c.serve.new.self)) (flat_more rows c.loop-row.row-index c.loop-link.link-index)
          (IsTable-given c.args.net.now links modes (length c.args.net.now.beams) at link up down c.loop-link.connections.items old c.serve.new.self
          (omega (arith, c.beam_count.ensures.in_range.1, c.beam_count.ensures.count)) here.within is c.beam_of.ensures.beam c.beam_of-in-loop-link.ensures.beam
          c.beam_of.ensures.in_range c.beam_of-in-loop-link.ensures.in_range has c.in_ok-serve.ensures.given c.loop-link.invariant.table));
      parts = rw served.behind (subst (λ (n : ℕ). AreParts c.args.net.now links modes n (c.loop-link.bursts.items ++ served.more)) (flat_more rows c.loop-row.row-index c.loop-link.link-index)
          (AreParts-more c.args.net.now links modes at c.loop-link.bursts.items served.more link up down demand here.within is
          c.beam_of.ensures.beam c.beam_of-in-loop-link.ensures.beam pieces c.loop-link.invariant.parts));
      few = omega (
        arith,
        ap length served.behind,
        length-append c.loop-link.bursts.items served.more,
        served.few,
        c.loop-link.invariant.few,
        enough,
        has.all,
        all,
        slots_few modes up.0 down.0,
        c.requires.short,
      );
    }

-- the row was served
pub loop-row-preserved : goal.loop-row-preserved
loop-row-preserved c =
    let rows = c.rows-row-items.result.now in
    let net = c.args.net.now in
    let modes = c.args.modes.now in
    let turn = flat_turn rows c.loop-row.row-index c.loop-link.link-index c.as_slice-link-items.result.now _ c.loop-row-test.true c.as_slice-link-items.ensures.same c.row-item.is c.loop-link-test.false (omega (arith, c.loop-link.auto.link-index-end)) in
    record {
      table = subst (λ (n : ℕ). IsTable modes (length net.beams) (length modes) (units_between net (take n (all_links rows))) c.loop-link.connections.items) turn c.loop-link.invariant.table;
      parts = subst (λ (n : ℕ). AreParts net (all_links rows) modes n c.loop-link.bursts.items) turn c.loop-link.invariant.parts;
      few = omega (arith, turn, c.loop-link.invariant.few);
    }

-- no bursts where memory ran out
pub returns-in_err-serve-clause-network : goal.returns-in_err-serve-clause-network
returns-in_err-serve-clause-network c = grind (arith, moves)

pub returns-in_err-serve-clause-demand : goal.returns-in_err-serve-clause-demand
returns-in_err-serve-clause-demand c = grind (arith, moves)

pub returns-in_err-serve-clause-few : goal.returns-in_err-serve-clause-few
returns-in_err-serve-clause-few c = grind (arith, moves)

pub returns-in_err-serve-clause-parts : goal.returns-in_err-serve-clause-parts
returns-in_err-serve-clause-parts c = grind (arith, moves)

-- no more bursts than units
pub returns-clause-few : goal.returns-clause-few
returns-clause-few c =
    let of = subst (λ (links : List Link). AreOfNetwork c.args.net.now links) (sym c.rows-row-items.ensures.links) c.requires.terminals in
    let demand = subst (λ (ls : List Link). IsDemand ls) (sym c.rows-row-items.ensures.links) c.rows-row-items.ensures.demand in
    let few = few_links c.args.net.now (all_links c.rows-row-items.result.now) demand of c.beam_count.ensures.sound.terminals.count.1 in
    let end = flat_end c.rows-row-items.result.now c.loop-row.row-index c.loop-row-test.false in
    omega (arith, few, end, c.loop-row.invariant.few, c.loop-row.bursts.ok.0)

-- the bursts of all links
pub returns-clause-parts : goal.returns-clause-parts
returns-clause-parts c =
    let net = c.args.net.now in
    let modes = c.args.modes.now in
    let rows = c.rows-row-items.result.now in
    let links = all_links rows in
    let bursts = c.loop-row.bursts.items in
    let all : flat_place rows c.loop-row.row-index 0 ≡ length links = flat_end rows c.loop-row.row-index c.loop-row-test.false in
    let parts = subst (λ (n : ℕ). AreParts net links modes n bursts) all c.loop-row.invariant.parts in
    subst (λ (ls : List Link). AreParts net ls modes (length ls) bursts) c.rows-row-items.ensures.links parts

-- both ends of the link are terminals of the network
pub beam_of-requires : goal.beam_of-requires
beam_of-requires c =
    let rows = c.rows-row-items.result.now in
    let row = c.as_slice-link-items.result.now in
    let none : Link = record { from = record { 0 = 0 }; to = record { 0 = 0 }; units = 0 } in
    let of = subst (λ (links : List Link). AreOfNetwork c.args.net.now links) (sym c.rows-row-items.ensures.links) c.requires.terminals in
    let here = flat rows (all_links rows) c.loop-row.row-index c.loop-link.link-index row _ refl c.loop-row-test.true c.as_slice-link-items.ensures.same c.row-item.is c.loop-link-test.true in
    record { terminal = subst (λ (link : Link). IsTerminal c.args.net.now link.from) (here.link none) (of (flat_place rows c.loop-row.row-index c.loop-link.link-index) none here.within).0 }

pub beam_of-requires-in-loop-link : goal.beam_of-requires-in-loop-link
beam_of-requires-in-loop-link c =
    let rows = c.rows-row-items.result.now in
    let row = c.as_slice-link-items.result.now in
    let none : Link = record { from = record { 0 = 0 }; to = record { 0 = 0 }; units = 0 } in
    let of = subst (λ (links : List Link). AreOfNetwork c.args.net.now links) (sym c.rows-row-items.ensures.links) c.requires.terminals in
    let here = flat rows (all_links rows) c.loop-row.row-index c.loop-link.link-index row _ refl c.loop-row-test.true c.as_slice-link-items.ensures.same c.row-item.is c.loop-link-test.true in
    record { terminal = subst (λ (link : Link). IsTerminal c.args.net.now link.to) (here.link none) (of (flat_place rows c.loop-row.row-index c.loop-link.link-index) none here.within).1 }
