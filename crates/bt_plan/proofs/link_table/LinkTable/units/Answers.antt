-- a link's slots stand at its place
use Rattle.std.proofs.Common.{◌<◌, List, length, sym, ap, ◌∙◌, arith}
use Rattle.std.proofs.lemmas.List.{get_or_read}
use Rattle.bt_demand.specs.declared.demand.Link.{Link}
use Rattle.bt_demand.specs.Demand.{units_of}
use Rattle.bt_plan.proofs.LinkTables.{units-at}
use Rattle.bt_plan.proofs.link_table.LinkTable.units.Goals as goal

pub returns : goal.returns
returns c =
    let places = c.self.inside.places.items in
    let within : c.place_of.result < length places = omega (arith, c.self.invariant.size, c.place_of.ensures.in_range) in
    get_or_read places _ _ within c.index.ensures 0
    ∙ sym (units-at c.args.from c.args.to 0 c.place_of.result places (omega (arith, c.place_of.ensures.place)) c.requires.receives)
    ∙ ap (λ (links : List Link). units_of links c.args.from c.args.to) c.self.view_is
