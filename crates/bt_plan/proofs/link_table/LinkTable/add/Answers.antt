-- the place of a link is written
use Rattle.std.proofs.Common.{◌<◌, List, length, set, sym, ap, subst, ◌∙◌, arith}
use Rattle.bt_demand.specs.declared.demand.Link.{Link}
use Rattle.bt_demand.specs.Demand.{units_of, Gains}
use Rattle.bt_plan.specs.LinkTable.{links_from}
use Rattle.bt_plan.proofs.LinkTables.{gains-set, places-IsDemand, units-at, set-IsTable}
use Rattle.bt_plan.proofs.link_table.LinkTable.add.Goals as goal

pub invariant_of-self : goal.invariant_of-self
invariant_of-self c =
    set-IsTable c.self.inside.places.items c.place_of.result c.args.units c.args.from c.args.to c.place_of.ensures.place c.requires.receives c.requires.differ c.requires.few c.self.invariant

pub returns-clause-gains : goal.returns-clause-gains
returns-clause-gains c =
    let places = c.self.inside.places.items in
    let within : c.place_of.result < length places = omega (arith, c.self.invariant.size, c.place_of.ensures.in_range) in
    let none = sym (units-at c.args.from c.args.to 0 c.place_of.result places (omega (arith, c.place_of.ensures.place)) c.requires.receives) ∙ ap (λ (links : List Link). units_of links c.args.from c.args.to) c.self.view_is ∙ c.requires.new in
    subst (λ (links : List Link). Gains links (links_from 0 (set places c.place_of.result c.args.units)) c.args.from c.args.to c.args.units) c.self.view_is
    (gains-set places c.place_of.result c.args.units c.args.from c.args.to c.place_of.ensures.place c.requires.receives within none)

pub returns-clause-demand : goal.returns-clause-demand
returns-clause-demand c =
    let table = set-IsTable c.self.inside.places.items c.place_of.result c.args.units c.args.from c.args.to c.place_of.ensures.place c.requires.receives c.requires.differ c.requires.few c.self.invariant in
    places-IsDemand 0 _ table.each
