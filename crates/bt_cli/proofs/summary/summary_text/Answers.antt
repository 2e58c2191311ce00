-- links between so few terminals are few
use Rattle.std.proofs.Common.{◌≤◌, List, length, All, sym, subst}
use Rattle.bt_frame.specs.declared.limits.TheConstants.{MOST_SUM}
use Rattle.bt_demand.specs.declared.demand.Link.{Link}
use Rattle.bt_demand.proofs.FewLinks.{few_links}
use Rattle.bt_cli.proofs.summary.summary_text.Goals as goal

pub link_count-requires : goal.link_count-requires
link_count-requires c =
    let Few : List Link → Type 0 = λ links. length links ≤ 4096 in
    record { few = subst Few (sym c.rows-rows.ensures.links) (few_links c.args.net.now c.args.demand.now c.rows-rows.ensures.demand c.requires.terminals c.beam_count.ensures.sound.terminals.count.1) }

pub units_in_all-requires-clause-few : goal.units_in_all-requires-clause-few
units_in_all-requires-clause-few c =
    let Few : List Link → Type 0 = λ links. length links ≤ 4096 in
    subst Few (sym c.rows-rows.ensures.links) (few_links c.args.net.now c.args.demand.now c.rows-rows.ensures.demand c.requires.terminals c.beam_count.ensures.sound.terminals.count.1)

pub units_in_all-requires-clause-small : goal.units_in_all-requires-clause-small
units_in_all-requires-clause-small c =
    subst (λ (links : List Link). All (λ (link : Link). link.units ≤ MOST_SUM) links) (sym c.rows-rows.ensures.links) (λ k d within. (c.rows-rows.ensures.demand.each k d within).few)
