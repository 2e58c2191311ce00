use Rattle.std.proofs.Common.{List, All, length, sym, ap, subst, arith}
use Rattle.bt_demand.specs.declared.demand.Link.{Link}
use Rattle.bt_demand.proofs.FewLinks.{few_links}
use Rattle.bt_plan.specs.TrafficText.{IsSpelled}
use Rattle.bt_look.proofs.Adds.{links_spelled}
use Rattle.bt_look.proofs.compact.compact_text.Goals as goal

pub add_rows-requires-clause-spelled : goal.add_rows-requires-clause-spelled
add_rows-requires-clause-spelled c =
    let net = c.args.net.now in
    subst (λ (links : List Link). All (IsSpelled net) links) (sym c.rows.ensures.links)
    (links_spelled net c.args.demand.now c.terminal_count-terminals.ensures.sound c.rows.ensures.demand c.requires.terminals c.requires.fits)

pub add_rows-requires-clause-few : goal.add_rows-requires-clause-few
add_rows-requires-clause-few c =
    let sound = c.terminal_count-terminals.ensures.sound in
    omega (arith, ap length c.rows.ensures.links, few_links c.args.net.now c.args.demand.now c.rows.ensures.demand c.requires.terminals (sound.terminals.count).1)
