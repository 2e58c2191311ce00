-- the entries of the matrix are those of a text
use Rattle.bt_cli.proofs.Suited.{total_slots-spelled}
use Rattle.bt_cli.proofs.trans.plan_part.Goals as goal

pub part_report-requires-clause-total : goal.part_report-requires-clause-total
part_report-requires-clause-total g c =
    let loaded = c.in_ok-matrix.ensures.loaded in
    total_slots-spelled loaded.0 c.in_ok-matrix.matrix loaded.2 c.in_ok-test_size.ensures.suits.1
