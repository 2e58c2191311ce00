use Rattle.std.proofs.Common.{◌≡◌, None, false, length, take, replicate, arith, rules}
use Rattle.bt_frame.specs.declared.limits.TheConstants.{MOST_BEAMS}
use Rattle.bt_modes.specs.Matching.{column_of}
use Rattle.bt_modes.proofs.Rows.{search_succeeds, none_visited}
use Rattle.bt_modes.proofs.Tables.{IsSpent-support, IsExplored-support}
use Rattle.bt_modes.proofs.matching.match_row.Goals as goal

pub prove-unreachable-requires : goal.prove-unreachable-requires
prove-unreachable-requires c =
    let support = c.requires.support in
    let size = length c.args.columns.now in
    let none : column_of c.args.columns.now c.args.row ≡ None = search rules in
    search_succeeds support.rows c.args.columns.now (take size (replicate MOST_BEAMS false)) c.seek-found.new.visited c.args.row
    support.traffic support.equal (omega (arith, support.count)) c.requires.matching.own_columns (omega (arith, support.count)) none
    (none_visited size (omega (arith, c.requires.few)))
    (IsSpent-support support.rows c.args.table.now c.seek-found.new.visited c.args.row support.inside c.if-prove.ensures.spent)
    (IsExplored-support support.rows c.args.table.now c.args.columns.now (take size (replicate MOST_BEAMS false)) c.seek-found.new.visited support.inside c.if-prove.ensures.explored)
