use Rattle.bt_frame.specs.declared.limits.TheConstants.{MOST_BEAMS}
use Rattle.bt_modes.specs.declared.table.TheConstants.{FEW_BEAMS}
use Rattle.bt_modes.proofs.Tables.{zero_table}
use Rattle.bt_modes.proofs.matching.match_rows.Goals as goal

pub match_by_table-requires-clause-empty : goal.match_by_table-requires-clause-empty
match_by_table-requires-clause-empty g c = zero_table FEW_BEAMS MOST_BEAMS

pub match_by_table-requires-else-columns-le-FEW_BEAMS-clause-empty :
    goal.match_by_table-requires-else-columns-le-FEW_BEAMS-clause-empty
match_by_table-requires-else-columns-le-FEW_BEAMS-clause-empty g c = zero_table MOST_BEAMS MOST_BEAMS
