use Rattle.std.proofs.Common.{◌≡◌, length}
use Rattle.bt_frame.specs.declared.limits.TheConstants.{MOST_BEAMS}
use Rattle.bt_modes.proofs.Holders.{AreHoldersTo}
use Rattle.bt_modes.proofs.matching.holders_of.Given as goal

-- the columns of the rows so far are listed
abbrev pub invariant-loop-row : goal.invariant-loop-row
invariant-loop-row l = record {
  so_far : AreHoldersTo l.row l.columns l.holders;
  room : length l.holders ≡ MOST_BEAMS;
}
