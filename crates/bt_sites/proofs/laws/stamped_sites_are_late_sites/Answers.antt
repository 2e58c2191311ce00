use Rattle.bt_sites.proofs.StampedLate.{stamped-late}
use Rattle.bt_sites.proofs.laws.stamped_sites_are_late_sites.Goals as goal

pub returns : goal.returns
returns c = record { late = stamped-late }
