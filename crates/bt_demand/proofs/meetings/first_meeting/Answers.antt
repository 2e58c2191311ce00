use Rattle.bt_demand.proofs.LatestEnds.{no_burst, is_first_meeting}
use Rattle.bt_demand.proofs.meetings.first_meeting.Goals as goal

-- a late burst meets one
pub unreachable-requires : goal.unreachable-requires
unreachable-requires c = c.in-Some.ensures.late no_burst c.in_default-first_met.ensures

pub returns : goal.returns
returns c = is_first_meeting c.args.net.now c.args.bursts.now c.in-Some-first_met.first c.in-Some.second c.in-Some.ensures c.in-Some-first_met.ensures
