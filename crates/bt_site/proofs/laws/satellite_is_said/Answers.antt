use Rattle.bt_site.proofs.Onboard.{onboard, onboard-mark, onboard-status}
use Rattle.bt_site.proofs.laws.satellite_is_said.Goals as goal

pub returns-clause-stands : goal.returns-clause-stands
returns-clause-stands c = onboard c.accepted_orders_are_said_by_events.ensures.mark c.accepted_orders_are_said_by_events.ensures.stands c.accepted_orders_are_said_by_events.ensures.status

pub returns-clause-mark : goal.returns-clause-mark
returns-clause-mark c = onboard-mark c.accepted_orders_are_said_by_events.ensures.mark c.accepted_orders_are_said_by_events.ensures.stands c.accepted_orders_are_said_by_events.ensures.status

pub returns-clause-status : goal.returns-clause-status
returns-clause-status c = onboard-status c.accepted_orders_are_said_by_events.ensures.mark c.accepted_orders_are_said_by_events.ensures.stands c.accepted_orders_are_said_by_events.ensures.status
