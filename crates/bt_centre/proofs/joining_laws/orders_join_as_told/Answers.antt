-- by how the parts of a script go
use Rattle.bt_centre.proofs.OrdersJoin.{end_has, end_joins, joins_wanted_at, session_has, session_joins, start_has}
use Rattle.bt_centre.proofs.joining_laws.orders_join_as_told.Goals as goal

pub returns-clause-joined : goal.returns-clause-joined
returns-clause-joined c = joins_wanted_at

pub returns-clause-runs : goal.returns-clause-runs
returns-clause-runs c = λ net script output stored status histories events tells run. end_joins net script.items output stored run.opening status histories events tells run.ends

pub returns-clause-orders : goal.returns-clause-orders
returns-clause-orders c = λ net script output stored status histories events tells run. end_has net script.items output stored run.opening status histories events tells run.ends

pub returns-clause-sessions : goal.returns-clause-sessions
returns-clause-sessions c = λ net sites talk stored status histories events tells session. session_joins net sites talk stored session.opening status histories events tells session.ends

pub returns-clause-orders_in_sessions : goal.returns-clause-orders_in_sessions
returns-clause-orders_in_sessions c = λ net sites talk stored status histories events tells session. session_has net sites talk stored session.opening status histories events tells session.ends

pub returns-clause-start : goal.returns-clause-start
returns-clause-start c = start_has
