-- by how the parts of a script go
use Rattle.bt_centre.proofs.TurnsKnow.{end_knows, end_no_newer, session_knows, session_no_newer, start_newest}
use Rattle.bt_centre.proofs.turn_laws.turns_know_the_newest_install.Goals as goal

pub returns-clause-runs : goal.returns-clause-runs
returns-clause-runs c = λ net script output stored status histories events tells run. end_knows net script.items output stored run.opening status histories events tells run.ends

pub returns-clause-no_newer : goal.returns-clause-no_newer
returns-clause-no_newer c = λ net script output stored status histories events tells run. end_no_newer net script.items output stored run.opening status histories events tells run.ends

pub returns-clause-sessions : goal.returns-clause-sessions
returns-clause-sessions c = λ net sites talk stored status histories events tells session. session_knows net sites talk stored session.opening status histories events tells session.ends

pub returns-clause-no_newer_in_sessions : goal.returns-clause-no_newer_in_sessions
returns-clause-no_newer_in_sessions c = λ net sites talk stored status histories events tells session. session_no_newer net sites talk stored session.opening status histories events tells session.ends

pub returns-clause-start : goal.returns-clause-start
returns-clause-start c = start_newest
