-- what a session is told is passed over
use Rattle.bt_run_laws.proofs.PassedOver.{told_passed}
use Rattle.bt_run_laws.proofs.laws.answers_are_passed_over.Goals as goal

pub returns : goal.returns
returns c = record { passed = λ net at told more sound none few. told_passed net at told more sound none few }
