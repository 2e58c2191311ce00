-- what is handed over has no part in the first line
use Rattle.std.proofs.Common.{◌≡◌, ◌++◌, subst}
use Rattle.std.specs.Prelude.{IfOk}
use Rattle.bt_talk.specs.Answers.{ready_line}
use Rattle.bt_centre.specs.Progress.{Hand, start_of}
use Rattle.bt_centre.proofs.session.opening_text.Goals as goal

pub returns : goal.returns
returns g c = subst (λ (hand : Hand). IfOk c.begin_text.result (λ text. text.items ≡ start_of hand ++ ready_line 0)) c.playing.view_is c.begin_text.ensures
