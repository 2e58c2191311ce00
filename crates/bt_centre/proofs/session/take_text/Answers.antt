-- want of memory behind what the clock told
use Rattle.std.proofs.Common.{option_map}
use Rattle.bt_centre.specs.Session.{told_list}
use Rattle.bt_centre.proofs.Saying.{on_err}
use Rattle.bt_centre.proofs.Sessions.{ticks_if}
use Rattle.bt_centre.proofs.session.take_text.Goals as goal

pub returns-in_err-answer-clause-err : goal.returns-in_err-answer-clause-err
returns-in_err-answer-clause-err g c =
    let told = option_map (λ told. told.items) c.in_ok-told.told in
    on_err c.from_residual-in_err-answer.result (told_list told, ticks_if _ _ told c.in_ok-told.ensures.ticks)
