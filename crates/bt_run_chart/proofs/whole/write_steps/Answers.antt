-- it is one of the two kinds
use Rattle.std.proofs.Common.{inl}
use Rattle.std.proofs.lemmas.Result.{on_ok_weaker}
use Rattle.bt_run_chart.proofs.whole.write_steps.Goals as goal

pub returns : goal.returns
returns c = on_ok_weaker c.write_titled_picture.result (λ (picture, is, text). (picture, inl is, text)) c.write_titled_picture.ensures
