-- it is one of the two kinds
use Rattle.std.proofs.Common.{inr}
use Rattle.std.proofs.lemmas.Result.{on_ok_weaker}
use Rattle.bt_run_chart.proofs.whole.write_counted.Goals as goal

pub returns : goal.returns
returns c = on_ok_weaker c.write_titled_picture.result (λ (picture, is, text). (picture, inr is, text)) c.write_titled_picture.ensures
