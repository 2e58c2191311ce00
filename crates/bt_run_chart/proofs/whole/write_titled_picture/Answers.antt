-- one word is a title as it stands
use Rattle.std.proofs.Common.{ℕ, List, OnOk, subst}
use Rattle.std.proofs.lemmas.List.{append-nil}
use Rattle.bt_picture.specs.Drawn.{IsPictureBehind}
use Rattle.bt_run_chart.specs.Titles.{IsTitled}
use Rattle.bt_run_chart.proofs.whole.write_titled_picture.Goals as goal

pub returns : goal.returns
returns c = subst (λ (text : List ℕ). OnOk c.write_picture.result (IsPictureBehind (IsTitled text) c.args.out.now.items c.write_picture.new.out.items)) (append-nil c.args.title.now) c.write_picture.ensures.picture
