use Rattle.std.proofs.Common.{map}
use Rattle.bt_picture.specs.Picture.{drawn, words_text, Titled}
use Rattle.bt_plan_chart.proofs.Adding.{on_one}
use Rattle.bt_plan_chart.proofs.part.add_titled.Goals as goal

pub returns : goal.returns
returns c = on_one c.write_titled.result (Titled (words_text c.args.title.now) (map drawn c.args.shapes.now)) c.args.out.now.items c.write_titled.new.out.items c.write_titled.ensures.written
