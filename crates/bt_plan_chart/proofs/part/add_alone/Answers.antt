use Rattle.bt_picture.specs.Picture.{drawn, Alone}
use Rattle.bt_plan_chart.proofs.Adding.{on_one}
use Rattle.bt_plan_chart.proofs.part.add_alone.Goals as goal

pub returns : goal.returns
returns c = on_one c.write_alone.result (Alone (drawn c.args.shape)) c.args.out.now.items c.write_alone.new.out.items c.write_alone.ensures.written
