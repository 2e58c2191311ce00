use Rattle.bt_chart.proofs.OneChart.{Charts-same}
use Rattle.bt_chart.proofs.laws.one_chart.Goals as goal

pub returns : goal.returns
returns c = record {
  same = Charts-same (record {
    no_line = c.journals_tell_one_thing.ensures.changes_or_no_line;
    stray = c.journals_tell_one_thing.ensures.changes_or_stray;
    either = c.journals_tell_one_thing.ensures.no_line_or_stray;
    no_lines = c.journals_tell_one_thing.ensures.no_line;
    strays = c.journals_tell_one_thing.ensures.stray;
  });
}
