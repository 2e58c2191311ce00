use Rattle.bt_cli.proofs.ByCommand.{all_served}
use Rattle.bt_cli.proofs.laws.sound_input_is_served.Goals as goal

pub returns : goal.returns
returns c = record {
  served = all_served (record {
    lines = record { line = c.one_line_is_heaviest.ensures.line; sum = c.one_line_is_heaviest.ensures.sum };
    verdict = c.one_verdict.ensures.same;
    plan_verdict = c.one_plan_verdict.ensures.same;
    journals = record {
      demand = c.links_tell_demands.ensures.same;
      changes = c.journals_tell_one_thing.ensures.changes;
      no_line = c.journals_tell_one_thing.ensures.changes_or_no_line;
      stray = c.journals_tell_one_thing.ensures.changes_or_stray;
      either = c.journals_tell_one_thing.ensures.no_line_or_stray;
      no_lines = c.journals_tell_one_thing.ensures.no_line;
      strays = c.journals_tell_one_thing.ensures.stray;
    };
  });
}
