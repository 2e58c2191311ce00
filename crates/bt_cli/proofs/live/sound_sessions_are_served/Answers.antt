use Rattle.bt_cli.proofs.Sessions.{live_done}
use Rattle.bt_cli.proofs.live.sound_sessions_are_served.Goals as goal

pub returns : goal.returns
returns c = record {
  served = λ sites input talk stored net journal end steady heard ends. live_done (record {
    demand = c.links_tell_demands.ensures.same;
    changes = c.journals_tell_one_thing.ensures.changes;
    no_line = c.journals_tell_one_thing.ensures.changes_or_no_line;
    stray = c.journals_tell_one_thing.ensures.changes_or_stray;
    either = c.journals_tell_one_thing.ensures.no_line_or_stray;
    no_lines = c.journals_tell_one_thing.ensures.no_line;
    strays = c.journals_tell_one_thing.ensures.stray;
  }) sites input talk stored net end steady heard ends;
}
