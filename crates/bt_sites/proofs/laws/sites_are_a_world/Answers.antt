use Rattle.bt_sites.proofs.Worlds.{world-behind}
use Rattle.bt_sites.proofs.laws.sites_are_a_world.Goals as goal

pub returns : goal.returns
returns c = record {
  behind = world-behind (record {
    on_mark = c.satellite_is_said.ensures.mark;
    on_status = c.satellite_is_said.ensures.status;
    satellite_answers = c.answers_are_said.ensures.satellite;
    terminal_answers = c.answers_are_said.ensures.terminal;
    centre_said = c.centre_is_said.ensures.said;
    in_range = c.messages_are_in_range.ensures.in_range;
    reads = c.messages_have_one_spelling.ensures.read;
    second_said = c.seconds_are_said.ensures.named;
    carried_alike = c.plans_stay.ensures.carried;
  });
}
