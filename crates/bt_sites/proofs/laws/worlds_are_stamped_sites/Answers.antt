use Rattle.bt_sites.proofs.Converse.{acts-of-world}
use Rattle.bt_sites.proofs.laws.worlds_are_stamped_sites.Goals as goal

pub returns : goal.returns
returns c = record {
  acts = acts-of-world (record {
    on_mark = c.satellite_is_said.ensures.mark;
    on_status = c.satellite_is_said.ensures.status;
    satellite_answers = c.answers_are_said.ensures.satellite;
    terminal_answers = c.answers_are_said.ensures.terminal;
    centre_said = c.centre_is_said.ensures.said;
    in_range = c.messages_are_in_range.ensures.in_range;
    reads = c.messages_have_one_spelling.ensures.read;
    second_said = c.seconds_are_said.ensures.named;
    carried_alike = c.plans_stay.ensures.carried;
  });
}
