use Rattle.bt_site.proofs.Answers.{satellite-answers, terminal-answers}
use Rattle.bt_site.proofs.laws.answers_are_said.Goals as goal

pub returns-clause-satellite : goal.returns-clause-satellite
returns-clause-satellite c = satellite-answers c.satellite_is_said.ensures.stands c.satellite_is_said.ensures.mark c.satellite_is_said.ensures.status

pub returns-clause-terminal : goal.returns-clause-terminal
returns-clause-terminal c = terminal-answers
