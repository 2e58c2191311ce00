use Rattle.bt_site.proofs.Board.{safe-on-board}
use Rattle.bt_site.proofs.Frames.{frame-safe, of_plan-safe, transmits-front}
use Rattle.bt_site.proofs.WorldPlans.{flies-each}
use Rattle.bt_site.proofs.laws.frames_are_safe.Goals as goal

pub returns-clause-own : goal.returns-clause-own
returns-clause-own c = transmits-front

pub returns-clause-safe : goal.returns-clause-safe
returns-clause-safe c = frame-safe c.apart_bursts_spell_apart_triples.ensures.triples

pub returns-clause-of_plan : goal.returns-clause-of_plan
returns-clause-of_plan c = of_plan-safe c.apart_bursts_spell_apart_triples.ensures.triples

pub returns-clause-flyable : goal.returns-clause-flyable
returns-clause-flyable c = flies-each

pub returns-clause-on_board : goal.returns-clause-on_board
returns-clause-on_board c = safe-on-board c.apart_bursts_spell_apart_triples.ensures.triples c.satellite_is_said.ensures.stands c.satellite_is_said.ensures.mark
