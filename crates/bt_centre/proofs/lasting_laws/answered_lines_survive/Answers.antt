-- from answer to answer, and from the last to the end
use Rattle.bt_centre.proofs.Lasting.{answered_lasts}
use Rattle.bt_centre.proofs.lasting_laws.answered_lines_survive.Goals as goal

pub returns : goal.returns
returns c = record {
  survives = λ net sites talk stored status histories events tells session. answered_lasts net sites talk stored session.opening status histories events tells session.ends;
}
