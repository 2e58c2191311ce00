-- no word is left where nothing of the line is
use Rattle.bt_text.proofs.Fronts.{done_from_left}
use Rattle.bt_text.proofs.word_reader.WordReader.is_done.Goals as goal

pub returns : goal.returns
returns c = record { done = rw (← c.self.view_is) (done_from_left (λ r. r.now) c.self.inside.rest c.is_none.result c.is_none.ensures) }
