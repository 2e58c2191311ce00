-- the time that is over is one of the times
use Rattle.std.proofs.Common.{List, [], ◌∷◌, ◌++◌, ap, ◌∙◌, map, sym}
use Rattle.bt_centre.specs.declared.history.History.{History}
use Rattle.bt_centre.specs.Handed.{with_front}
use Rattle.bt_centre.specs.Progress.{Hand}
use Rattle.bt_centre.proofs.Whole.{begun_whole, live_new}
use Rattle.bt_centre.proofs.live.begun_again.Goals as goal

pub invariant_of-result : goal.invariant_of-result
invariant_of-result g c =
    live_new _ c.take_time.new.self c.end_time.ensures.front c.take_time.ensures.none (sym (ap (λ (hand : Hand). hand.book.history) c.take_time.ensures.taken) ∙ c.requires.none)

pub returns : goal.returns
returns g c = λ past is.
    let log = c.args.log in
    begun_whole log.times c.end_time.new.self.times log.front c.end_time.new.self.front past (c.take_time.result ∷ []) c.args.run c.take_time.new.self c.take_time.ensures.taken c.take_time.ensures.none
    (c.end_time.ensures.times ∙ ap (λ (h : List History). log.times ++ map (with_front log.front) h) (sym (ap (λ (hand : Hand). hand.over) c.take_time.ensures.taken) ∙ is)) c.end_time.ensures.front
