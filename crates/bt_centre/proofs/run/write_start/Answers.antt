-- the line was written
use Rattle.std.proofs.Common.{◌≡◌, ◌∙◌, List, ℕ, ap, subst, rules}
use Rattle.bt_outside.specs.Told.{GainsPrefix, gained}
use Rattle.bt_round.proofs.OnOk.{on_ok}
use Rattle.bt_centre.specs.Progress.{start_of}
use Rattle.bt_centre.proofs.run.write_start.Goals as goal

pub returns-clause-ok : goal.returns-clause-ok
returns-clause-ok g c =
    let text_is : c.as_slice.result.now ≡ start_of c.args.playing.now = search rules in
    on_ok c.write.result c.write.ensures.ok (λ is. is ∙ ap (gained (g.O.Sink.told c.args.out.now)) text_is)

pub returns-clause-failed : goal.returns-clause-failed
returns-clause-failed g c =
    let text_is : c.as_slice.result.now ≡ start_of c.args.playing.now = search rules in
    λ failed. subst (λ (t : List ℕ). GainsPrefix (g.O.Sink.told c.args.out.now) t (g.O.Sink.told c.write.new.self)) text_is (c.write.ensures.failed failed)
