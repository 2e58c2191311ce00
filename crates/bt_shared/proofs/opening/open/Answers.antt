use Rattle.std.proofs.Common.{[], ◌∷◌, ◌++◌, ap, ◌∙◌}
use Rattle.std.proofs.lemmas.List.{append-nil}
use Rattle.bt_shared.proofs.opening.open.Goals as goal

-- what is pending is the same list again
pub publish-requires-clause-onward : goal.publish-requires-clause-onward
publish-requires-clause-onward g c =
    let made = c.in-Ok.ensures in
    let pending = c.in-Ok-append.ensures.pending ∙ ap (λ w. w ++ c.in-Ok-Ok-Ok.third ∷ []) made.1 in
    ([], append-nil c.append.new.self.desk.shown.value.seen.log ∙ (rw pending (cc (c.append.ensures.desk, made.0, c.in-Ok-Ok-Ok.ensures.seen, c.in-Ok-Ok-Ok.ensures''.seen))))
