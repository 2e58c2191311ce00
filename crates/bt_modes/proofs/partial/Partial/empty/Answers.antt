use Rattle.std.proofs.Common.{ℕ, Option, None}
use Rattle.std.proofs.lemmas.List.{take-replicate}
use Rattle.bt_frame.specs.declared.limits.TheConstants.{MOST_BEAMS}
use Rattle.bt_modes.proofs.Partials.{column_of-replicate, IsPartial-replicate}
use Rattle.bt_modes.proofs.partial.Partial.empty.Goals as goal

pub invariant_of-result : goal.invariant_of-result
invariant_of-result c =
    (c.requires.few, rw (take-replicate {X = Option ℕ} c.args.size MOST_BEAMS None c.requires.few) (IsPartial-replicate c.args.size c.requires.some c.requires.few))

pub returns-clause-empty : goal.returns-clause-empty
returns-clause-empty c = λ row. rw (take-replicate {X = Option ℕ} c.args.size MOST_BEAMS None c.requires.few) (column_of-replicate c.args.size row)
