use Rattle.bt_modes.proofs.Partials.{IsPermutation-whole, IsPermutation-front}
use Rattle.bt_modes.proofs.perm.Perm.of.Goals as goal

pub invariant_of-result : goal.invariant_of-result
invariant_of-result c = (
  c.requires.partial.some_rows,
  c.requires.partial.few_rows,
  IsPermutation-front _ _ _ (IsPermutation-whole c.args.columns.now c.write_columns.new.perm c.write_columns.ensures c.requires.partial),
)
