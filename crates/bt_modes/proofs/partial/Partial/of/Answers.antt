use Rattle.std.proofs.Common.{Some, length, map, ap, arith, ◌∙◌}
use Rattle.std.proofs.lemmas.List.{length-map}
use Rattle.bt_modes.specs.Matching.{IsPartial}
use Rattle.bt_modes.proofs.Partials.{IsPartial-map, IsPartial-front, IsWhole-front}
use Rattle.bt_modes.proofs.partial.Partial.of.Goals as goal

pub invariant_of-result : goal.invariant_of-result
invariant_of-result c =
    let whole : IsPartial (map Some c.args.perm) =
    IsPartial-map _ c.args.perm c.as_slice-perm.ensures.some c.as_slice-perm.ensures.few c.as_slice-perm.ensures.permutation in
    let partial : IsPartial c.copy_columns.new.columns = rw (c.copy_columns.ensures, c.as_slice-perm.ensures.same) whole in (
      omega (arith, ap length c.as_slice-perm.ensures.same),
      IsPartial-front _ c.copy_columns.new.columns _ (ap length c.copy_columns.ensures ∙ length-map _ Some) partial,
    )

pub returns-clause-whole : goal.returns-clause-whole
returns-clause-whole c =
    IsWhole-front _ c.copy_columns.new.columns _ c.as_slice-perm.result.now (ap length c.copy_columns.ensures ∙ length-map _ Some) c.copy_columns.ensures
