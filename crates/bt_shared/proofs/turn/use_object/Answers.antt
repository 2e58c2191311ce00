use Rattle.std.proofs.Common.{ap, ◌∙◌, sym, ◌∷◌, Some}
use Rattle.atomic_table.specs.Table.{rest}
use Rattle.bt_shared.proofs.turn.use_object.Goals as goal

pub slot_mut-requires : goal.slot_mut-requires
slot_mut-requires g c = let out = c.requires.out in (c.requires.table, (Some out.0, out.1 ∙ ap (λ l. (0, Some out.0) ∷ rest l) (sym out.1)))
