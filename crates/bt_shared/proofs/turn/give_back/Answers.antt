use Rattle.std.proofs.Common.{rules}
use Rattle.bt_shared.proofs.Steps.{passes}
use Rattle.bt_shared.proofs.turn.give_back.Goals as goal

pub fetch_add-served-requires : goal.fetch_add-served-requires
fetch_add-served-requires g c = let may = c.requires.may in (
  search rules,
  search rules,
  passes g.O.Object.steps g.O.Object.history c.args.top.now.key.value _ _ _ may.4.0 may.0 may.1 may.2 may.3 may.4.1 may.4.2,
)
