use Rattle.bt_shared.proofs.Rules.{reads}
use Rattle.bt_shared.proofs.reader.visit.Goals as goal

pub enter_as-requires : goal.enter_as-requires
enter_as-requires c x = reads _ _ x
