use Rattle.bt_talk.proofs.Scripts.{asks_items}
use Rattle.bt_talk.proofs.laws.scripts_are_sessions.Goals as goal

pub returns : goal.returns
returns c = record { items = asks_items }
