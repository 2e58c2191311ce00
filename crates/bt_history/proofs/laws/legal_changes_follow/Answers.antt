use Rattle.bt_history.proofs.Histories.{Legal-follows}
use Rattle.bt_history.proofs.laws.legal_changes_follow.Goals as goal

pub returns : goal.returns
returns c = record { follows = Legal-follows }
