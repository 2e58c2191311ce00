use Rattle.std.proofs.Common.{◌≡◌}
use Rattle.bt_history.specs.Causes.{Follows}
use Rattle.bt_round.proofs.Trying.{DoneSoFar}
use Rattle.bt_round.proofs.trial.refusal_of.Given as goal

-- the edits of the lines so far are done
abbrev pub invariant-loop-place : goal.invariant-loop-place
invariant-loop-place g l = record {
  network : l.trial.net ≡ l.net;
  follows : Follows l.net l.trial.state.changes;
  done : DoneSoFar l.net l.book.state l.lines l.place l.trial.state;
}
