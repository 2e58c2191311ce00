use Rattle.std.proofs.Common.{◌≡◌}
use Rattle.bt_history.specs.Causes.{Follows}
use Rattle.bt_round.proofs.Trying.{TriesSoFar}
use Rattle.bt_round.proofs.trial.tried_text.Given as goal

-- the lines so far were tried
abbrev pub invariant-loop-line : goal.invariant-loop-line
invariant-loop-line g l = record {
  network : l.trial.net ≡ l.net;
  follows : Follows l.net l.trial.state.changes;
  tries : TriesSoFar l.net l.book.state l.lines l.line-index l.trial.state l.text.items;
}
