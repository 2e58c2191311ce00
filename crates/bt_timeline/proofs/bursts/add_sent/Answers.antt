-- the last lines are appended, and then all are
use Rattle.std.proofs.Common.{◌≡◌, ◌++◌, ap, ◌∙◌, rules}
use Rattle.bt_words.proofs.Extending.{all_of}
use Rattle.bt_timeline.proofs.SentLines.{line_where_sent, lines_of_sent}
use Rattle.bt_timeline.proofs.bursts.add_sent.Goals as goal

pub returns-clause-added : goal.returns-clause-added
returns-clause-added c =
    let last : c.extend_from_slice.new.self.items ≡ c.loop-burst.out.items ++ c.loop-burst.lines = search rules in
    last ∙ all_of (line_where_sent c.args.net.now c.args.terminal) c.args.bursts.now c.loop-burst.burst-index _ _ c.loop-burst-test.false c.loop-burst.invariant.added
    ∙ ap (λ l. c.args.out.now.items ++ l) (lines_of_sent c.args.net.now c.args.terminal c.args.bursts.now)
