use Rattle.std.proofs.Common.{sym, ap, ◌∙◌}
use Rattle.bt_shared.specs.Plans.{last_of}
use Rattle.bt_shared.proofs.publisher.Publisher.at.Goals as goal

-- what the board shows is the last of the list
pub returns : goal.returns
returns c =
    let shown = sym c.args.writer.desk.shown.value.last ∙ ap (λ s. last_of s.log) c.requires.shown in
    λ i. record { board = c.args.seen.book; plans = c.args.seen.log; shown = shown i }
