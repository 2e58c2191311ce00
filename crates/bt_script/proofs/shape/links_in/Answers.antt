-- the ends of the first link, and the words behind them
use Rattle.std.proofs.Common.{rules}
use Rattle.bt_script.proofs.Shapes.{links_read}
use Rattle.bt_script.proofs.shape.links_in.Goals as goal

pub returns : goal.returns
returns c =
    rw (
      links_read c.in-Some.from.now c.in-Some-next.to.now c.args.words c.next.new.self c.next-2.new.self
          c.in-Some.ensures.word c.in-Some.ensures.rest c.in-Some-next.ensures.word c.in-Some-next.ensures.rest c.if-not-are_names.ensures.names,
      ← c.in-Some-link_in.ensures,
    ) (search rules)
