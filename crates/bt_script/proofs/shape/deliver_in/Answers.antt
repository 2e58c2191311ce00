-- the number of a message, and its receiver
use Rattle.std.proofs.Common.{rules}
use Rattle.bt_script.proofs.Shapes.{deliver_read}
use Rattle.bt_script.proofs.shape.deliver_in.Goals as goal

pub returns : goal.returns
returns c =
    rw (
      deliver_read c.in-Some.number.now c.in-Some-next.word.now c.args.words c.next.new.self c.next-2.new.self
          c.in-Some.ensures.word c.in-Some.ensures.rest c.in-Some-next.ensures.word c.in-Some-next.ensures.rest c.if-not-is_done.ensures.done,
      ← c.in-Some-number_of.ensures,
      ← c.in-Some-receiver_of.ensures,
    ) (search rules)

pub returns-in_default-number_of : goal.returns-in_default-number_of
returns-in_default-number_of c =
    rw (
      deliver_read c.in-Some.number.now c.in-Some-next.word.now c.args.words c.next.new.self c.next-2.new.self
          c.in-Some.ensures.word c.in-Some.ensures.rest c.in-Some-next.ensures.word c.in-Some-next.ensures.rest c.if-not-is_done.ensures.done,
      ← c.in_default-number_of.ensures,
    ) (search rules)

pub returns-in_default-receiver_of : goal.returns-in_default-receiver_of
returns-in_default-receiver_of c =
    rw (
      deliver_read c.in-Some.number.now c.in-Some-next.word.now c.args.words c.next.new.self c.next-2.new.self
          c.in-Some.ensures.word c.in-Some.ensures.rest c.in-Some-next.ensures.word c.in-Some-next.ensures.rest c.if-not-is_done.ensures.done,
      ← c.in-Some-number_of.ensures,
      ← c.in_default-receiver_of.ensures,
    ) (search rules)
