-- the number of a desk, and the words behind it
use Rattle.std.proofs.Common.{rules}
use Rattle.bt_script.proofs.Shapes.{desk_read}
use Rattle.bt_script.proofs.shape.desk_in.Goals as goal

pub returns : goal.returns
returns c =
    rw (
      desk_read c.in-Some.desk.now c.in-Some-next.kind.now c.in-Some-number_of.desk c.args.words c.next.new.self c.next-2.new.self
          c.in-Some.ensures.word c.in-Some.ensures.rest c.in-Some-next.ensures.word c.in-Some-next.ensures.rest c.in-Some-number_of.ensures,
      ← c.in-Some-desk_shape.ensures,
    ) (search rules)

pub returns-in_default-desk_shape : goal.returns-in_default-desk_shape
returns-in_default-desk_shape c =
    rw (
      desk_read c.in-Some.desk.now c.in-Some-next.kind.now c.in-Some-number_of.desk c.args.words c.next.new.self c.next-2.new.self
          c.in-Some.ensures.word c.in-Some.ensures.rest c.in-Some-next.ensures.word c.in-Some-next.ensures.rest c.in-Some-number_of.ensures,
      ← c.in_default-desk_shape.ensures,
    ) (search rules)
