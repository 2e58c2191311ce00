-- a line of several words
use Rattle.bt_script.proofs.Shapes.{several_read}
use Rattle.bt_script.proofs.shape.words_shape.Goals as goal

pub returns-else-is_done : goal.returns-else-is_done
returns-else-is_done c =
    rw (several_read c.in-Some.head.now c.args.words c.next.new.self c.in-Some.ensures.word c.in-Some.ensures.rest c.if-is_done.ensures.done) c.several_shape.ensures
