use Rattle.bt_book.proofs.Copied.{all_again}
use Rattle.bt_book.proofs.machine.Machine.occupied_again.Goals as goal

-- all edits were made again
pub returns-clause-keeps : goal.returns-clause-keeps
returns-clause-keeps c =
    all_again _ c.args.self.now c.self.inside.kept.edits c.redo.new.occupancy.links c.self.view_is c.self.invariant.counts.edited c.self.invariant.keeps.follows c.in_ok-redo.ensures.redone
