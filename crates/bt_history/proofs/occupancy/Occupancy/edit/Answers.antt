use Rattle.std.proofs.Common.{subst}
use Rattle.bt_journal.specs.declared.call.Edit.{Edit}
use Rattle.bt_history.specs.Occupancy.{HoldsTaken}
use Rattle.bt_history.proofs.Shares.{still_held}
use Rattle.bt_history.proofs.occupancy.Occupancy.edit.Goals as goal

-- what gained first left the other link what it loses
pub lose-requires-in-Move-clause-held : goal.lose-requires-in-Move-clause-held
lose-requires-in-Move-clause-held c =
    still_held c.args.self.now.links c.gain-in-Move.new.self.links c.in-Move.from c.in-Move.to c.in-Move.new_from c.in-Move.new_to c.in-Move.units c.in-Move.units
    (subst (λ (e : Edit). HoldsTaken c.args.self.now.links e) c.in-Move.is c.requires.held) c.gain-in-Move.ensures.gains

-- the links between the two halves
pub returns-in-Move-clause-edited : goal.returns-in-Move-clause-edited
returns-in-Move-clause-edited c = rw c.in-Move.is (c.gain-in-Move.new.self.links, c.gain-in-Move.ensures.gains, c.lose-in-Move.ensures.loses)
