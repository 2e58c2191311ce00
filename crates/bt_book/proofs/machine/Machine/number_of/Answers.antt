use Rattle.bt_history.proofs.Spelled.{install_in_range}
use Rattle.bt_book.proofs.machine.Machine.number_of.Goals as goal

-- a plan that is good for its edition has small numbers
pub returns-in-Install-clause-range : goal.returns-in-Install-clause-range
returns-in-Install-clause-range c =
    install_in_range _ c.args.self.now c.self.inside.kept.count c.self.inside.kept.edits c.self.inside.kept.bytes c.args.asked.now c.in-Install.plan c.self.view_is c.in-Install.is
    c.self.invariant.counts c.slots-slots.ensures.sound c.self.invariant.keeps.follows c.as_slice-bursts.ensures.bursts c.requires.on c.requires.good
