-- what is in hand is the same, with the entries that were handed over in front of those of the book
use Rattle.bt_centre.proofs.Whole.{handed_on, live_handed}
use Rattle.bt_centre.proofs.live.hand_over.Goals as goal

pub returns : goal.returns
returns g c =
    let log = c.args.log.now in
    let run = c.args.run.now in
    let taken = c.take_entries.ensures in
    record {
      same = handed_on log.times c.add.new.self.times log.front c.add.new.self.front c.of-entries.result c.take_entries.result.items run c.take_entries.new.self
          c.add.ensures.times c.add.ensures.front c.of-entries.ensures.same taken.handed;
      none = taken.none;
      live = live_handed log.front c.add.new.self.front c.of-entries.result c.take_entries.result.items run c.take_entries.new.self c.add.ensures.front c.of-entries.ensures.same taken.handed taken.none taken.kept
          c.requires.live;
    }
