use Rattle.bt_sites.specs.Stamps.{late_of}
use Rattle.bt_sites.proofs.StampedFrames.{board-moment, sent-at}
use Rattle.bt_sites.proofs.laws.stamped_superframes_are_safe.Goals as goal

pub returns : goal.returns
returns c = record {
  safe = λ o acts board mark sends bursts sound are small on_board sent of_all.
      c.late_superframes_are_safe.ensures.safe o (late_of o acts) (late_of o board) mark sends bursts sound (c.stamped_sites_are_late_sites.ensures.late o acts are) small
      (board-moment o acts mark board are on_board) (sent-at o acts mark sends are sent) of_all;
}
