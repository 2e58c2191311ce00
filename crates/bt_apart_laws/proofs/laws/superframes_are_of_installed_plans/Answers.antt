use Rattle.std.proofs.Common.{List, subst, sym}
use Rattle.bt_sites.specs.Sites.{satellite_after}
use Rattle.bt_sites.specs.Stamps.{Act, AreStamped, steps_by}
use Rattle.bt_sites.specs.Fits.{AreSmall}
use Rattle.bt_apart_laws.proofs.Front.{front-now, safe-in_front, small-moment, stamped-behind}
use Rattle.bt_apart_laws.proofs.laws.superframes_are_of_installed_plans.Goals as goal

pub returns : goal.returns
returns c =
    let front = front-now c.stamped_sites_are_late_sites.ensures.late c.late_sites_are_sites.ensures.ordered c.sites_are_a_world.ensures.behind c.banks_hold_plans.ensures.banks
    c.frames_are_safe.ensures.flyable in
    record {
      front = front;
      safe = λ o acts board mark air sends bursts sound are small on_board at sent of_all.
          safe-in_front o.net air (satellite_after o (steps_by o board)) bursts
          (front o board air sound (stamped-behind o on_board.later board (subst (λ (list : List Act). AreStamped o list) (sym on_board.is) are))
          (small-moment o on_board.later board (subst (λ (list : List Act). AreSmall o (steps_by o list)) (sym on_board.is) small)) at)
          (c.stamped_superframes_are_safe.ensures.safe o acts board mark sends bursts sound are small on_board sent of_all);
    }
