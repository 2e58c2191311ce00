use Rattle.bt_apart_laws.proofs.Claims.{acts-as, front-at, safe-at}
use Rattle.bt_apart_laws.proofs.claim.processes_are_safe.Goals as goal

pub returns : goal.returns
returns c =
    let front = front-at c.superframes_are_of_installed_plans.ensures.front c.installed_plans_are_good.ensures.good in
    record {
      sites = acts-as;
      front = front;
      safe = λ s deeds board onboard sends bursts sound are small on sent of_all.
          safe-at c.stamped_superframes_are_safe.ensures.safe s deeds board onboard sends bursts sound are small on sent of_all (front s deeds board onboard sound are small on);
    }
