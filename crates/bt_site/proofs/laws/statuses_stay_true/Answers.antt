use Rattle.bt_site.proofs.Standing.{statuses-show, statuses-tell}
use Rattle.bt_site.proofs.laws.statuses_stay_true.Goals as goal

pub returns : goal.returns
returns c = record { shows = λ o events. statuses-show o events; front = λ o events. statuses-tell o events }
