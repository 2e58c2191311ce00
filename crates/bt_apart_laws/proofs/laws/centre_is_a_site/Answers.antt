use Rattle.bt_apart_laws.proofs.Acts.{hears, installs, orders, others, passes-over, restarts, says-nothing, starts, starts-again, turns}
use Rattle.bt_apart_laws.proofs.laws.centre_is_a_site.Goals as goal

pub returns : goal.returns
returns c = record {
  start = starts;
  start_again = starts-again;
  heard = hears;
  silent = says-nothing;
  passed_over = passes-over;
  turn = turns;
  order = orders;
  install = installs;
  restart = restarts;
  others = others;
  going = λ o acts air back at. record { net = at.net; plans = at.plans; centre = at.centre; knows = at.knows; some = at.some };
}
