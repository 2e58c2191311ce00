use Rattle.bt_station.proofs.Acts.{terminal-heard, terminal-modem, terminal-passed_over, terminal-sent, terminal-start_said, terminal-starts}
use Rattle.bt_station.proofs.laws.terminals_are_sites.Goals as goal

pub returns : goal.returns
returns c = record {
  start = λ o number before. (terminal-starts o number before, terminal-start_said o number before);
  heard = terminal-heard;
  passed_over = terminal-passed_over;
  modem = terminal-modem;
  sent = terminal-sent;
}
