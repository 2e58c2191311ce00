-- What holds of a station on its way, so that each message that it says has a spelling. All of it is for bodies alone.
use Rattle.std.specs.Prelude.{◌≡◌, IfSome}
use Rattle.bt_air.specs.Range.{IsMark, IsStatus}
use Rattle.bt_air.specs.declared.sent.Aired.{Aired}
use Rattle.bt_air.specs.declared.sent.Aired.TheVariants as sends
use Rattle.bt_frame.specs.declared.numbers.TermNo.{TermNo}
use Rattle.bt_machines.specs.Satellite.{status_of}
use Rattle.bt_net.specs.Network.{Net}
use Rattle.bt_net.specs.Terminals.{IsTerminal}
use Rattle.bt_script.specs.Heard.{IsOnBus}
use Rattle.bt_station.specs.declared.asked.Asked.{Asked}
use Rattle.bt_station.specs.declared.asked.Asked.TheVariants as asked
use Rattle.bt_station.specs.declared.station.Station.{Station}
use Rattle.bt_station.specs.declared.station.Station.TheVariants as station

-- what is heard of others has its superframe and its message in range
abbrev pub IsHeard : Asked → Type 0
IsHeard (asked.Heard line) = IsOnBus line
IsHeard _ = Unit {0}

-- the satellite's status has a spelling; a terminal is one of the network's; a superframe that is known is one
abbrev pub IsReady : Net → Station → Type 0
IsReady net (station.Satellite s) = IsStatus (status_of s.site)
IsReady net (station.Terminal s) = IsTerminal net s.site.number
IsReady net (station.Standby s) = IfSome s.present IsMark

-- it is a Confirm by the terminal of that number
abbrev pub IsConfirmOf : TermNo → Aired → Type 0
IsConfirmOf number (sends.Confirm from load edition) = from ≡ number
IsConfirmOf number _ = ⊥
