-- The words of `station` as the code has them. All of it is for bodies alone.
use Rattle.std.specs.Prelude.{◌≤◌, Option, Some, None}
use Rattle.bt_frame.specs.declared.limits.TheConstants.{LAST_MARK}
use Rattle.bt_station.specs.declared.top.SiteName.{SiteName}
use Rattle.bt_station.specs.declared.top.SiteName.TheVariants as name
use Rattle.bt_station.specs.declared.top.Wanted.{Wanted}
use Rattle.bt_station.specs.Top.{Request, Site, Satellite, Standby, Terminal}

-- the site of that name
abbrev pub named : SiteName → Site
named (name.Satellite mark) = Satellite mark
named (name.Terminal word) = Terminal word.now
named name.Standby = Standby

-- what is wanted
abbrev pub wanted : Wanted → Request
wanted one = record { net = one.net.now; site = named one.site }

-- the same, if it is
abbrev pub if_wanted : Option Wanted → Option Request
if_wanted None = None
if_wanted (Some one) = Some (wanted one)

-- the satellite is to begin in a superframe
abbrev pub IsSuperframe : SiteName → Type 0
IsSuperframe (name.Satellite mark) = mark ≤ LAST_MARK
IsSuperframe _ = Unit {0}
