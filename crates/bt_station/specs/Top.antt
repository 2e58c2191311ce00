-- What the words of `station` ask, and how it ends.
use Rattle.std.specs.Prelude.{ℕ, ◌⊎◌, if◌then◌else◌, codes, List, [], ◌∷◌, Option, Some, None}
use Rattle.std.specs.Str.{bytes_eq}
use Rattle.bt_frame.specs.declared.limits.TheConstants.{LAST_MARK}
use Rattle.bt_frame.specs.declared.numbers.TermNo.{TermNo}
use Rattle.bt_net.specs.Network.{Net}
use Rattle.bt_net.specs.Terminals.{terminal_of as number_of}
use Rattle.bt_report.specs.Faults.{SaysFaultyWords}
use Rattle.bt_report.specs.Input.{Input, FilesFailed}
use Rattle.bt_load.specs.Files.{IsLoaded, StopsAtLoad}
use Rattle.bt_load.specs.Kinds.{network_file}
use Rattle.bt_script.specs.Heard.{number_in}
use Rattle.bt_station.specs.declared.station.Station.{Station}
use Rattle.bt_station.specs.declared.station.Station.TheVariants as station
use Rattle.bt_station.specs.Satellite.{satellite_in}
use Rattle.bt_station.specs.Standby.{standby_new}
use Rattle.bt_station.specs.Terminal.{terminal_of}
use Rattle.bt_station.specs.Talked.{EndsEarly, Talked}
use Rattle.bt_station.specs.Turns.{StationEnds}

-- a site of a network: the satellite from a superframe on, the terminal of a name, or the standby
pub data Site : Type 0 where
  Satellite : ℕ → Site
  Terminal : List ℕ → Site
  Standby : Site

-- the file of a network, and a site of it
pub record Request : Type 0 where
  pub net : List ℕ
  pub site : Site

-- `satellite NET MARK`, where MARK is a superframe
abbrev pub satellite_from : List ℕ → Option ℕ → Option Request
satellite_from net None = None
satellite_from net (Some mark) = Some (record { net = net; site = Satellite mark })

-- that, and `terminal NET NAME`
abbrev pub site_of : List ℕ → List ℕ → List ℕ → Option Request
site_of site net word =
    if bytes_eq site (codes "satellite") then satellite_from net (number_in LAST_MARK word) else
    if bytes_eq site (codes "terminal") then Some (record { net = net; site = Terminal word }) else None

-- `standby NET`
abbrev pub standby_of : List ℕ → List ℕ → Option Request
standby_of site net = if bytes_eq site (codes "standby") then Some (record { net = net; site = Standby }) else None

-- what the words ask for
abbrev pub request_of : List (List ℕ) → Option Request
request_of (site ∷ net ∷ word ∷ []) = site_of site net word
request_of (site ∷ net ∷ []) = standby_of site net
request_of _ = None

-- the terminal of that number at its start, where there is one
abbrev pub terminal_at : Option TermNo → Option Station
terminal_at None = None
terminal_at (Some number) = Some (station.Terminal (terminal_of number))

-- the site of a network at its start; there is none where no terminal has that name
abbrev pub station_of : Net → Site → Option Station
station_of net (Satellite mark) = Some (station.Satellite (satellite_in (record { 0 = mark })))
station_of net (Terminal name) = terminal_at (number_of net name)
station_of net Standby = Some (station.Standby standby_new)

-- this station was at work; or there is none, and that the words are faulty was said
abbrev pub EndsAs : Talked → Net → Option Station → ℕ → Type 0
EndsAs talk net None status = EndsEarly talk SaysFaultyWords status
EndsAs talk net (Some s) status = StationEnds net talk s status

-- the network was loaded, and the site of it was at work; or why it could not be was said
abbrev pub EndsOn : Input → Talked → Request → ℕ → Type 0
EndsOn input talk asked status =
    EndsEarly talk (StopsAtLoad network_file input.told (FilesFailed input) asked.net) status
    ⊎ ((net : Net) × IsLoaded network_file input.told asked.net net × EndsAs talk net (station_of net asked.site) status)

-- how `station` ends whose words ask for this, or for none
abbrev pub EndsStation : Input → Talked → Option Request → ℕ → Type 0
EndsStation input talk (Some asked) status = EndsOn input talk asked status
EndsStation input talk None status = EndsEarly talk SaysFaultyWords status
