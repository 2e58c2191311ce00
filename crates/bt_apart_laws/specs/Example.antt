-- An example: a superframe begins, a terminal starts, and hears of it.
use Rattle.std.specs.Prelude.{List, [], ◌∷◌, codes}
use Rattle.bt_frame.specs.declared.numbers.TermNo.{TermNo}
use Rattle.bt_net.specs.Network.{Net}
use Rattle.bt_text.specs.Text.{spaced}
use Rattle.bt_sites.specs.Stamps.{Begun}
use Rattle.bt_sites.specs.Step as site
use Rattle.bt_station.specs.Acts.{words_of}
use Rattle.bt_apart_laws.specs.Processes.{Asks, Deed, Hears, Start, Starts}

-- a network whose journal is empty, and a satellite in superframe 0
abbrev pub empty_start : Net → Start
empty_start net = record { net = net; mark = record { 0 = 0 }; changes = [] }

-- the satellite's clock says `tick`; the terminal starts; it hears `mark 1`
abbrev pub first_superframe : TermNo → List Deed
first_superframe number =
    Hears (site.Terminal number) (Begun 1) (spaced (words_of (Begun 1)))
    ∷ Starts number
    ∷ Asks site.Satellite (codes "tick")
    ∷ []
