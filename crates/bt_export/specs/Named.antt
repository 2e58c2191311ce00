-- For bodies alone: the terminals of another network that have the names of a link's ends.
use Rattle.std.specs.Prelude.{◌≡◌}
use Rattle.bt_net.specs.Network.{Net}
use Rattle.bt_net.specs.Terminals.{IsTerminal, name_at}
use Rattle.bt_demand.specs.declared.demand.Link.{Link}
use Rattle.bt_demand.specs.Demand.{LinkEnds}

-- the one has the name of the terminal that sends, and the other that of the one that receives
pub record AreNamed (net : Net) (link : Link) (new : Net) (ends : LinkEnds) : Type 0 where
  pub sends : IsTerminal new ends.0
  pub receives : IsTerminal new ends.1
  pub from : name_at new ends.0 ≡ name_at net link.from
  pub to : name_at new ends.1 ≡ name_at net link.to
