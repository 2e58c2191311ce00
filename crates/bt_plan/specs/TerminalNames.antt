-- Terminals as texts name them.
use Rattle.std.specs.Prelude.{ℕ, List, Ok}
use Rattle.bt_text.specs.Reading.{◌>>=◌, or_fault}
use Rattle.bt_net.specs.Network.{Net}
use Rattle.bt_net.specs.Terminals.{terminal_of}
use Rattle.bt_demand.specs.Demand.{LinkEnds}
use Rattle.bt_plan.specs.Reading.{Fault, Reading}

-- the terminals of two names, or the fault where no terminal has one of them
abbrev pub ends_in : Net → Fault → List ℕ → List ℕ → Reading LinkEnds
ends_in net fault from to = or_fault fault (terminal_of net from) >>= λ f. or_fault fault (terminal_of net to) >>= λ t. Ok (f, t)
