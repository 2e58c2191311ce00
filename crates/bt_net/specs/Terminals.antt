-- The terminals of a network: their names and their beams.
use Rattle.std.specs.Prelude.{◌≡◌, ℕ, ◌<◌, ◌==◌, Bool, false, List, [], length, Option, Some, unwrap_or, option_map, position, slice_get}
use Rattle.std.specs.Str.{bytes_eq}
use Rattle.bt_frame.specs.declared.numbers.BeamNo.{BeamNo}
use Rattle.bt_frame.specs.declared.numbers.TermNo.{TermNo}
use Rattle.bt_net.specs.Network.{Net, names_of}

-- the terminal is one of the network's
abbrev pub IsTerminal : Net → TermNo → Type 0
IsTerminal net terminal = terminal.0 < length net.terminals

-- the one and the other are terminals of the network
abbrev pub IsBetweenTerminals : Net → TermNo → TermNo → Type 0
IsBetweenTerminals net from to = IsTerminal net from × IsTerminal net to

-- the beam of a terminal, where it is one of the network's
abbrev pub beam_at : Net → TermNo → Option BeamNo
beam_at net terminal = option_map (λ t. t.1) (slice_get net.terminals terminal.0)

-- the terminal is one of the network's, and in this beam
abbrev pub IsInBeam : Net → TermNo → BeamNo → Type 0
IsInBeam net terminal beam = beam_at net terminal ≡ Some beam

-- the terminal is in the beam of that number
abbrev pub is_in_beam : Net → ℕ → TermNo → Bool
is_in_beam net beam terminal = unwrap_or (option_map (λ t. t.1.0 == beam) (slice_get net.terminals terminal.0)) false

-- the name of a terminal, and nothing where the network has none of that number
abbrev pub name_at : Net → TermNo → List ℕ
name_at net terminal = unwrap_or (option_map (λ t. t.0) (slice_get net.terminals terminal.0)) []

-- the terminal of that name
abbrev pub terminal_of : Net → List ℕ → Option TermNo
terminal_of net name = option_map (λ place. record { 0 = place }) (position (bytes_eq name) (names_of net.terminals))
