-- How a place in a network file is printed.
use Rattle.std.specs.Prelude.{ℕ, List, ◌++◌, codes, decimal}
use Rattle.bt_net.specs.declared.fault.Path.{Path}
use Rattle.bt_net.specs.declared.fault.Path.TheVariants.{Top, Beams, Beam, Terminals, Terminal, TerminalName, TerminalBeam, Slots, Frames, Lead, Patience, Journal}

-- the place in words: fields by their names, entries by their numbers in brackets
abbrev pub path_text : Path → List ℕ
path_text Top = codes "top"
path_text Beams = codes "beams"
path_text (Beam entry) = codes "beams[" ++ decimal entry ++ codes "]"
path_text Terminals = codes "terminals"
path_text (Terminal entry) = codes "terminals[" ++ decimal entry ++ codes "]"
path_text (TerminalName entry) = codes "terminals[" ++ decimal entry ++ codes "].name"
path_text (TerminalBeam entry) = codes "terminals[" ++ decimal entry ++ codes "].beam"
path_text Slots = codes "slots"
path_text Frames = codes "frames"
path_text Lead = codes "lead"
path_text Patience = codes "patience"
path_text Journal = codes "journal"
