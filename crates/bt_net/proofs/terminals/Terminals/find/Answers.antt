use Rattle.std.proofs.Common.{◌∙◌, ap, sym, position, string_bytes}
use Rattle.std.specs.Map.{keys_of}
use Rattle.std.specs.Str.{bytes_eq}
use Rattle.bt_net.specs.Network.{names_of}
use Rattle.bt_net.proofs.Names.{position-map, names_of-seen}
use Rattle.bt_net.proofs.terminals.Terminals.find.Goals as goal

pub returns : goal.returns
returns c =
    let entries = c.self.inside.beams.entries in
    c.get_index_of.ensures.index ∙ position-map (bytes_eq c.args.name.now) string_bytes (keys_of entries)
    ∙ ap (position (bytes_eq c.args.name.now)) (sym (names_of-seen entries) ∙ ap names_of c.self.view_is)
