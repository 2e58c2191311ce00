use Rattle.std.proofs.Common.{◌∙◌, ap, sym, string_bytes}
use Rattle.std.specs.List.{list_any}
use Rattle.std.specs.Map.{keys_of}
use Rattle.std.specs.Str.{bytes_eq}
use Rattle.bt_net.specs.Network.{names_of}
use Rattle.bt_net.proofs.Names.{list_any-map, is_some-lookup, names_of-seen}
use Rattle.bt_net.proofs.terminals.Terminals.has.Goals as goal

pub returns : goal.returns
returns c =
    let entries = c.self.inside.beams.entries in
    c.contains_key.ensures ∙ is_some-lookup (λ key. bytes_eq c.args.name.now (string_bytes key)) entries
    ∙ list_any-map (bytes_eq c.args.name.now) string_bytes (keys_of entries)
    ∙ ap (list_any (bytes_eq c.args.name.now)) (sym (names_of-seen entries) ∙ ap names_of c.self.view_is)
