use Rattle.std.proofs.Common.{◌∙◌, ap, string_bytes}
use Rattle.std.specs.List.{list_any}
use Rattle.std.specs.Str.{bytes_eq}
use Rattle.bt_net.proofs.Names.{list_any-map}
use Rattle.bt_net.proofs.beams.Beams.has.Goals as goal

pub returns : goal.returns
returns c =
    c.contains.ensures ∙ list_any-map (bytes_eq c.args.name.now) string_bytes c.self.inside.names.keys
    ∙ ap (list_any (bytes_eq c.args.name.now)) c.self.view_is
