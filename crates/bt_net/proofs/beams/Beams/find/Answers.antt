use Rattle.std.proofs.Common.{◌∙◌, ap, position, string_bytes}
use Rattle.std.specs.Str.{bytes_eq}
use Rattle.bt_net.proofs.Names.{position-map}
use Rattle.bt_net.proofs.beams.Beams.find.Goals as goal

pub returns : goal.returns
returns c =
    c.get_index_of.ensures.index ∙ position-map (bytes_eq c.args.name.now) string_bytes c.self.inside.names.keys
    ∙ ap (position (bytes_eq c.args.name.now)) c.self.view_is
