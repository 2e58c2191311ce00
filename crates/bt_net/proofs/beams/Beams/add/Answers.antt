use Rattle.std.proofs.Common.{◌∙◌, ◌∷◌, ◌++◌, [], List, ℕ, ap, string_bytes, map}
use Rattle.std.specs.List.{list_any}
use Rattle.std.specs.Str.{bytes_eq}
use Rattle.bt_net.proofs.Names.{map-insert_key}
use Rattle.bt_net.proofs.beams.Beams.add.Goals as goal

pub returns : goal.returns
returns c =
    let keys = c.self.inside.names.keys in
    let name = c.args.name.now in
    ap (map string_bytes) c.in_ok-insert.ensures.keys
    ∙ map-insert_key keys c.in_ok-from_str.field-0 name c.in_ok-from_str.ensures.ok (ap (list_any (bytes_eq name)) c.self.view_is ∙ c.requires)
    ∙ ap (λ (names : List (List ℕ)). names ++ name ∷ []) c.self.view_is
