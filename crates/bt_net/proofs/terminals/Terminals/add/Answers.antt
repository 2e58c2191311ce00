use Rattle.std.proofs.Common.{◌∙◌, ◌∷◌, ◌++◌, [], List, ℕ, ap, map}
use Rattle.std.specs.List.{list_any}
use Rattle.std.specs.Str.{bytes_eq}
use Rattle.bt_frame.specs.declared.numbers.BeamNo.{BeamNo}
use Rattle.bt_net.specs.Network.{names_of}
use Rattle.bt_net.proofs.Names.{seen, map-insert_entry}
use Rattle.bt_net.proofs.terminals.Terminals.add.Goals as goal

pub returns : goal.returns
returns c =
    let name = c.args.name.now in
    ap (map seen) c.in_ok-insert.ensures.entries
    ∙ map-insert_entry c.self.inside.beams c.in_ok-from_str.field-0 c.args.beam name c.in_ok-from_str.ensures.ok (ap (λ terminals. list_any (bytes_eq name) (names_of terminals)) c.self.view_is ∙ c.requires)
    ∙ ap (λ (terminals : List (List ℕ × BeamNo)). terminals ++ (name, c.args.beam) ∷ []) c.self.view_is
