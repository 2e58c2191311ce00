-- The lines of the links of rows, one row behind the other.
use Rattle.std.proofs.Common.{◌≡◌, ℕ, ◌<◌, List, [], ◌∷◌, ◌++◌, length, get_or, flat_map, refl, sym, ap, ◌∙◌, subst}
use Rattle.std.proofs.lemmas.List.Concat.{flat_map-append}
use Rattle.bt_net.specs.Network.{Net}
use Rattle.bt_net.specs.Terminals.{IsTerminal}
use Rattle.bt_demand.specs.declared.demand.Link.{Link}
use Rattle.bt_demand.specs.Rows.{all_links}
use Rattle.bt_demand.specs.Traffic.{AreOfNetwork}
use Rattle.bt_demand.proofs.FlatPlaces.{flat_place, flat}
use Rattle.bt_timeline.specs.Replayed.{link_line, link_lines}

-- the lines of each row are those of all links
pub lines_of_rows : (net : Net) (rows : List (List Link)) → flat_map (link_lines net) rows ≡ link_lines net (all_links rows)
lines_of_rows net [] = refl
lines_of_rows net (row ∷ rows) =
    ap (λ (text : List ℕ). link_lines net row ++ text) (lines_of_rows net rows) ∙ sym (flat_map-append (link_line net) row (all_links rows))

-- the links of a row that was read are between terminals of the network
pub row_of_network : (net : Net) (rows : List (List Link)) (i : ℕ) (row item : List Link) → AreOfNetwork net (all_links rows) → i < length rows → row ≡ item
    → item ≡ get_or rows i item → AreOfNetwork net row
row_of_network net rows i row item of within same is k d inside =
    let here = flat rows (all_links rows) i k row item refl within same is inside in
    subst (λ (link : Link). IsTerminal net link.from × IsTerminal net link.to) (here.link d) (of (flat_place rows i k) d here.within)
