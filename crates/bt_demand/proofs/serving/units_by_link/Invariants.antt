use Rattle.bt_demand.specs.declared.demand.Link.{Link}
use Rattle.bt_demand.specs.Rows.{all_links}
use Rattle.bt_demand.proofs.FlatPlaces.{flat_place}
use Rattle.bt_demand.proofs.SentTable.{AreAdded}
use Rattle.bt_demand.proofs.serving.units_by_link.Given as goal

-- the slots that the links of the rows so far ask for
abbrev pub invariant-loop-row : goal.invariant-loop-row
invariant-loop-row l = AreAdded (λ (l : Link). l.from.0) (λ (l : Link). l.to.0) (λ (l : Link). l.units) (all_links l.rows) (flat_place l.rows l.row-index 0) l.units

-- and those of this row so far
abbrev pub invariant-loop-link : goal.invariant-loop-link
invariant-loop-link l = AreAdded (λ (l : Link). l.from.0) (λ (l : Link). l.to.0) (λ (l : Link). l.units) (all_links l.rows) (flat_place l.rows l.row-index l.link-index) l.units
