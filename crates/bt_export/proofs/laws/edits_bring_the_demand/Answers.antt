use Rattle.bt_export.specs.Edits.{edits_between}
use Rattle.bt_export.proofs.Done.{each_made}
use Rattle.bt_export.proofs.Follow.{edits_come_to, edits_follow}
use Rattle.bt_export.proofs.NoEdits.{no_edits}
use Rattle.bt_export.proofs.laws.edits_bring_the_demand.Goals as goal

pub returns : goal.returns
returns c = record {
  each = edits_follow;
  done = λ net changes have want sound follow is wanted of fits before rest one reply new.
      each_made net changes (edits_between have want) before rest one reply new (edits_follow net changes have want sound follow is wanted of fits);
  demand = edits_come_to;
  none = no_edits c.links_tell_demands.ensures.same;
}
