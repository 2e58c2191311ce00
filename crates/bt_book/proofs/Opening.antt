-- What a store tells once a book was recovered from it.
use Rattle.std.proofs.Common.{◌≡◌, ℕ, List, [], Option, Some, None, sym, subst, arith}
use Rattle.std.specs.Prelude.{IfSome, option_map}
use Rattle.std.proofs.lemmas.List.{append-nil}
use Rattle.bt_net.specs.Network.{Net}
use Rattle.bt_journal.specs.declared.call.Change.{Change}
use Rattle.bt_history.specs.Causes.{Follows}
use Rattle.bt_history.specs.Recovery.{AreInRange, IsReadable, Recovered, marked}
use Rattle.bt_history.specs.Store.{IsStored}
use Rattle.bt_history.proofs.Marked.{keeps_marked, marked_short}
use Rattle.bt_history.proofs.OneJournal.{AreLines}

-- it keeps the changes that were told, and none is lost
pub stored_opened : (net : Net) (are : AreLines net) (old new : Option (List ℕ)) (changes : List Change) → IfSome old (λ bytes. Recovered net bytes changes) → IsReadable old → Follows net changes
    → AreInRange net 0 changes → new ≡ option_map (marked net) old → IsStored net new changes []
stored_opened net are None new changes tells readable follow ranges is = record {
  kept = rw is tt;
  one = omega arith;
  follow = subst (Follows net) (sym (append-nil changes)) follow;
  ranges = subst (AreInRange net 0) (sym (append-nil changes)) ranges;
  readable = rw is tt;
}
stored_opened net are (Some bytes) new changes tells readable follow ranges is = record {
  kept = rw is (keeps_marked net are bytes changes tells);
  one = omega arith;
  follow = subst (Follows net) (sym (append-nil changes)) follow;
  ranges = subst (AreInRange net 0) (sym (append-nil changes)) ranges;
  readable = rw is (marked_short net bytes readable);
}
