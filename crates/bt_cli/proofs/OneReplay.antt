-- A replay of one told store has one outcome.
use Rattle.std.proofs.Common.{◌≡◌, ℕ, ◌≤◌, inl, inr, List, length, Some, sym, ap, ◌∙◌}
use Rattle.bt_frame.specs.declared.limits.TheConstants.{MOST_JOURNAL_BYTES}
use Rattle.bt_net.specs.Network.{Net}
use Rattle.bt_demand.specs.declared.demand.Link.{Link}
use Rattle.bt_journal.specs.declared.call.Change.{Change}
use Rattle.bt_history.specs.Changes.{edition, newest, orders}
use Rattle.bt_history.specs.Recovery.{Recovered}
use Rattle.bt_timeline.specs.Replayed.{replay_lines}
use Rattle.bt_report.specs.Stored.{IsSteady, Stored}
use Rattle.bt_report.specs.Outcome.{Outcome, text_alone}
use Rattle.bt_cli.specs.Command.{IsOneStore}
use Rattle.bt_cli.specs.Replay.{PrintsJournal, PrintsState}
use Rattle.bt_cli.proofs.OneJournal.{Comes, Laws, fault_comes, one_coming, told}

comes : (net : Net) (held : List ℕ) (stored : Stored) (outcome : Outcome) → stored.before ≡ Some held → IsSteady stored → PrintsJournal stored net outcome → Comes (PrintsState net) net held outcome
comes net held stored outcome is steady (sound, inl (changes, recovered, printed)) =
    inl (record {
      changes = changes;
      told = told stored.before held (λ bytes. Recovered net bytes changes) is recovered.told;
      short = told stored.before held (λ bytes. length bytes ≤ MOST_JOURNAL_BYTES) is recovered.readable;
      done = printed;
    })
comes net held stored outcome is steady (sound, inr (fault, failed, says)) = fault_comes (PrintsState net) net held stored fault outcome is steady failed says

-- one list of changes is printed in one way
state_same : Laws → (net : Net) (changes : List Change) (a b : Outcome) → PrintsState net changes a → PrintsState net changes b → a ≡ b
state_same laws net changes a b one other =
    let links : one.links ≡ other.links = laws.demand one.links other.links one.demand.demand other.demand.demand
    (λ from to. one.demand.slots _ ∙ sym (other.demand.slots _)) in
    one.printed ∙ (ap (λ (l : List Link). text_alone (replay_lines net (edition changes) (newest changes) (length (orders changes)) l) 0) links ∙ sym other.printed)

-- so a journal is replayed in one way
pub one_replay : Laws → (net : Net) (one other : Stored) → IsOneStore one other → (a b : Outcome) → PrintsJournal one net a → PrintsJournal other net b → a ≡ b
one_replay laws net one other kept a b first second =
    one_coming laws (λ x y. x ≡ y) (λ x y same. same) (PrintsState net) (state_same laws net) net first.0 kept.held a b
    (comes net kept.held one a kept.told kept.steady first)
    (comes net kept.held other b kept.also kept.steadily second)
