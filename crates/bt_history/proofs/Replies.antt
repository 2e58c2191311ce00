-- Kinds of replies.
use Rattle.std.proofs.Common.{◌≡◌, ◌&&◌, Bool, true, false, refl, sym, ap, ◌∙◌}
use Rattle.bt_journal.specs.declared.reply.Reply.{Reply}
use Rattle.bt_journal.specs.declared.reply.Reply.TheVariants.{Done, SameTerminal, NotThere, RowFull, ColumnFull, BookFull, NotNewer, NoSuchEdition, NotGood, OutOfTurn, NotInstalled, Demand, Installed, Newest, Placed, StoreFault, Stopped}
use Rattle.bt_journal.specs.Journal.{is_made, is_refusal, is_fault}
use Rattle.bt_history.specs.Store.{is_lost}

-- no reply is of two kinds
pub record IsOneKind (reply : Reply) : Type 0 where
  pub made_fault : (is_made reply && is_fault reply) ≡ false
  pub refusal_made : (is_refusal reply && is_made reply) ≡ false
  pub refusal_fault : (is_refusal reply && is_fault reply) ≡ false

one_kind : (reply : Reply) → IsOneKind reply
one_kind (Done _ _) = record { made_fault = refl; refusal_made = refl; refusal_fault = refl }
one_kind SameTerminal = record { made_fault = refl; refusal_made = refl; refusal_fault = refl }
one_kind (NotThere _) = record { made_fault = refl; refusal_made = refl; refusal_fault = refl }
one_kind (RowFull _ _) = record { made_fault = refl; refusal_made = refl; refusal_fault = refl }
one_kind (ColumnFull _ _) = record { made_fault = refl; refusal_made = refl; refusal_fault = refl }
one_kind (BookFull _) = record { made_fault = refl; refusal_made = refl; refusal_fault = refl }
one_kind (NotNewer _) = record { made_fault = refl; refusal_made = refl; refusal_fault = refl }
one_kind (NoSuchEdition _) = record { made_fault = refl; refusal_made = refl; refusal_fault = refl }
one_kind (NotGood _) = record { made_fault = refl; refusal_made = refl; refusal_fault = refl }
one_kind (OutOfTurn _) = record { made_fault = refl; refusal_made = refl; refusal_fault = refl }
one_kind (NotInstalled _) = record { made_fault = refl; refusal_made = refl; refusal_fault = refl }
one_kind (Demand _ _ _) = record { made_fault = refl; refusal_made = refl; refusal_fault = refl }
one_kind (Installed _) = record { made_fault = refl; refusal_made = refl; refusal_fault = refl }
one_kind (Newest _) = record { made_fault = refl; refusal_made = refl; refusal_fault = refl }
one_kind Placed = record { made_fault = refl; refusal_made = refl; refusal_fault = refl }
one_kind StoreFault = record { made_fault = refl; refusal_made = refl; refusal_fault = refl }
one_kind Stopped = record { made_fault = refl; refusal_made = refl; refusal_fault = refl }

other : (a b : Bool) → a ≡ true → (a && b) ≡ false → b ≡ false
other a b is both = ap (λ (t : Bool). t && b) (sym is) ∙ both

-- a reply that says that a change was made tells of no fault
pub made_no_fault : (reply : Reply) → is_made reply ≡ true → is_fault reply ≡ false
made_no_fault reply is = other (is_made reply) (is_fault reply) is (one_kind reply).made_fault

-- a refusal neither says that a change was made
pub refusal_not_made : (reply : Reply) → is_refusal reply ≡ true → is_made reply ≡ false
refusal_not_made reply is = other (is_refusal reply) (is_made reply) is (one_kind reply).refusal_made

-- nor tells of a fault
pub refusal_no_fault : (reply : Reply) → is_refusal reply ≡ true → is_fault reply ≡ false
refusal_no_fault reply is = other (is_refusal reply) (is_fault reply) is (one_kind reply).refusal_fault

-- what tells of no fault lost no change
pub no_fault_not_lost : (reply : Reply) → is_fault reply ≡ false → is_lost reply ≡ false
no_fault_not_lost (Done _ _) none = refl
no_fault_not_lost SameTerminal none = refl
no_fault_not_lost (NotThere _) none = refl
no_fault_not_lost (RowFull _ _) none = refl
no_fault_not_lost (ColumnFull _ _) none = refl
no_fault_not_lost (BookFull _) none = refl
no_fault_not_lost (NotNewer _) none = refl
no_fault_not_lost (NoSuchEdition _) none = refl
no_fault_not_lost (NotGood _) none = refl
no_fault_not_lost (OutOfTurn _) none = refl
no_fault_not_lost (NotInstalled _) none = refl
no_fault_not_lost (Demand _ _ _) none = refl
no_fault_not_lost (Installed _) none = refl
no_fault_not_lost (Newest _) none = refl
no_fault_not_lost Placed none = refl
no_fault_not_lost StoreFault none = absurd cc
no_fault_not_lost Stopped none = refl
