-- What a terminal has heard and holds, message by message.
use Rattle.std.proofs.Common.{◌≡◌, ℕ, ◌==◌, if◌then◌else◌, Bool, true, false, List, [], ◌∷◌, Option, Some, None, refl, sym, ◌∙◌, ap, arith, subst}
use Rattle.std.proofs.lemmas.Bool.Decides.{nat_tests}
use Rattle.std.proofs.lemmas.Bool.{eqb-true}
use Rattle.bt_frame.proofs.OneNumber.{same_terminal}
use Rattle.bt_frame.specs.declared.numbers.Command.{Command}
use Rattle.bt_frame.specs.declared.numbers.EditionNo.{EditionNo}
use Rattle.bt_frame.specs.declared.numbers.Mark.{Mark}
use Rattle.bt_frame.specs.declared.numbers.TermNo.{TermNo}
use Rattle.bt_demand.specs.declared.burst.Burst.{Burst}
use Rattle.bt_air.specs.declared.message.Message.TheVariants as message
use Rattle.bt_air.specs.declared.order.Armed.{Armed}
use Rattle.bt_machines.specs.declared.burst_bank.Bank.{Bank}
use Rattle.bt_machines.specs.declared.burst_bank.Holding.{Holding}
use Rattle.bt_machines.specs.declared.reference.Reference.{Reference}
use Rattle.bt_machines.specs.Banks.{is_in_use, is_less}
use Rattle.bt_machines.specs.Terminal.{State, new_of, step_of, is_for_another}
use Rattle.bt_machines.specs.Said.{taking, held_in, IsFilledInOrder, Agrees}

abbrev pub state_of : TermNo → Option Reference → Option Bank → Option Bank → State
state_of number told first second = record { number = number; banks = record { first = first; second = second }; heard = told }

pub own : (n : ℕ) → (n == n) ≡ true
own n = grind (arith, nat_tests)

-- what comes, as it is held
abbrev pub holding_of : Command → EditionNo → Holding
holding_of load edition = record { load = load; edition = edition }

none-held : (number : TermNo) (told : Option Reference) (now : Mark) (load : Command) (edition : EditionNo) (bursts : List Burst)
    → Agrees number told (taking [] told now.0 (holding_of load edition)) (step_of (state_of number told None None) now (message.PlanFor number load edition bursts)).1
none-held number told now load edition bursts = rw (own number.0) (record { same = refl; heard = refl; filled = tt; held = refl })

one-held : (number : TermNo) (told : Option Reference) (a : Bank) (now : Mark) (load : Command) (edition : EditionNo) (bursts : List Burst) (test : Bool)
    → (a.holding.edition.0 == edition.0) ≡ test
    → Agrees number told (taking (a.holding ∷ []) told now.0 (holding_of load edition)) (step_of (state_of number told (Some a) None) now (message.PlanFor number load edition bursts)).1
one-held number told a now load edition bursts true e = rw (own number.0, e) (record { same = refl; heard = refl; filled = tt; held = refl })
one-held number told a now load edition bursts false e = rw (own number.0, e) (record { same = refl; heard = refl; filled = tt; held = refl })

-- the tests of the table, where the terminal holds two editions
pub record Tests (told : Option Reference) (now : Mark) (a b new : Holding) (first second used_first used_second less older_first older_second : Bool) : Type 0 where
  pub same_first : (a.edition.0 == new.edition.0) ≡ first
  pub same_second : (b.edition.0 == new.edition.0) ≡ second
  pub uses_first : is_in_use told now.0 a.edition ≡ used_first
  pub uses_second : is_in_use told now.0 b.edition ≡ used_second
  pub is_lesser : is_less b a ≡ less
  pub is_older_first : is_less new a ≡ older_first
  pub is_older_second : is_less new b ≡ older_second

two-held : (number : TermNo) (told : Option Reference) (a b : Bank) (now : Mark) (load : Command) (edition : EditionNo) (bursts : List Burst)
    (first second used_first used_second less older_first older_second : Bool)
    → Tests told now a.holding b.holding (holding_of load edition) first second used_first used_second less older_first older_second
    → Agrees number told (taking (a.holding ∷ b.holding ∷ []) told now.0 (holding_of load edition))
    (step_of (state_of number told (Some a) (Some b)) now (message.PlanFor number load edition bursts)).1
two-held number told a b now load edition bursts true second u v l x y t = rw (own number.0, t.same_first) (record { same = refl; heard = refl; filled = tt; held = refl })
two-held number told a b now load edition bursts false true u v l x y t = rw (own number.0, t.same_first, t.same_second) (record { same = refl; heard = refl; filled = tt; held = refl })
two-held number told a b now load edition bursts false false true true l x y t =
    rw (own number.0, t.same_first, t.same_second, t.uses_first, t.uses_second) (record { same = refl; heard = refl; filled = tt; held = refl })
two-held number told a b now load edition bursts false false true false l x true t =
    rw (own number.0, t.same_first, t.same_second, t.uses_first, t.uses_second, t.is_older_second) (record { same = refl; heard = refl; filled = tt; held = refl })
two-held number told a b now load edition bursts false false true false l x false t =
    rw (own number.0, t.same_first, t.same_second, t.uses_first, t.uses_second, t.is_older_second) (record { same = refl; heard = refl; filled = tt; held = refl })
two-held number told a b now load edition bursts false false false true l true y t =
    rw (own number.0, t.same_first, t.same_second, t.uses_first, t.uses_second, t.is_older_first) (record { same = refl; heard = refl; filled = tt; held = refl })
two-held number told a b now load edition bursts false false false true l false y t =
    rw (own number.0, t.same_first, t.same_second, t.uses_first, t.uses_second, t.is_older_first) (record { same = refl; heard = refl; filled = tt; held = refl })
two-held number told a b now load edition bursts false false false false true x true t =
    rw (own number.0, t.same_first, t.same_second, t.uses_first, t.uses_second, t.is_lesser, t.is_older_second) (record { same = refl; heard = refl; filled = tt; held = refl })
two-held number told a b now load edition bursts false false false false true x false t =
    rw (own number.0, t.same_first, t.same_second, t.uses_first, t.uses_second, t.is_lesser, t.is_older_second) (record { same = refl; heard = refl; filled = tt; held = refl })
two-held number told a b now load edition bursts false false false false false true y t =
    rw (own number.0, t.same_first, t.same_second, t.uses_first, t.uses_second, t.is_lesser, t.is_older_first) (record { same = refl; heard = refl; filled = tt; held = refl })
two-held number told a b now load edition bursts false false false false false false y t =
    rw (own number.0, t.same_first, t.same_second, t.uses_first, t.uses_second, t.is_lesser, t.is_older_first) (record { same = refl; heard = refl; filled = tt; held = refl })

-- the tests have some outcome
pub tested : (told : Option Reference) (now : Mark) (a b new : Holding)
    → Tests told now a b new (a.edition.0 == new.edition.0) (b.edition.0 == new.edition.0) (is_in_use told now.0 a.edition) (is_in_use told now.0 b.edition) (is_less b a) (is_less new a) (is_less new b)
tested told now a b new = record { same_first = refl; same_second = refl; uses_first = refl; uses_second = refl; is_lesser = refl; is_older_first = refl; is_older_second = refl }

plan-held : (number : TermNo) (told : Option Reference) (first second : Option Bank) (now : Mark) (load : Command) (edition : EditionNo) (bursts : List Burst) → IsFilledInOrder first second
    → Agrees number told (taking (held_in first second) told now.0 (holding_of load edition)) (step_of (state_of number told first second) now (message.PlanFor number load edition bursts)).1
plan-held number told None None now load edition bursts filled = none-held number told now load edition bursts
plan-held number told None (Some b) now load edition bursts filled = absurd filled
plan-held number told (Some a) None now load edition bursts filled = one-held number told a now load edition bursts _ refl
plan-held number told (Some a) (Some b) now load edition bursts filled =
    two-held number told a b now load edition bursts _ _ _ _ _ _ _ (tested told now a.holding b.holding (holding_of load edition))

-- a message comes to the terminal
for-another : (s : State) (to number : TermNo) → s.number ≡ number → (to.0 == number.0) ≡ false → is_for_another s to ≡ true
for-another s to number same e = rw (same, e) refl

-- bursts come
pub plan-agrees : (number : TermNo) (now : ℕ) (told : Option Reference) (held : List Holding) (s : State) (to : TermNo) (load : Command) (edition : EditionNo) (bursts : List Burst) (test : Bool)
    → (to.0 == number.0) ≡ test → Agrees number told held s
    → Agrees number told (if test then taking held told now (holding_of load edition) else held) (step_of s (record { 0 = now }) (message.PlanFor to load edition bursts)).1
plan-agrees number now told held s to load edition bursts true e agrees =
    let here : to ≡ s.number = same_terminal to number (eqb-true _ _ e) ∙ sym agrees.same in
    let kept = plan-held s.number s.heard s.banks.first s.banks.second (record { 0 = now }) load edition bursts agrees.filled in
    subst (λ (t : TermNo). Agrees number told (taking held told now (holding_of load edition)) (step_of s (record { 0 = now }) (message.PlanFor t load edition bursts)).1) (sym here) (record {
      same = kept.same ∙ agrees.same;
      heard = kept.heard ∙ agrees.heard;
      filled = kept.filled;
      held = kept.held ∙ ap (λ (list : List Holding). taking list s.heard now (holding_of load edition)) agrees.held
          ∙ ap (λ (r : Option Reference). taking held r now (holding_of load edition)) agrees.heard;
    })
plan-agrees number now told held s to load edition bursts false e agrees = rw (for-another s to number agrees.same e) agrees

-- a reference burst comes
pub reference-agrees : (number : TermNo) (now : ℕ) (told : Option Reference) (held : List Holding) (s : State) (superframe : Mark) (found : Option EditionNo) (next : Option Armed) (test : Bool)
    → (superframe.0 == now) ≡ test → Agrees number told held s
    → Agrees number (if test then Some (record { superframe = superframe; in_force = found; next = next }) else told) held (step_of s (record { 0 = now }) (message.Reference superframe found next)).1
reference-agrees number now told held s superframe found next true e agrees =
    rw e (record { same = agrees.same; heard = refl; filled = agrees.filled; held = agrees.held })
reference-agrees number now told held s superframe found next false e agrees = rw e agrees

-- a new terminal
pub new-agrees : (number : TermNo) → Agrees number None [] (new_of number)
new-agrees number = record { same = refl; heard = refl; filled = tt; held = refl }
