-- Bursts stay while their edition is in use.
use Rattle.std.proofs.Common.{◌≡◌, ℕ, ◌==◌, ◌&&◌, ◌||◌, not, if◌then◌else◌, Bool, true, false, List, Option, Some, None, refl, sym, ◌∙◌, ap, arith}
use Rattle.std.proofs.Math.Bool.{and-false}
use Rattle.std.proofs.lemmas.Bool.{eqb-true}
use Rattle.std.proofs.lemmas.Bool.Decides.{nat_tests}
use Rattle.bt_frame.proofs.OneNumber.{same_edition}
use Rattle.bt_frame.specs.declared.numbers.Command.{Command}
use Rattle.bt_frame.specs.declared.numbers.EditionNo.{EditionNo}
use Rattle.bt_frame.specs.declared.numbers.Mark.{Mark}
use Rattle.bt_frame.specs.declared.numbers.TermNo.{TermNo}
use Rattle.bt_demand.specs.declared.burst.Burst.{Burst}
use Rattle.bt_air.specs.declared.message.Message.TheVariants as message
use Rattle.bt_machines.specs.declared.burst_bank.Bank.{Bank}
use Rattle.bt_machines.specs.declared.burst_bank.Holding.{Holding}
use Rattle.bt_machines.specs.declared.banks.Banks.{Banks}
use Rattle.bt_machines.specs.declared.reference.Reference.{Reference}
use Rattle.bt_machines.specs.Banks.{is_of, hold, have_room, is_in_use, is_less, is_used, are_used, second_gives, next_bank, bank_raised, for_load, raised, with_raised, with_stored, bank_of, bursts_of_bank}
use Rattle.bt_machines.specs.Terminal.{State, in_force, is_for_another, is_before, raising, storing, step_of, transmitted, bursts_named}
use Rattle.bt_machines.proofs.TerminalRows.{plan_rows}
use Rattle.bt_machines.proofs.Silence.{plan_keeps}

-- a bank that is raised has its edition and its bursts
pub raised-edition : (one : Holding) (load : Command) (less : Bool) → (if less then for_load one load else one).edition ≡ one.edition
raised-edition one load true = refl
raised-edition one load false = refl

raised-of : (bank : Option Bank) (load : Command) (edition : EditionNo) → is_of (bank_raised bank load) edition ≡ is_of bank edition
raised-of None load edition = refl
raised-of (Some bank) load edition = ap (λ (e : EditionNo). e.0 == edition.0) (raised-edition bank.holding load _)

raised-bursts : (bank : Option Bank) (load : Command) → bursts_of_bank (bank_raised bank load) ≡ bursts_of_bank bank
raised-bursts None load = refl
raised-bursts (Some bank) load = refl

-- either of two banks that have the same bursts
if-bursts : (test : Bool) (a b c d : Option Bank) → bursts_of_bank a ≡ bursts_of_bank c → bursts_of_bank b ≡ bursts_of_bank d
    → bursts_of_bank (if test then a else b) ≡ bursts_of_bank (if test then c else d)
if-bursts true a b c d p q = p
if-bursts false a b c d p q = q

raise-first : (first second : Option Bank) (load : Command) (used : EditionNo)
    → bursts_of_bank (bank_of (record { first = bank_raised first load; second = second }) used) ≡ bursts_of_bank (bank_of (record { first = first; second = second }) used)
raise-first first second load used =
    rw (raised-of first load used)
    (if-bursts (is_of first used) (bank_raised first load) (if is_of second used then second else None) first (if is_of second used then second else None)
    (raised-bursts first load) refl)

raise-second : (first second : Option Bank) (load : Command) (used : EditionNo)
    → bursts_of_bank (bank_of (record { first = first; second = bank_raised second load }) used) ≡ bursts_of_bank (bank_of (record { first = first; second = second }) used)
raise-second first second load used =
    rw (raised-of second load used)
    (if-bursts (is_of first used) first (if is_of second used then bank_raised second load else None) first (if is_of second used then second else None) refl
    (if-bursts (is_of second used) (bank_raised second load) None second None (raised-bursts second load) refl))

raise-keeps : (banks : Banks) (edition : EditionNo) (load : Command) (used : EditionNo) (test : Bool) → is_of banks.first edition ≡ test
    → bursts_of_bank (bank_of (with_raised banks edition load) used) ≡ bursts_of_bank (bank_of banks used)
raise-keeps banks edition load used true e = rw e (raise-first banks.first banks.second load used)
raise-keeps banks edition load used false e = rw e (raise-second banks.first banks.second load used)

-- an edition that is not in use is not the one that is
free-differs : (told : Option Reference) (now : ℕ) (free used : EditionNo) (test : Bool) → (free.0 == used.0) ≡ test → is_in_use told now free ≡ false → is_in_use told now used ≡ true
    → (free.0 == used.0) ≡ false
free-differs told now free used true e p q =
    let same = same_edition free used (eqb-true _ _ e) in let r : is_in_use told now free ≡ true = ap (is_in_use told now) same ∙ q in cc
free-differs told now free used false e p q = e

-- an edition that is not held is not one that is
new-differs : (banks : Banks) (new used : EditionNo) (test : Bool) → (new.0 == used.0) ≡ test → hold banks new ≡ false → hold banks used ≡ true → (new.0 == used.0) ≡ false
new-differs banks new used true e p q =
    let same = same_edition new used (eqb-true _ _ e) in let r : hold banks new ≡ true = ap (hold banks) same ∙ q in cc
new-differs banks new used false e p q = e

-- the one that gives way is not in use
second-free : (a b less : Bool) → (not b && (a || less)) ≡ true → b ≡ false
second-free a true less e = cc
second-free a false less e = refl

first-free : (a b less : Bool) → (not b && (a || less)) ≡ false → (a && b) ≡ false → a ≡ false
first-free false b less e both = refl
first-free true true less e both = cc
first-free true false less e both = cc

gives-keeps : (told : Option Reference) (now : ℕ) (a b new : Bank) (used : EditionNo) (gives : Bool) → second_gives told now a.holding b.holding ≡ gives
    → is_in_use told now used ≡ true → (new.holding.edition.0 == used.0) ≡ false → are_used told now (record { first = Some a; second = Some b }) ≡ false
    → bursts_of_bank (bank_of (with_stored told now (record { first = Some a; second = Some b }) new) used) ≡ bursts_of_bank (bank_of (record { first = Some a; second = Some b }) used)
gives-keeps told now a b new used true e in_use other free =
    let u = second-free (is_in_use told now a.holding.edition) (is_in_use told now b.holding.edition) (is_less b.holding a.holding) e in
    let d = free-differs told now b.holding.edition used _ refl u in_use in
    rw (e, other, d) refl
gives-keeps told now a b new used false e in_use other free =
    let u = first-free (is_in_use told now a.holding.edition) (is_in_use told now b.holding.edition) (is_less b.holding a.holding) e free in
    let d = free-differs told now a.holding.edition used _ refl u in_use in
    rw (e, other, d) refl

stored-keeps : (told : Option Reference) (now : ℕ) (first second : Option Bank) (new : Bank) (used : EditionNo)
    → is_in_use told now used ≡ true → (new.holding.edition.0 == used.0) ≡ false → are_used told now (record { first = first; second = second }) ≡ false
    → bursts_of_bank (bank_of (with_stored told now (record { first = first; second = second }) new) used) ≡ bursts_of_bank (bank_of (record { first = first; second = second }) used)
stored-keeps told now None None new used in_use other free = rw other refl
stored-keeps told now None (Some b) new used in_use other free = rw other refl
stored-keeps told now (Some a) None new used in_use other free = rw other refl
stored-keeps told now (Some a) (Some b) new used in_use other free = gives-keeps told now a b new used _ refl in_use other free

-- where there is room, not both are in use
room-free : (told : Option Reference) (now : ℕ) (first second : Option Bank) → have_room (record { first = first; second = second }) ≡ true
    → are_used told now (record { first = first; second = second }) ≡ false
room-free told now None second room = refl
room-free told now (Some a) None room = and-false (is_used told now (Some a))
room-free told now (Some a) (Some b) room = cc

rows-keep : (s : State) (mark : Mark) (new : Holding) (bursts : List Burst) (named : EditionNo) (another held room used older : Bool)
    → hold s.banks new.edition ≡ held → have_room s.banks ≡ room → are_used s.heard mark.0 s.banks ≡ used
    → is_in_use s.heard mark.0 named ≡ true → hold s.banks named ≡ true
    → bursts_of_bank (bank_of (plan_rows s (raising s new.edition new.load) (storing s mark.0 new bursts) another held room used older).1.banks named) ≡ bursts_of_bank (bank_of s.banks named)
rows-keep s mark new bursts named true held room used older e f g in_use have = refl
rows-keep s mark new bursts named false true room used older e f g in_use have = raise-keeps s.banks new.edition new.load named _ refl
rows-keep s mark new bursts named false false true used older e f g in_use have =
    stored-keeps s.heard mark.0 s.banks.first s.banks.second (record { holding = new; bursts = bursts }) named in_use
    (new-differs s.banks new.edition named _ refl e have) (room-free s.heard mark.0 s.banks.first s.banks.second f)
rows-keep s mark new bursts named false false false true older e f g in_use have = refl
rows-keep s mark new bursts named false false false false true e f g in_use have = refl
rows-keep s mark new bursts named false false false false false e f g in_use have =
    stored-keeps s.heard mark.0 s.banks.first s.banks.second (record { holding = new; bursts = bursts }) named in_use
    (new-differs s.banks new.edition named _ refl e have) g

pub bursts-stay : (s : State) (mark : Mark) (named : EditionNo) (to : TermNo) (load : Command) (edition : EditionNo) (bursts : List Burst)
    → is_in_use s.heard mark.0 named ≡ true → hold s.banks named ≡ true
    → bursts_of_bank (bank_of (step_of s mark (message.PlanFor to load edition bursts)).1.banks named) ≡ bursts_of_bank (bank_of s.banks named)
bursts-stay s mark named to load edition bursts in_use have =
    let new : Holding = record { load = load; edition = edition } in
    rows-keep s mark new bursts named (is_for_another s to) _ _ _ (is_before new (next_bank s.heard mark.0 s.banks)) refl refl refl in_use have

-- the edition that is named is in use
named-if : (r : Reference) (mark : Mark) (named : EditionNo) (test : Bool) → (r.superframe.0 == mark.0) ≡ test → (if test then r.in_force else None) ≡ Some named → is_in_use (Some r) mark.0 named ≡ true
named-if r mark named true e is = let own : (named.0 == named.0) ≡ true = grind (arith, nat_tests) in rw (e, is, own) refl
named-if r mark named false e is = cc

named-used : (told : Option Reference) (mark : Mark) (named : EditionNo) → in_force told mark ≡ Some named → is_in_use told mark.0 named ≡ true
named-used None mark named is = cc
named-used (Some r) mark named is = named-if r mark named _ refl is

pub transmitted-stay : (s : State) (mark : Mark) (named : EditionNo) (to : TermNo) (load : Command) (edition : EditionNo) (bursts : List Burst)
    → in_force s.heard mark ≡ Some named → hold s.banks named ≡ true
    → transmitted (step_of s mark (message.PlanFor to load edition bursts)).1 mark ≡ transmitted s mark
transmitted-stay s mark named to load edition bursts is have =
    let new : Holding = record { load = load; edition = edition } in
    let after = (step_of s mark (message.PlanFor to load edition bursts)).1 in
    let told : after.heard ≡ s.heard =
    plan_keeps s (raising s edition load) (storing s mark.0 new bursts) (is_for_another s to) (hold s.banks edition) (have_room s.banks)
    (are_used s.heard mark.0 s.banks) (is_before new (next_bank s.heard mark.0 s.banks)) refl refl in
    ap (λ (r : Option Reference). bursts_named after.banks (in_force r mark)) told
    ∙ ap (bursts_named after.banks) is
    ∙ bursts-stay s mark named to load edition bursts (named-used s.heard mark named is) have
    ∙ ap (bursts_named s.banks) (sym is)
