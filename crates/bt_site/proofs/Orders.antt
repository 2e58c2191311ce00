-- Lists of orders: which order is among them, and which Arms are past.
use Rattle.std.proofs.Common.{◌≡◌, ◌⊎◌, inl, inr, ℕ, ◌<◌, ◌≤◌, ◌||◌, nat_lt, nat_le, if◌then◌else◌, Bool, true, false, List, [], ◌∷◌, Option, Some, None, refl, sym, ◌∙◌, ap, arith}
use Rattle.std.proofs.lemmas.Bool.{or_right}
use Rattle.std.proofs.lemmas.Bool.Decides.{nat_tests}
use Rattle.bt_frame.specs.declared.numbers.Command.{Command}
use Rattle.bt_frame.specs.declared.numbers.EditionNo.{EditionNo}
use Rattle.bt_frame.specs.declared.numbers.Mark.{Mark}
use Rattle.bt_air.specs.declared.order.Armed.{Armed}
use Rattle.bt_air.specs.declared.order.Order.{Order}
use Rattle.bt_air.specs.declared.order.Order.TheVariants.{Load, Arm}
use Rattle.bt_air.specs.declared.order.Status.{Status}
use Rattle.bt_machines.specs.Satellite.{is_armed}
use Rattle.bt_air.specs.Orders.{last_arm, to_come, fore_at}
use Rattle.bt_machines.proofs.Past.{ArePast, past-later, past-fore_at, past-to_come}
use Rattle.std.specs.List.{list_any}
use Rattle.bt_site.specs.Laws.{IsAmong}
use Rattle.bt_machines.specs.Known.{is_unseen, known, told_fore}

-- each Arm but the last order is due by this superframe
abbrev pub Settled : List Order → ℕ → Type 0
Settled [] mark = Unit {0}
Settled (last ∷ earlier) mark = ArePast earlier mark

-- what is past stays past
pub settled-later : (orders : List Order) (mark later : ℕ) → mark ≤ later → Settled orders mark → Settled orders later
settled-later [] mark later h settled = tt
settled-later (last ∷ earlier) mark later h settled = past-later earlier mark later h settled

pub past-same : (orders : List Order) (mark later : ℕ) → mark ≤ later → ArePast orders mark → fore_at orders mark ≡ fore_at orders later
past-same orders mark later h past = past-fore_at orders mark past ∙ sym (past-fore_at orders later (past-later orders mark later h past))

-- all Arms are past where nothing is armed
arm-past : (armed : Armed) (mark : ℕ) (test : Bool) → nat_le armed.due.0 mark ≡ test → is_armed (to_come (Some armed) mark) ≡ false → armed.due.0 ≤ mark
arm-past armed mark true p free = grind (arith, nat_tests)
arm-past armed mark false p free = let e : is_armed (to_come (Some armed) mark) ≡ true = rw p refl in cc

pub free-past : (orders : List Order) (mark : ℕ) → Settled orders mark → is_armed (to_come (last_arm orders) mark) ≡ false → ArePast orders mark
free-past [] mark settled free = tt
free-past (Load command edition ∷ earlier) mark settled free = settled
free-past (Arm command edition due ∷ earlier) mark settled free = (arm-past (record { edition = edition; due = due }) mark _ refl free, settled)

-- what the status of a settled satellite says of each later superframe is so
arm-told : (edition : EditionNo) (due : Mark) (earlier : List Order) (mark later : ℕ) (now by : Bool) → nat_le due.0 mark ≡ now → nat_le due.0 later ≡ by
    → mark ≤ later → ArePast earlier mark
    → told_fore (if now then None else Some (record { edition = edition; due = due })) (if now then edition else fore_at earlier mark) later
    ≡ (if by then edition else fore_at earlier later)
arm-told edition due earlier mark later true true p q h past = refl
arm-told edition due earlier mark later true false p q h past = absurd (grind (arith, nat_tests))
arm-told edition due earlier mark later false true p q h past = rw q refl
arm-told edition due earlier mark later false false p q h past = rw q (past-same earlier mark later h past)

pub told-fore_at : (orders : List Order) (mark later : ℕ) → Settled orders mark → mark ≤ later
    → told_fore (to_come (last_arm orders) mark) (fore_at orders mark) later ≡ fore_at orders later
told-fore_at [] mark later settled h = refl
told-fore_at (Load command edition ∷ earlier) mark later settled h =
    ap (λ (armed : Option Armed). told_fore armed (fore_at earlier mark) later) (past-to_come earlier mark settled) ∙ past-same earlier mark later h settled
told-fore_at (Arm command edition due ∷ earlier) mark later settled h = arm-told edition due earlier mark later _ _ refl refl h settled

-- the test that such an Arm passes
unseen-true : (status : Status) (mark : ℕ) (command : Command) (edition : EditionNo) (due : Mark) → status.last.0 < command.0 → status.mark.0 < due.0 → due.0 ≤ mark
    → is_unseen status mark (Arm command edition due) ≡ true
unseen-true status mark command edition due a b c =
    let p : nat_lt status.last.0 command.0 ≡ true = grind (arith, nat_tests) in
    let q : nat_lt status.mark.0 due.0 ≡ true = grind (arith, nat_tests) in
    let r : nat_le due.0 mark ≡ true = grind (arith, nat_tests) in
    rw (p, q, r) refl

-- where it stands among the orders, one of them passes the test
pub has_unseen-among : (status : Status) (mark : ℕ) (orders : List Order) (command : Command) (edition : EditionNo) (due : Mark)
    → IsAmong (Arm command edition due) orders → status.last.0 < command.0 → status.mark.0 < due.0 → due.0 ≤ mark
    → list_any (is_unseen status mark) orders ≡ true
has_unseen-among status mark [] command edition due among a b c = absurd among
has_unseen-among status mark (order ∷ earlier) command edition due (inl same) a b c =
    let p : is_unseen status mark order ≡ true = ap (is_unseen status mark) (sym same) ∙ unseen-true status mark command edition due a b c in
    rw p refl
has_unseen-among status mark (order ∷ earlier) command edition due (inr among) a b c =
    or_right (is_unseen status mark order) (list_any (is_unseen status mark) earlier) (has_unseen-among status mark earlier command edition due among a b c)

-- one order more makes the edition unknown, or changes nothing
either_unseen : (a b : Bool) (x : Option EditionNo) → ((if a || b then None else x) ≡ None) ⊎ ((if a || b then None else x) ≡ (if b then None else x))
either_unseen true b x = inl refl
either_unseen false b x = inr refl

pub known-more : (status : Status) (order : Order) (orders : List Order) (mark : ℕ)
    → (known (Some status) (order ∷ orders) mark ≡ None) ⊎ (known (Some status) (order ∷ orders) mark ≡ known (Some status) orders mark)
known-more status order orders mark =
    either_unseen (is_unseen status mark order) (list_any (is_unseen status mark) orders) (Some (told_fore status.armed status.fore mark))
