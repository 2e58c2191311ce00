-- Orders of which each Arm is due: what they arm, and what they put in front.
use Rattle.std.proofs.Common.{◌≡◌, ℕ, ◌≤◌, nat_le, true, List, [], ◌∷◌, None, refl, arith}
use Rattle.std.proofs.lemmas.Bool.Decides.{nat_tests}
use Rattle.bt_air.specs.declared.order.Order.{Order}
use Rattle.bt_air.specs.declared.order.Order.TheVariants.{Load, Arm}
use Rattle.bt_air.specs.Orders.{last_arm, to_come, fore_at}
use Rattle.bt_machines.specs.Orders.{edition_of}

-- each Arm of the orders is due by this superframe
abbrev pub ArePast : List Order → ℕ → Type 0
ArePast [] mark = Unit {0}
ArePast (Load command edition ∷ earlier) mark = ArePast earlier mark
ArePast (Arm command edition due ∷ earlier) mark = (due.0 ≤ mark) × ArePast earlier mark

-- what is past stays past
pub past-later : (orders : List Order) (mark later : ℕ) → mark ≤ later → ArePast orders mark → ArePast orders later
past-later [] mark later h past = tt
past-later (Load command edition ∷ earlier) mark later h past = past-later earlier mark later h past
past-later (Arm command edition due ∷ earlier) mark later h past = let d : due.0 ≤ mark = past.0 in (omega arith, past-later earlier mark later h past.1)

-- where all Arms are past, none is to come
pub past-to_come : (orders : List Order) (mark : ℕ) → ArePast orders mark → to_come (last_arm orders) mark ≡ None
past-to_come [] mark past = refl
past-to_come (Load command edition ∷ earlier) mark past = past-to_come earlier mark past
past-to_come (Arm command edition due ∷ earlier) mark past = let h : due.0 ≤ mark = past.0 in let e : nat_le due.0 mark ≡ true = grind (arith, nat_tests) in rw e refl

-- where all Arms are past, the last of them is in front
pub past-fore_at : (orders : List Order) (mark : ℕ) → ArePast orders mark → fore_at orders mark ≡ edition_of (last_arm orders)
past-fore_at [] mark past = refl
past-fore_at (Load command edition ∷ earlier) mark past = past-fore_at earlier mark past
past-fore_at (Arm command edition due ∷ earlier) mark past = let h : due.0 ≤ mark = past.0 in let e : nat_le due.0 mark ≡ true = grind (arith, nat_tests) in rw e refl
