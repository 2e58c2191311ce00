-- The orders that a status knows of need not be walked: none of them is unseen.
use Rattle.std.proofs.Common.{◌≡◌, ℕ, ◌+◌, ◌≤◌, ◌<◌, ◌++◌, ◌||◌, ⊎_elim, Bool, false, List, [], ◌∷◌, length, reverse, drop, Some, nat_lt, refl, sym, ◌∙◌, ap, arith}
use Rattle.std.specs.List.{list_any}
use Rattle.std.proofs.lemmas.Bool.{cases_lt}
use Rattle.std.proofs.lemmas.Bool.Decides.{nat_tests}
use Rattle.std.proofs.Math.Bool.{or_comm, or-false}
use Rattle.std.proofs.lemmas.List.{drop-append-le, drop_all, length-append, length-reverse, reverse-append}
use Rattle.std.proofs.lemmas.List.Folds.{list_any-append}
use Rattle.bt_air.specs.Orders.{command_of}
use Rattle.bt_air.specs.declared.order.Order.{Order}
use Rattle.bt_air.specs.declared.order.Order.TheVariants.{Load, Arm}
use Rattle.bt_air.specs.declared.order.Status.{Status}
use Rattle.bt_machines.specs.Centre.{AreNumbered}
use Rattle.bt_machines.specs.Known.{is_unseen, known}

-- an order up to the last command is not unseen
seen : (status : Status) (mark : ℕ) (order : Order) → (command_of order).0 ≤ status.last.0 → is_unseen status mark order ≡ false
seen status mark (Load command edition) before = refl
seen status mark (Arm command edition due) before = let not-later : nat_lt status.last.0 command.0 ≡ false = grind (arith, nat_tests) in rw not-later refl

-- with one order more, up to the last command
more_seen : (status : Status) (mark : ℕ) (order : Order) (earlier : List Order) → (command_of order).0 ≡ length earlier + 1
    → list_any (is_unseen status mark) (drop status.last.0 (reverse earlier)) ≡ list_any (is_unseen status mark) earlier → length earlier + 1 ≤ status.last.0
    → list_any (is_unseen status mark) (drop status.last.0 (reverse earlier ++ order ∷ [])) ≡ list_any (is_unseen status mark) (order ∷ earlier)
more_seen status mark order earlier number so_far past =
    let long : length (reverse earlier ++ order ∷ []) ≡ length earlier + 1 = length-append (reverse earlier) (order ∷ []) ∙ ap (λ (n : ℕ). n + 1) (length-reverse earlier) in
    let none : drop status.last.0 (reverse earlier) ≡ [] = drop_all status.last.0 (reverse earlier) (rw (length-reverse earlier) (omega arith)) in
    let all : drop status.last.0 (reverse earlier ++ order ∷ []) ≡ [] = drop_all status.last.0 (reverse earlier ++ order ∷ []) (rw long past) in
    let late : (command_of order).0 ≤ status.last.0 = omega (arith, number) in
    rw (all, seen status mark order late) (ap (list_any (is_unseen status mark)) (sym none) ∙ so_far)

-- with one order more, behind it
more_unseen : (status : Status) (mark : ℕ) (order : Order) (earlier : List Order)
    → list_any (is_unseen status mark) (drop status.last.0 (reverse earlier)) ≡ list_any (is_unseen status mark) earlier → status.last.0 < length earlier + 1
    → list_any (is_unseen status mark) (drop status.last.0 (reverse earlier ++ order ∷ [])) ≡ list_any (is_unseen status mark) (order ∷ earlier)
more_unseen status mark order earlier so_far within =
    let test = is_unseen status mark in
    let below : status.last.0 ≤ length (reverse earlier) = rw (length-reverse earlier) (omega arith) in
    ap (list_any test) (drop-append-le status.last.0 (reverse earlier) (order ∷ []) below)
    ∙ (list_any-append test (drop status.last.0 (reverse earlier)) (order ∷ [])
    ∙ (ap (λ (b : Bool). b || (test order || false)) so_far
    ∙ (or_comm (list_any test earlier) (test order || false)
    ∙ ap (λ (b : Bool). b || list_any test earlier) (or-false (test order)))))

-- behind the last command that a status knows of stand all unseen orders
pub behind-last : (status : Status) (mark : ℕ) (orders : List Order) → AreNumbered orders
    → list_any (is_unseen status mark) (drop status.last.0 (reverse orders)) ≡ list_any (is_unseen status mark) orders
behind-last status mark [] numbered = ap (list_any (is_unseen status mark)) (drop_all status.last.0 [] (omega arith))
behind-last status mark (order ∷ earlier) numbered =
    let so_far = behind-last status mark earlier numbered.1 in
    ap (λ (l : List Order). list_any (is_unseen status mark) (drop status.last.0 l)) (reverse-append (order ∷ []) earlier)
    ∙ ⊎_elim (λ (h : status.last.0 < length earlier + 1). more_unseen status mark order earlier so_far h)
    (λ (h : length earlier + 1 ≤ status.last.0). more_seen status mark order earlier numbered.0 so_far h) (cases_lt status.last.0 (length earlier + 1))

-- so the edition known by them is the one known by all orders
pub known-behind : (status : Status) (mark : ℕ) (orders : List Order) → AreNumbered orders
    → known (Some status) (drop status.last.0 (reverse orders)) mark ≡ known (Some status) orders mark
known-behind status mark orders numbered = rw (behind-last status mark orders numbered) refl
