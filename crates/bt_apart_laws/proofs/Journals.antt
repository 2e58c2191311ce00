-- The plans and the orders of a journal with one change more, the latest first.
use Rattle.std.proofs.Common.{◌≡◌, ℕ, ◌-◌, ◌<◌, List, [], ◌∷◌, ◌++◌, length, get_or, reverse, All, refl, sym, ap, ◌∙◌, subst, arith}
use Rattle.std.specs.List.{filter_map}
use Rattle.std.proofs.lemmas.List.{append-nil, get_or-reverse, length-reverse, reverse-append}
use Rattle.std.proofs.lemmas.List.Elements.{filter_map-append}
use Rattle.bt_demand.specs.declared.plan.Plan.{Plan}
use Rattle.bt_demand.specs.Plan.{empty_plan}
use Rattle.bt_air.specs.declared.order.Order.{Order}
use Rattle.bt_machines.specs.Plans.{StartsEmpty, newest_of}
use Rattle.bt_journal.specs.declared.call.Change.{Change}
use Rattle.bt_journal.specs.declared.call.Change.TheVariants as change
use Rattle.bt_journal.specs.declared.call.Edit.{Edit}
use Rattle.bt_history.specs.Changes.{newest, order_in, orders, plan_in, plans}

-- the plans and the orders, the latest first
abbrev pub plans_over : List Change → List Plan
plans_over changes = reverse (plans changes)

abbrev pub orders_over : List Change → List Order
orders_over changes = reverse (orders changes)

last-first : {X : Type 0} (xs : List X) (x : X) → reverse (xs ++ x ∷ []) ≡ x ∷ reverse xs
last-first {X} xs x = reverse-append xs (x ∷ [])

plans-push : (changes : List Change) (one : Change) → plans (changes ++ one ∷ []) ≡ plans changes ++ filter_map plan_in (one ∷ [])
plans-push changes one = ap (λ (all : List Plan). empty_plan ∷ all) (filter_map-append plan_in changes (one ∷ []))

orders-push : (changes : List Change) (one : Change) → orders (changes ++ one ∷ []) ≡ orders changes ++ filter_map order_in (one ∷ [])
orders-push changes one = filter_map-append order_in changes (one ∷ [])

-- an edit installs and orders nothing
pub plans-edit : (changes : List Change) (edit : Edit) → plans_over changes ≡ plans_over (changes ++ change.Edit edit ∷ [])
plans-edit changes edit = ap reverse (sym (plans-push changes (change.Edit edit) ∙ append-nil (plans changes)))

pub orders-edit : (changes : List Change) (edit : Edit) → orders_over changes ≡ orders_over (changes ++ change.Edit edit ∷ [])
orders-edit changes edit = ap reverse (sym (orders-push changes (change.Edit edit) ∙ append-nil (orders changes)))

-- a plan stands first among the plans
pub plans-install : (changes : List Change) (plan : Plan) → plan ∷ plans_over changes ≡ plans_over (changes ++ change.Install plan ∷ [])
plans-install changes plan = sym (ap reverse (plans-push changes (change.Install plan)) ∙ last-first (plans changes) plan)

pub orders-install : (changes : List Change) (plan : Plan) → orders_over changes ≡ orders_over (changes ++ change.Install plan ∷ [])
orders-install changes plan = ap reverse (sym (orders-push changes (change.Install plan) ∙ append-nil (orders changes)))

-- and an order among the orders
pub plans-order : (changes : List Change) (one : Order) → plans_over changes ≡ plans_over (changes ++ change.Order one ∷ [])
plans-order changes one = ap reverse (sym (plans-push changes (change.Order one) ∙ append-nil (plans changes)))

pub orders-order : (changes : List Change) (one : Order) → one ∷ orders_over changes ≡ orders_over (changes ++ change.Order one ∷ [])
orders-order changes one = sym (ap reverse (orders-push changes (change.Order one)) ∙ last-first (orders changes) one)

-- the newest plan stands first
pub record BeginsWith (all : List Plan) (plan : Plan) : Type 0 where
  pub rest : List Plan
  pub is : all ≡ plan ∷ rest

first-of : (all : List Plan) → 0 < length all → BeginsWith all (get_or all 0 empty_plan)
first-of [] some = absurd (omega (arith, some))
first-of (plan ∷ rest) some = record { rest = rest; is = refl }

less-none : (n : ℕ) → n - 0 ≡ n
less-none n = omega arith

pub newest-first : (changes : List Change) → BeginsWith (plans_over changes) (newest changes)
newest-first changes =
    let all = plans changes in
    let here : get_or (reverse all) 0 empty_plan ≡ newest changes =
    get_or-reverse all 0 empty_plan (omega arith) ∙ ap (λ (n : ℕ). get_or all n empty_plan) (less-none (length all - 1)) in
    subst (λ (plan : Plan). BeginsWith (reverse all) plan) here (first-of (reverse all) (omega (arith, length-reverse all)))

pub newest-over : (changes : List Change) → newest_of (plans_over changes) ≡ (newest changes).edition
newest-over changes = ap newest_of (newest-first changes).is

pub all-over : {X : Type 0} (P : X → Type 0) (xs : List X) → All P xs → All P (reverse xs)
all-over {X} P xs all k d within =
    let inside : k < length xs = omega (arith, within, length-reverse xs) in
    subst P (sym (get_or-reverse xs k d inside)) (all (length xs - 1 - k) d (omega (arith, inside)))

-- a newer plan joins
pub starts-more : (all : List Plan) (plan : Plan) → StartsEmpty all → (newest_of all).0 < plan.edition.0 → StartsEmpty (plan ∷ all)
starts-more [] plan starts newer = absurd starts
starts-more (before ∷ rest) plan starts newer = (newer, starts)
