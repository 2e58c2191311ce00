-- The edition to which a centre of sites apart goes back when it starts: no file of its own keeps it, it is read off the orders. Lists
-- have the latest first.
use Rattle.std.specs.Prelude.{ℕ, max, nat_lt, if◌then◌else◌, map, List, [], ◌∷◌, is_some, Option, Some, None}
use Rattle.bt_frame.specs.declared.numbers.EditionNo.{EditionNo}
use Rattle.bt_demand.specs.Plan.{empty_plan}
use Rattle.bt_demand.specs.declared.plan.Plan.{Plan}
use Rattle.bt_air.specs.declared.order.Order.{Order}
use Rattle.bt_air.specs.declared.order.Order.TheVariants.{Load}
use Rattle.bt_air.specs.Orders.{edition_ordered}
use Rattle.bt_machines.specs.Plans.{plan_of}

-- the newest edition of these orders, or 0
abbrev pub newest_ordered : List Order → ℕ
newest_ordered [] = 0
newest_ordered (order ∷ earlier) = max (edition_ordered order).0 (newest_ordered earlier)

-- the edition of the last order, where an order before it is of a newer one
abbrev pub older_last : List Order → Option EditionNo
older_last [] = None
older_last (last ∷ before) = if nat_lt (edition_ordered last).0 (newest_ordered before) then Some (edition_ordered last) else None

-- an edition, where it has a plan
abbrev pub if_installed : List Plan → Option EditionNo → Option EditionNo
if_installed plans None = None
if_installed plans (Some edition) = if is_some (plan_of plans edition) then Some edition else None

-- The edition to which a centre goes back that starts with these plans and orders. Where its last order is of an older edition than one
-- before it, an operator had taken the newer plan off the air, and it does not return by itself. Else the centre goes ahead.
abbrev pub back_lasting : List Plan → List Order → Option EditionNo
back_lasting plans orders = if_installed plans (older_last orders)

-- plans of these editions, for a worked row
abbrev pub plans_numbered : List ℕ → List Plan
plans_numbered editions = map (λ (n : ℕ). record empty_plan { edition = record { 0 = n } }) editions

-- orders of these editions, for a worked row
abbrev pub orders_numbered : List ℕ → List Order
orders_numbered editions = map (λ (n : ℕ). Load (record { 0 = 1 }) (record { 0 = n })) editions
