-- Which order joins the world at a restart, and which orders the world has along a run.
use Rattle.std.specs.Prelude.{◌≡◌, ◌⊎◌, ℕ, ◌<◌, ◌++◌, Bool, List, [], ◌∷◌, length, reverse}
use Rattle.bt_net.specs.Network.{Net}
use Rattle.bt_air.specs.declared.order.Order.{Order}
use Rattle.bt_journal.specs.declared.call.Change.{Change}
use Rattle.bt_history.specs.Changes.{orders}
use Rattle.bt_script.specs.declared.script.Item.{Item}
use Rattle.bt_script.specs.declared.script.Item.TheVariants as item
use Rattle.bt_round.specs.AirLines.{AirState, orders_in}
use Rattle.bt_centre.specs.Run.{IsJoining, PlaysItem, Stand, changes_at}

-- the orders that the world has, the latest first, are just those of the changes
abbrev pub HasOrders : Stand → Type 0
HasOrders stand = orders_in stand.air ≡ reverse (orders (changes_at stand))

-- this order joins those of the world, and nothing else does
abbrev pub JoinsOne : Stand → Order → Stand → Type 0
JoinsOne before order after = orders_in after.air ≡ order ∷ orders_in before.air

-- no order joins those of the world
abbrev pub JoinsNone : Stand → Stand → Type 0
JoinsNone before after = orders_in after.air ≡ orders_in before.air

-- the changes with which the next time begins have one order more than the world, the centre wanted the last of them, and it joins; or
-- it is not so, and none does
abbrev pub JoinsWanted : Stand → Stand → Type 0
JoinsWanted before after =
    ((joining : IsJoining before.air after.opening) × JoinsOne before joining.order after)
    ⊎ ((¬ (IsJoining before.air after.opening)) × JoinsNone before after)

-- the changes have more orders than the world
abbrev pub HaveMoreOrders : List Change → AirState → Type 0
HaveMoreOrders changes air = length (orders_in air) < length (orders changes)

-- the last order of the changes is this one
abbrev pub IsLastOrder : List Change → Order → Type 0
IsLastOrder changes order = (earlier : List Order) × (orders changes ≡ earlier ++ order ∷ [])

-- the changes with which the next time begins have more orders than the world, and the last of them joins; or they have no more, and
-- none does
abbrev pub JoinsAsTold : Stand → Stand → Type 0
JoinsAsTold before after =
    (HaveMoreOrders after.opening before.air × ((order : Order) × IsLastOrder after.opening order × JoinsOne before order after))
    ⊎ ((¬ (HaveMoreOrders after.opening before.air)) × JoinsNone before after)

-- the same where a part of a script is a restart
abbrev pub RestartJoins : (net : Net) → (tells : Bool) → (before : Stand) → (one : Item) → (text : List ℕ) → (after : Stand) → PlaysItem net tells before one text after → Type 0
RestartJoins net tells before (item.Round round) text after played = Unit {0}
RestartJoins net tells before item.Restart text after played = JoinsAsTold before after
RestartJoins net tells before (item.Heard line) text after played = Unit {0}

-- the world has just the orders of the changes before a part and behind it
abbrev pub PartHasOrders : (net : Net) → (tells : Bool) → (before : Stand) → (one : Item) → (text : List ℕ) → (after : Stand) → PlaysItem net tells before one text after → Type 0
PartHasOrders net tells before one text after played = HasOrders before × HasOrders after
