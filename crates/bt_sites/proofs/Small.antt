-- The numbers of a run of sites are those of the world behind it.
use Rattle.std.proofs.Common.{◌≡◌, ℕ, ◌+◌, ◌≤◌, true, false, List, ◌∷◌, length, All, Option, Some, None, arith, subst}
use Rattle.std.proofs.lemmas.List.Elements.{All-tail}
use Rattle.bt_demand.specs.declared.plan.Plan.{Plan}
use Rattle.bt_air.specs.declared.order.Order.{Order}
use Rattle.bt_air.specs.Range.{IsWord}
use Rattle.bt_machines.specs.Plans.{IsStored}
use Rattle.bt_machines.specs.CentreSteps.{with_wanted}
use Rattle.bt_site.specs.Event.{Opening, Happening}
use Rattle.bt_site.specs.Fits.{AreStored}
use Rattle.bt_site.specs.World.{orders, plans}
use Rattle.bt_sites.specs.Fits.{AreSmall, order_count}
use Rattle.bt_sites.specs.Sites.{plans_after}
use Rattle.bt_sites.specs.Step.{Step, Begins, SatelliteHears, Starts, TerminalHears, CentreHears, Turns, Places, Installs, Restarts, StandbyStarts, StandbyHears, Seconds}

word-less : (n : ℕ) → IsWord (n + 1) → IsWord n
word-less n word = (omega arith, omega (arith, word.1))

word-below : (n m : ℕ) → n ≤ m → IsWord m → IsWord n
word-below n m le word = (omega arith, omega (arith, le, word.1))

pub small-before : (o : Opening) (before : List Step) (step : Step) → AreSmall o (step ∷ before) → AreSmall o before
small-before o before Begins small = record { plans = small.plans; orders = small.orders }
small-before o before (SatelliteHears bytes) small = record { plans = small.plans; orders = small.orders }
small-before o before (Starts number) small = record { plans = small.plans; orders = small.orders }
small-before o before (TerminalHears number mark bytes) small = record { plans = small.plans; orders = small.orders }
small-before o before (CentreHears mark bytes) small = record { plans = small.plans; orders = small.orders }
small-before o before (Turns mark target) small = record { plans = small.plans; orders = small.orders }
small-before o before Places small = record { plans = small.plans; orders = word-less (order_count o before) small.orders }
small-before o before (Installs plan) small = record { plans = All-tail IsStored plan (plans_after o before) small.plans; orders = small.orders }
small-before o before (Restarts true) small = record { plans = small.plans; orders = word-less (order_count o before) small.orders }
small-before o before (Restarts false) small = record { plans = small.plans; orders = small.orders }
small-before o before (StandbyHears mark bytes) small = record { plans = small.plans; orders = small.orders }
small-before o before (Seconds mark) small = record { plans = small.plans; orders = small.orders }
small-before o before StandbyStarts small = record { plans = small.plans; orders = small.orders }

-- one order more, at most
pub wanted-one : (next : Option Order) (all : List Order) (n : ℕ) → length all ≤ n → length (with_wanted next all) ≤ n + 1
wanted-one None all n few = omega (arith, few)
wanted-one (Some order) all n few = omega (arith, few)

pub none-more : (n : ℕ) → n ≤ n
none-more n = omega arith

pub stored-behind : (o : Opening) (steps : List Step) (past : List Happening) → AreSmall o steps → plans_after o steps ≡ plans o past → length (orders o past) ≤ order_count o steps → AreStored o past
stored-behind o steps past small same few = record {
  plans = subst (λ (all : List Plan). All IsStored all) same small.plans;
  orders = word-below (length (orders o past)) (order_count o steps) few small.orders;
}
