-- A world opens with the plans and the orders of changes that follow.
use Rattle.std.proofs.Common.{◌≡◌, ℕ, ◌+◌, ◌-◌, ◌<◌, ◌≤◌, ◌==◌, ◌||◌, Bool, true, false, List, [], ◌∷◌, ◌++◌, length, length-append, reverse, suc, take, get_or, All, Option, Some, None, refl, sym, ap, ◌∙◌, subst, append_assoc, arith}
use Rattle.std.specs.Prelude.{IsSome, option_map, slice_get, unwrap_or}
use Rattle.std.specs.List.{filter_map, list_any}
use Rattle.std.proofs.Math.Bool.{or_comm}
use Rattle.std.proofs.Math.Seq.{get_or-append_seam, take-suc}
use Rattle.std.proofs.lemmas.List.{append-nil, get_or-reverse, length-reverse, reverse-append}
use Rattle.std.proofs.lemmas.List.Elements.{All-cons, All-nil, filter_map-append}
use Rattle.std.proofs.lemmas.List.Folds.{list_any-append}
use Rattle.std.proofs.lemmas.Option.{slice_get-get_or}
use Rattle.bt_frame.specs.declared.numbers.Command.{Command}
use Rattle.bt_frame.specs.declared.numbers.EditionNo.{EditionNo}
use Rattle.bt_net.specs.Network.{Net}
use Rattle.bt_demand.specs.declared.plan.Plan.{Plan}
use Rattle.bt_demand.specs.Flyable.{IsFlyable}
use Rattle.bt_air.specs.declared.order.Order.{Order}
use Rattle.bt_air.specs.declared.order.Order.TheVariants as order
use Rattle.bt_air.specs.Orders.{command_of, edition_ordered}
use Rattle.bt_journal.specs.declared.call.Change.{Change}
use Rattle.bt_journal.specs.declared.call.Change.TheVariants as change
use Rattle.bt_history.specs.Causes.{CanCome, FollowFrom, Follows, IsInTurn}
use Rattle.bt_demand.specs.Plan.{empty_plan}
use Rattle.bt_history.specs.Changes.{is_installed, last_command, newest, order_in, orders, plan_in, plans}
use Rattle.bt_machines.specs.Centre.{AreNumbered}
use Rattle.bt_site.specs.Fits.{HasPlan, IsInTime, IsOpening}
use Rattle.bt_machines.specs.Plans.{StartsEmpty, newest_of, first_or, plan_of}
use Rattle.bt_world.specs.Life.{opening_of}
use Rattle.bt_round.proofs.Installed.{newest-install}

-- what holds of the plans and the orders of changes, the latest first
record Opens (changes : List Change) (installed : List Plan) (placed : List Order) : Type 0 where
  plans_are : installed ≡ reverse (plans changes)
  orders_are : placed ≡ reverse (orders changes)
  starts : StartsEmpty installed
  last : newest_of installed ≡ (newest changes).edition
  numbered : AreNumbered placed
  planned : All (HasPlan installed) placed
  in_time : All IsInTime placed

reverse-last : {X : Type 0} (xs : List X) (x : X) → reverse (xs ++ x ∷ []) ≡ x ∷ reverse xs
reverse-last {X} xs x = reverse-append xs (x ∷ [])

plans-push : (changes : List Change) (one : Change) → plans (changes ++ one ∷ []) ≡ plans changes ++ filter_map plan_in (one ∷ [])
plans-push changes one = ap (λ (all : List Plan). empty_plan ∷ all) (filter_map-append plan_in changes (one ∷ []))

orders-push : (changes : List Change) (one : Change) → orders (changes ++ one ∷ []) ≡ orders changes ++ filter_map order_in (one ∷ [])
orders-push changes one = filter_map-append order_in changes (one ∷ [])

newest-same : (changes : List Change) (one : Change) → plans (changes ++ one ∷ []) ≡ plans changes → newest (changes ++ one ∷ []) ≡ newest changes
newest-same changes one is = ap (λ (l : List Plan). get_or l (length l - 1) empty_plan) is

-- a newer plan joins
starts-more : (plan : Plan) (all : List Plan) → StartsEmpty all → (newest_of all).0 < plan.edition.0 → StartsEmpty (plan ∷ all)
starts-more plan [] starts newer = absurd starts
starts-more plan (last ∷ rest) starts newer = (newer, starts)

some-first : (found : Option Plan) (edition : EditionNo) (later : Plan) → IsSome found → IsSome (first_or found edition later)
some-first (Some plan) edition later is = refl
some-first None edition later is = absurd cc

planned-more : (plan : Plan) (all : List Plan) (one : Order) → HasPlan all one → HasPlan (plan ∷ all) one
planned-more plan all (order.Load command edition) is = some-first (plan_of all edition) edition plan is
planned-more plan all (order.Arm command edition due) is = some-first (plan_of all edition) edition plan is

some-here : (found : Option Plan) (edition : EditionNo) (later : Plan) → (later.edition.0 == edition.0) ≡ true → IsSome (first_or found edition later)
some-here (Some plan) edition later is = refl
some-here None edition later is = rw is refl

found-by : (later : Plan) (earlier : List Plan) (edition : EditionNo) (here : Bool) → (later.edition.0 == edition.0) ≡ here
    → (list_any (λ (plan : Plan). plan.edition.0 == edition.0) earlier ≡ true → IsSome (plan_of earlier edition))
    → (here || list_any (λ (plan : Plan). plan.edition.0 == edition.0) earlier) ≡ true → IsSome (plan_of (later ∷ earlier) edition)
found-by later earlier edition true here rest is = some-here (plan_of earlier edition) edition later here
found-by later earlier edition false here rest is = some-first (plan_of earlier edition) edition later (rest is)

-- a plan of an edition is found where one is there
found : (all : List Plan) (edition : EditionNo) → list_any (λ (plan : Plan). plan.edition.0 == edition.0) all ≡ true → IsSome (plan_of all edition)
found [] edition is = absurd cc
found (later ∷ earlier) edition is = found-by later earlier edition _ refl (found earlier edition) is

any-reverse : (test : Plan → Bool) (all : List Plan) → list_any test (reverse all) ≡ list_any test all
any-reverse test [] = refl
any-reverse test (plan ∷ rest) =
    ap (list_any test) (reverse-append (plan ∷ []) rest)
    ∙ list_any-append test (reverse rest) (plan ∷ [])
    ∙ ap (λ (b : Bool). b || list_any test (plan ∷ [])) (any-reverse test rest)
    ∙ or_comm (list_any test rest) (list_any test (plan ∷ []))
    ∙ sym (list_any-append test (plan ∷ []) rest)

planned-new : (changes : List Change) (one : Order) → is_installed changes (edition_ordered one) ≡ true → HasPlan (reverse (plans changes)) one
planned-new changes (order.Load command edition) is = found (reverse (plans changes)) edition (any-reverse (λ (plan : Plan). plan.edition.0 == edition.0) (plans changes) ∙ is)
planned-new changes (order.Arm command edition due) is = found (reverse (plans changes)) edition (any-reverse (λ (plan : Plan). plan.edition.0 == edition.0) (plans changes) ∙ is)

in-time : (one : Order) → CanCome one → IsInTime one
in-time (order.Load command edition) can = tt
in-time (order.Arm command edition due) can = omega (arith, can)

abbrev none : Command
none = record { 0 = 0 }

-- the command of the last order, where the orders are numbered
last-number : (placed : List Order) → AreNumbered placed → (unwrap_or (option_map command_of (slice_get (reverse placed) (length (reverse placed) - 1))) none).0 ≡ length placed
last-number [] numbered = refl
last-number (one ∷ earlier) numbered =
    let all = reverse earlier ++ one ∷ [] in
    let n : length all - 1 ≡ length (reverse earlier) = omega (arith, length-append (reverse earlier) (one ∷ [])) in
    let here : slice_get all (length all - 1) ≡ Some one =
    ap (slice_get all) n ∙ slice_get-get_or all (length (reverse earlier)) one (omega (arith, length-append (reverse earlier) (one ∷ []))) ∙ ap Some (get_or-append_seam (reverse earlier) one [] one) in
    ap (λ (l : List Order). (unwrap_or (option_map command_of (slice_get l (length l - 1))) none).0) (reverse-append (one ∷ []) earlier)
    ∙ ap (λ (o : Option Order). (unwrap_or (option_map command_of o) none).0) here
    ∙ numbered.0 ∙ omega arith

reverse-twice : (all : List Order) → reverse (reverse all) ≡ all
reverse-twice [] = refl
reverse-twice (one ∷ rest) = ap reverse (reverse-append (one ∷ []) rest) ∙ reverse-last (reverse rest) one ∙ ap (λ (l : List Order). one ∷ l) (reverse-twice rest)

opens-more : (net : Net) (before : List Change) (one : Change) (installed : List Plan) (placed : List Order) → FollowFrom net before (one ∷ []) → Opens before installed placed
    → Opens (before ++ one ∷ []) (reverse (plans (before ++ one ∷ []))) (reverse (orders (before ++ one ∷ [])))
opens-more net before (change.Edit edit) installed placed follow so =
    let p : plans (before ++ change.Edit edit ∷ []) ≡ plans before = plans-push before (change.Edit edit) ∙ append-nil (plans before) in
    let o : orders (before ++ change.Edit edit ∷ []) ≡ orders before = orders-push before (change.Edit edit) ∙ append-nil (orders before) in
    let i : installed ≡ reverse (plans (before ++ change.Edit edit ∷ [])) = so.plans_are ∙ ap reverse (sym p) in
    let q : placed ≡ reverse (orders (before ++ change.Edit edit ∷ [])) = so.orders_are ∙ ap reverse (sym o) in
    record {
      plans_are = refl;
      orders_are = refl;
      starts = subst StartsEmpty i so.starts;
      last = ap newest_of (sym i) ∙ so.last ∙ ap (λ (plan : Plan). plan.edition) (sym (newest-same before (change.Edit edit) p));
      numbered = subst AreNumbered q so.numbered;
      planned = subst (λ (l : List Order). All (HasPlan (reverse (plans (before ++ change.Edit edit ∷ [])))) l) q (subst (λ (l : List Plan). All (HasPlan l) placed) i so.planned);
      in_time = subst (All IsInTime) q so.in_time;
    }
opens-more net before (change.Install plan) installed placed follow so =
    let one = change.Install plan in
    let p : reverse (plans (before ++ one ∷ [])) ≡ plan ∷ installed = ap reverse (plans-push before one) ∙ reverse-last (plans before) plan ∙ ap (λ (l : List Plan). plan ∷ l) (sym so.plans_are) in
    let o : orders (before ++ one ∷ []) ≡ orders before = orders-push before one ∙ append-nil (orders before) in
    let q : placed ≡ reverse (orders (before ++ one ∷ [])) = so.orders_are ∙ ap reverse (sym o) in
    record {
      plans_are = refl;
      orders_are = refl;
      starts = subst StartsEmpty (sym p) (starts-more plan installed so.starts (omega (arith, follow.1.0, ap (λ (e : EditionNo). e.0) so.last)));
      last = ap newest_of p ∙ ap (λ (r : Plan). r.edition) (sym (newest-install before plan));
      numbered = subst AreNumbered q so.numbered;
      planned = subst (λ (l : List Order). All (HasPlan (reverse (plans (before ++ one ∷ [])))) l) q
          (subst (λ (l : List Plan). All (HasPlan l) placed) (sym p) (λ k d within. planned-more plan installed (get_or placed k d) (so.planned k d within)));
      in_time = subst (All IsInTime) q so.in_time;
    }
opens-more net before (change.Order order) installed placed follow so =
    let one = change.Order order in
    let p : plans (before ++ one ∷ []) ≡ plans before = plans-push before one ∙ append-nil (plans before) in
    let i : installed ≡ reverse (plans (before ++ one ∷ [])) = so.plans_are ∙ ap reverse (sym p) in
    let q : reverse (orders (before ++ one ∷ [])) ≡ order ∷ placed = ap reverse (orders-push before one) ∙ reverse-last (orders before) order ∙ ap (λ (l : List Order). order ∷ l) (sym so.orders_are) in
    let number : (last_command before).0 ≡ length placed =
    ap (λ (l : List Order). (unwrap_or (option_map command_of (slice_get l (length l - 1))) none).0) (sym (reverse-twice (orders before)) ∙ ap reverse (sym so.orders_are)) ∙ last-number placed so.numbered in
    let turn : IsInTurn before order = follow.1.0 in
    record {
      plans_are = refl;
      orders_are = refl;
      starts = subst StartsEmpty i so.starts;
      last = ap newest_of (sym i) ∙ so.last ∙ ap (λ (plan : Plan). plan.edition) (sym (newest-same before one p));
      numbered = subst AreNumbered (sym q) (turn ∙ ap (λ n. n + 1) number, so.numbered);
      planned = subst (λ (l : List Order). All (HasPlan (reverse (plans (before ++ one ∷ [])))) l) (sym q)
          (subst (λ (l : List Plan). All (HasPlan l) (order ∷ placed)) i
          (All-cons (HasPlan installed) order placed (subst (λ (l : List Plan). HasPlan l order) (sym so.plans_are) (planned-new before order follow.1.1)) so.planned));
      in_time = subst (All IsInTime) (sym q) (All-cons IsInTime order placed (in-time order follow.0) so.in_time);
    }

opens-from : (net : Net) (before changes : List Change) (installed : List Plan) (placed : List Order) → FollowFrom net before changes → Opens before installed placed
    → Opens (before ++ changes) (reverse (plans (before ++ changes))) (reverse (orders (before ++ changes)))
opens-from net before [] installed placed follow so =
    subst (λ (c : List Change). Opens c (reverse (plans c)) (reverse (orders c))) (sym (append-nil before))
    (subst (λ (l : List Order). Opens before (reverse (plans before)) l) so.orders_are (subst (λ (l : List Plan). Opens before l placed) so.plans_are so))
opens-from net before (first ∷ rest) installed placed follow so =
    subst (λ (c : List Change). Opens c (reverse (plans c)) (reverse (orders c))) (append_assoc before (first ∷ []) rest)
    (opens-from net (before ++ first ∷ []) rest _ _ follow.2 (opens-more net before first installed placed (follow.0, follow.1, tt) so))

all-reverse : {X : Type 0} (P : X → Type 0) (xs : List X) → All P xs → All P (reverse xs)
all-reverse {X} P xs all k d within =
    let inside : k < length xs = omega (arith, within, length-reverse xs) in
    subst P (sym (get_or-reverse xs k d inside)) (all (length xs - 1 - k) d (omega (arith, inside)))

-- a world may open with the plans and the orders of changes that follow
pub opens_with : (net : Net) (changes : List Change) → Follows net changes → All (IsFlyable net) (plans changes) → length (orders changes) ≤ 67108864
    → IsOpening (opening_of net (plans changes) (orders changes))
opens_with net changes follow fly few =
    let so = opens-from net [] changes (empty_plan ∷ []) [] follow (record {
      plans_are = refl;
      orders_are = refl;
      starts = refl;
      last = refl;
      numbered = tt;
      planned = All-nil (HasPlan (empty_plan ∷ []));
      in_time = All-nil IsInTime;
    }) in
    record {
      starts = so.starts;
      fit = all-reverse (IsFlyable net) (plans changes) fly;
      numbered = so.numbered;
      planned = so.planned;
      in_time = so.in_time;
      few = omega (arith, few, length-reverse (orders changes));
    }

-- the same of copies
pub opens_with_copies : (net : Net) (changes : List Change) (installed : List Plan) (placed : List Order) → Follows net changes → All (IsFlyable net) (plans changes)
    → length (orders changes) ≤ 67108864 → installed ≡ plans changes → placed ≡ orders changes → IsOpening (opening_of net installed placed)
opens_with_copies net changes installed placed follow fly few plans_are orders_are =
    subst (λ (l : List Order). IsOpening (opening_of net installed l)) (sym orders_are)
    (subst (λ (l : List Plan). IsOpening (opening_of net l (orders changes))) (sym plans_are) (opens_with net changes follow fly few))

one_more : (n : ℕ) → n + 1 ≡ suc n
one_more n = omega arith

-- one more of a list
pub next_taken : {X : Type 0} (all new so_far : List X) (place : ℕ) (one : X) → new ≡ so_far ++ one ∷ [] → so_far ≡ take place all → place < length all → one ≡ get_or all place one
    → new ≡ take (place + 1) all
next_taken {X} all new so_far place one is before within here =
    is ∙ ap (λ (l : List X). l ++ one ∷ []) before ∙ sym (ap (λ n. take n all) (one_more place) ∙ take-suc all place one within ∙ ap (λ (x : X). take place all ++ x ∷ []) (sym here))
