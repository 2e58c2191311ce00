-- A plan has at most one verdict for a demand.
use Rattle.std.proofs.Common.{◌≡◌, ℕ, ◌<◌, List, length, All, arith, inl, inr, sym, ap, ◌∙◌, subst, refl, rules}
use Rattle.std.specs.declared.cmp.Ordering.{Ordering}
use Rattle.std.specs.declared.cmp.Ordering.TheVariants.{Less, Equal, Greater}
use Rattle.std.proofs.lemmas.Bool.{cases_order, cases_lt}
use Rattle.std.proofs.lemmas.List.{get_or-take, length-take}
use Rattle.std.proofs.Math.ListN.{get_or-eq_default}
use Rattle.bt_frame.specs.declared.numbers.TermNo.{TermNo}
use Rattle.bt_frame.specs.declared.schedule.Schedule.{Schedule}
use Rattle.bt_net.specs.Network.{Net}
use Rattle.bt_matrix.specs.Good.{IsPermutation}
use Rattle.bt_demand.specs.declared.burst.Burst.{Burst}
use Rattle.bt_demand.specs.declared.demand.Link.{Link}
use Rattle.bt_demand.specs.declared.plan.Plan.{Plan}
use Rattle.bt_demand.specs.declared.verdict.Verdict.{Verdict}
use Rattle.bt_demand.specs.declared.verdict.Verdict.TheVariants.{Good, V1, V2, V3, V4, V5, V6, V7, V8}
use Rattle.bt_demand.specs.Burst.{Covers}
use Rattle.bt_demand.specs.Demand.{LinkEnds, IsDemand, units_of}
use Rattle.bt_demand.specs.Plan.{HasSwitchings, IsHeld}
use Rattle.bt_demand.specs.PlanVerdict.{AreApart, IsFirstMeeting, slots_sent, IsServed, IsFirstUnserved, HasGoodModes, IsPlanVerdict}
use Rattle.bt_demand.specs.Traffic.{matrix_of}
use Rattle.bt_demand.specs.Verdict.{IsFirstWithout}
use Rattle.bt_demand.proofs.FirstPlaces.{some_item, not_all, one_first}
use Rattle.bt_demand.proofs.Links.{Says, says}
use Rattle.bt_demand.proofs.OneVerdict.{one_sum, one_line, no_empty, no_other_sum}
use Rattle.bt_demand.proofs.PlanParts.{good_modes, good_apart, good_served}

-- a burst that meets one stands on the list
is_on_list : (net : Net) (bursts : List Burst) (first second : ℕ) → IsFirstMeeting net bursts first second → second < length bursts
is_on_list net bursts first second is = elim (cases_lt second (length bursts)) [
  | inl within ↦ within
  | inr past ↦
      let none : Burst = record { from = record { 0 = 0 }; to = record { 0 = 0 }; start = 0; length = 0 } in
      let covers = (is.meet none none).second in
      let slot = (is.meet none none).slot in
      let empty = subst (λ (b : Burst). Covers b slot) (get_or-eq_default bursts none past) covers in
      absurd (omega (arith, empty.before_end))
]

-- bursts that meet are not apart, not among those in front of another meeting
not_apart : (net : Net) (bursts : List Burst) (first second : ℕ) → IsFirstMeeting net bursts first second → AreApart net bursts → ⊥
not_apart net bursts first second is apart =
    let within = is_on_list net bursts first second is in
    let d = some_item bursts second within in
    apart first second d is.before within (is.meet d d)

not_in_front : (net : Net) (bursts : List Burst) (first second other later : ℕ) → second < later → IsFirstMeeting net bursts first second
    → IsFirstMeeting net bursts other later → ⊥
not_in_front net bursts first second other later before is after =
    let within = is_on_list net bursts first second is in
    let within_too = is_on_list net bursts other later after in
    let d = some_item bursts second within in
    let both = after.apart first second d is.before (omega (arith, length-take later bursts)) in
    let meet = is.meet d d in
    both (rw (get_or-take later bursts first d (omega (arith, is.before)), get_or-take later bursts second d before) meet)

-- the earliest that a burst meets is one
not_earlier : (net : Net) (bursts : List Burst) (first other second : ℕ) → first < other → IsFirstMeeting net bursts first second
    → IsFirstMeeting net bursts other second → ⊥
not_earlier net bursts first other second before is after =
    let within = is_on_list net bursts first second is in
    let d = some_item bursts second within in
    let apart = after.earliest d first d (omega (arith, length-take other bursts, after.before)) in
    apart (rw (get_or-take other bursts first d before) (is.meet d d))

one_second : (net : Net) (bursts : List Burst) (i j k l : ℕ) → IsFirstMeeting net bursts i j → IsFirstMeeting net bursts k l → j ≡ l
one_second net bursts i j k l a b = elim (cases_order j l) [
  | inl same ↦ same
  | inr order ↦ elim order [
    | inl before ↦ absurd (not_in_front net bursts i j k l before a b)
    | inr after ↦ absurd (not_in_front net bursts k l i j after b a)
  ]
]

one_meeting : (net : Net) (bursts : List Burst) (i j k : ℕ) → IsFirstMeeting net bursts i j → IsFirstMeeting net bursts k j → i ≡ k
one_meeting net bursts i j k a b = elim (cases_order i k) [
  | inl same ↦ same
  | inr order ↦ elim order [
    | inl before ↦ absurd (not_earlier net bursts i k j before a b)
    | inr after ↦ absurd (not_earlier net bursts k i j after b a)
  ]
]

-- there is one first link that is not served
not_served : (net : Net) (links : List Link) (bursts : List Burst) (from to : TermNo) (want have : ℕ) → IsFirstUnserved net links bursts from to want have
    → IsServed links bursts from to → ⊥
not_served net links bursts from to want have is served = is.differ (is.wanted ∙ sym served ∙ sym is.sent)

one_ends : (net : Net) (links : List Link) (bursts : List Burst) (a b : LinkEnds) (want have want_too have_too : ℕ) (order : Ordering) → Says order a b
    → IsFirstUnserved net links bursts a.0 a.1 want have → IsFirstUnserved net links bursts b.0 b.1 want_too have_too → a ≡ b
one_ends net links bursts a b want have want_too have_too Less before x y =
    absurd (not_served net links bursts a.0 a.1 want have x (y.earlier a.0 a.1 before))
one_ends net links bursts a b want have want_too have_too Equal same x y = same
one_ends net links bursts a b want have want_too have_too Greater after x y =
    absurd (not_served net links bursts b.0 b.1 want_too have_too y (x.earlier b.0 b.1 after))

-- faults of modes, of bursts and of links, against what the later verdicts have
no_bad : (net : Net) (schedule : Schedule) (mode : ℕ) → IsFirstWithout (λ m. IsPermutation (length net.beams) m.perm) schedule.modes mode → HasSwitchings net schedule → ⊥
no_bad net schedule mode first all = not_all (λ m. IsPermutation (length net.beams) m.perm) schedule.modes mode first all

no_unheld : (net : Net) (plan : Plan) (burst : ℕ) → IsFirstWithout (IsHeld net plan.schedule.modes) plan.bursts burst → All (IsHeld net plan.schedule.modes) plan.bursts → ⊥
no_unheld net plan burst first all = not_all (IsHeld net plan.schedule.modes) plan.bursts burst first all

-- what holds of a plan of each verdict, the good one by its parts
abbrev HasParts : Net → List Link → Plan → Verdict → Type 0
HasParts net links plan Good = HasGoodModes net links plan.schedule × AreApart net plan.bursts × All (IsHeld net plan.schedule.modes) plan.bursts × ((from to : TermNo) → IsServed links plan.bursts from to)
HasParts net links plan (V1 mode) = IsPlanVerdict net links plan (V1 mode)
HasParts net links plan (V2 mode) = IsPlanVerdict net links plan (V2 mode)
HasParts net links plan (V3 sum length) = IsPlanVerdict net links plan (V3 sum length)
HasParts net links plan (V4 critical sum) = IsPlanVerdict net links plan (V4 critical sum)
HasParts net links plan (V5 first second) = IsPlanVerdict net links plan (V5 first second)
HasParts net links plan (V6 burst) = IsPlanVerdict net links plan (V6 burst)
HasParts net links plan (V7 from to want have) = IsPlanVerdict net links plan (V7 from to want have)
HasParts net links plan (V8 _ _ _ _) = ⊥

parts_of : (net : Net) (links : List Link) (plan : Plan) (verdict : Verdict) → IsDemand links → IsPlanVerdict net links plan verdict → HasParts net links plan verdict
parts_of net links plan Good is good = (good_modes net links plan is good, good_apart net links plan good, good.carries.held, good_served net links plan good)
parts_of net links plan (V1 _) is x = x
parts_of net links plan (V2 _) is x = x
parts_of net links plan (V3 _ _) is x = x
parts_of net links plan (V4 _ _) is x = x
parts_of net links plan (V5 _ _) is x = x
parts_of net links plan (V6 _) is x = x
parts_of net links plan (V7 _ _ _ _) is x = x
parts_of net links plan (V8 _ _ _ _) is x = x

-- no two facts of verdicts of different kinds
ruleset kept_apart = (no_bad, no_empty, no_other_sum, not_apart, no_unheld, not_served)

-- the verdicts are the same
same_parts : (net : Net) (links : List Link) (plan : Plan) (a b : Verdict) → HasParts net links plan a → HasParts net links plan b → a ≡ b
same_parts net links plan Good Good _ _ = refl
same_parts net links plan (V1 m) (V1 n) x y = ap V1 (one_first (λ m. IsPermutation (length net.beams) m.perm) plan.schedule.modes m n x y)
same_parts net links plan (V2 m) (V2 n) x y = ap V2 (one_first (λ m. 0 < m.duration) plan.schedule.modes m n x.1 y.1)
same_parts net links plan (V3 _ _) (V3 _ _) x y = cc
same_parts net links plan (V4 a m) (V4 b n) x y =
    let line = one_line (matrix_of net links) a b m n x.4 y.4 in let most = one_sum (matrix_of net links) a b m n x.4 y.4 in cc
same_parts net links plan (V5 i j) (V5 k l) x y =
    let second = one_second net plan.bursts i j k l x.1 y.1 in
    let first = one_meeting net plan.bursts i j k x.1 (rw second y.1) in
    cc
same_parts net links plan (V6 i) (V6 j) x y = ap V6 (one_first (IsHeld net plan.schedule.modes) plan.bursts i j x.2 y.2)
same_parts net links plan (V7 from to want have) (V7 a b n m) x y =
    let ends = one_ends net links plan.bursts (from, to) (a, b) want have n m _ (says (from, to) (a, b)) x.3 y.3 in
    let sends = ap (λ (e : LinkEnds). e.0) ends in
    let receives = ap (λ (e : LinkEnds). e.1) ends in
    let wants = x.3.wanted ∙ ap (λ (e : LinkEnds). units_of links e.0 e.1) ends ∙ sym y.3.wanted in
    let has = x.3.sent ∙ ap (λ (e : LinkEnds). slots_sent plan.bursts e.0 e.1) ends ∙ sym y.3.sent in
    cc
same_parts net links plan _ _ x y = absurd (search (rules, kept_apart))

-- A plan has at most one verdict for a demand.
pub the_same : (net : Net) (links : List Link) (plan : Plan) (a b : Verdict) → IsDemand links
    → IsPlanVerdict net links plan a → IsPlanVerdict net links plan b → a ≡ b
the_same net links plan a b is x y = same_parts net links plan a b (parts_of net links plan a is x) (parts_of net links plan b is y)
