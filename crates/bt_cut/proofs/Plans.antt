-- The plan of a cutting.
use Rattle.std.proofs.Common.{◌≡◌, ℕ, ◌+◌, ◌<◌, ◌≤◌, List, [], length, map, get_or, slice_index, All, AllPairs, sym, ap, ◌∙◌, subst, inl, inr, arith, zero-add}
use Rattle.std.specs.List.{HoldsAt, range_with_len}
use Rattle.std.specs.List.Sorted.{IsPermutation as IsMoved}
use Rattle.std.proofs.lemmas.List.{get_or_past}
use Rattle.std.proofs.lemmas.Bool.{cases_lt}
use Rattle.std.proofs.lemmas.List.Elements.{at_from_Contains, Contains-from_at}
use Rattle.std.proofs.lemmas.List.FromFn.{get_or-map-range_with_len}
use Rattle.std.proofs.lemmas.List.Sorted.{All-permutation, Contains-permutation}
use Rattle.bt_frame.specs.declared.numbers.TermNo.{TermNo}
use Rattle.bt_frame.specs.declared.mode.Mode.{Mode}
use Rattle.bt_frame.specs.declared.schedule.Schedule.{Schedule}
use Rattle.bt_net.specs.Network.{Net, IsSound}
use Rattle.bt_matrix.specs.Good.{IsPermutation, IsGood, slots_of}
use Rattle.bt_matrix.specs.Traffic.{entry}
use Rattle.bt_demand.specs.declared.burst.Burst.{Burst}
use Rattle.bt_demand.specs.declared.demand.Link.{Link}
use Rattle.bt_demand.specs.declared.plan.Plan.{Plan}
use Rattle.bt_demand.specs.Burst.{IsNotAfter}
use Rattle.bt_demand.specs.Demand.{IsDemand, units_of}
use Rattle.bt_demand.specs.Plan.{IsGoodPlan}
use Rattle.bt_demand.specs.Apart.{AreBetweenTerminals, slots_sent}
use Rattle.bt_demand.specs.PlanVerdict.{HasGoodModes}
use Rattle.bt_demand.specs.Traffic.{AreOfNetwork, matrix_of, units_between}
use Rattle.bt_demand.proofs.Matrices.{length-matrix_of}
use Rattle.bt_demand.proofs.PlanParts.{good_by_parts}
use Rattle.bt_cut.specs.Cutting.{IsCutting}
use Rattle.bt_cut.specs.Parts.{IsPart, AreParts}
use Rattle.bt_cut.proofs.Apart.{part_between, parts_that_meet}
use Rattle.bt_cut.proofs.Cuts.{IsCut-part, IsPart-cut}
use Rattle.bt_cut.proofs.Counted.{ArePartsOf, cutting_serves}
use Rattle.bt_cut.proofs.Good.{part_held}
use Rattle.bt_cut.proofs.Moved.{distinct_moved}

-- the bursts of all links in another order
pub AreParts-moved : (net : Net) (links : List Link) (modes : List Mode) (count : ℕ) (bursts moved : List Burst) → IsMoved bursts moved
    → AreParts net links modes count bursts → AreParts net links modes count moved
AreParts-moved net links modes count bursts moved is parts = record {
  each = All-permutation (λ (burst : Burst). (link : ℕ) × (mode : ℕ) × (link < count) × IsPart net links modes link mode burst) bursts moved is parts.each;
  all = λ link mode burst below part. Contains-permutation bursts moved burst is (parts.all link mode burst below part);
  distinct = distinct_moved bursts moved is parts.distinct;
}

-- in order they are the cutting
pub IsCutting-parts : (net : Net) (links : List Link) (modes : List Mode) (bursts : List Burst) → AreParts net links modes (length links) bursts
    → AllPairs IsNotAfter bursts → IsCutting net links modes bursts
IsCutting-parts net links modes bursts parts ordered = record {
  ordered = ordered;
  distinct = parts.distinct;
  each = λ k d within.
      let (link, mode, below, part) = parts.each k d within in
      (link, mode, IsCut-part net links modes link mode (get_or bursts k d) below part);
  all = λ link mode burst cut.
      let (below, part) = IsPart-cut net links modes link mode burst cut in
      let (place, _, is) = at_from_Contains bursts burst (parts.all link mode burst below part) in
      (place, is);
}

-- the entry of a traffic matrix
pub entry-matrix_of : (net : Net) (links : List Link) (up down : ℕ) → up < length net.beams → down < length net.beams
    → entry (matrix_of net links) up down ≡ units_between net links up down
entry-matrix_of net links up down in_rows in_columns =
    let n = length net.beams in
    ap (λ (row : List ℕ). slice_index row down)
    (get_or-map-range_with_len (λ (i : ℕ). map (units_between net links i) (range_with_len 0 n)) 0 n up up [] in_rows (zero-add up))
    ∙ get_or-map-range_with_len (units_between net links up) 0 n down down 0 in_columns (zero-add down)

-- What a good schedule for a demand's matrix says in terms of the demand.
pub record IsFor (net : Net) (links : List Link) (schedule : Schedule) : Type 0 where
  pub permutations : All (λ mode. IsPermutation (length net.beams) mode.perm) schedule.modes
  pub carried : (up down : ℕ) → up < length net.beams → down < length net.beams → units_between net links up down ≤ slots_of schedule.modes up down
  pub modes : HasGoodModes net links schedule

pub is_for : (net : Net) (links : List Link) (schedule : Schedule) → IsGood (matrix_of net links) schedule → IsFor net links schedule
is_for net links schedule good =
    let size = length-matrix_of net links in
    let permutations = subst (λ (n : ℕ). All (λ mode. IsPermutation n mode.perm) schedule.modes) size good.permutations in
    record {
      permutations = permutations;
      carried = λ up down in_rows in_columns. omega (arith, good.carried up down (omega arith) (omega arith), entry-matrix_of net links up down in_rows in_columns);
      modes = record { permutations = permutations; durations = good.durations; filled = good.filled; least = good.least };
    }

-- and then the plan is good
good_plan : (net : Net) (links : List Link) (plan : Plan) → IsSound net → IsDemand links → AreOfNetwork net links → IsFor net links plan.schedule
    → AreParts net links plan.schedule.modes (length links) plan.bursts → ((from to : TermNo) → slots_sent plan.bursts from to ≡ units_of links from to) → IsGoodPlan net links plan
good_plan net links plan sound demand of is parts served =
    let modes = plan.schedule.modes in
    good_by_parts net links plan demand of
    (λ k d within. let (link, mode, below, part) = parts.each k d within in part_between net links modes link mode (get_or plan.bursts k d) of below part)
    is.modes
    (λ i j d less within meet.
    let (p, m, in_p, first) = parts.each i d (omega arith) in
    let (q, n, in_q, second) = parts.each j d within in
    parts.distinct i j d less within
    (parts_that_meet net links modes p q m n (get_or plan.bursts i d) (get_or plan.bursts j d) sound of is.permutations in_p in_q first second meet))
    (λ k d within. let (link, mode, below, part) = parts.each k d within in part_held net links modes link mode (get_or plan.bursts k d) part)
    (λ from to _ _. served from to)

-- the bursts of all links are between terminals
pub plan_between : (net : Net) (links : List Link) (modes : List Mode) (bursts : List Burst) → AreOfNetwork net links → AreParts net links modes (length links) bursts
    → AreBetweenTerminals net bursts
plan_between net links modes bursts of parts k d within =
    let (link, mode, below, part) = parts.each k d within in part_between net links modes link mode (get_or bursts k d) of below part

-- the bursts of all links, in the order in which they are handed out
pub parts_in_order : (net : Net) (links : List Link) (modes read : List Mode) (count : ℕ) (bursts moved result : List Burst) → read ≡ modes → result ≡ moved
    → IsMoved bursts moved → AreParts net links read count bursts → AreParts net links modes count result
parts_in_order net links modes read count bursts moved result same is in_order parts =
    subst (λ (bs : List Burst). AreParts net links modes count bs) (sym is)
    (subst (λ (ms : List Mode). AreParts net links ms count moved) same (AreParts-moved net links read count bursts moved in_order parts))

-- a place that holds one burst alone is in the list
there : (bursts : List Burst) (burst : Burst) (place : ℕ) → HoldsAt (λ b. b ≡ burst) bursts place → place < length bursts
there bursts burst place is =
    elim (cases_lt place (length bursts)) [
      | inl inside ↦ inside
      | inr beyond ↦
          let other : Burst = record { from = burst.from; to = burst.to; start = burst.start; length = burst.length + 1 } in
          let past = ap (λ (b : Burst). b.length) (get_or_past bursts place other beyond) in
          let same = ap (λ (b : Burst). b.length) (is other) in
          absurd (omega (arith, past, same))
    ]

-- the bursts of a cutting by parts
cutting_parts : (net : Net) (links : List Link) (modes : List Mode) (bursts : List Burst) → IsCutting net links modes bursts → ArePartsOf net links modes bursts
cutting_parts net links modes bursts cutting = record {
  each = λ k d within.
      let (link, mode, cut) = cutting.each k d within in
      let (below, part) = IsPart-cut net links modes link mode (get_or bursts k d) cut in
      (link, mode, below, part);
  all = λ link mode burst below part.
      let (place, is) = cutting.all link mode burst (IsCut-part net links modes link mode burst below part) in
      (place, there bursts burst place is, is);
  distinct = cutting.distinct;
}

-- the cutting of a good schedule makes a good plan
pub cutting_good : (net : Net) (links : List Link) (plan : Plan) → IsSound net → IsDemand links → AreOfNetwork net links → IsGood (matrix_of net links) plan.schedule
    → IsCutting net links plan.schedule.modes plan.bursts → IsGoodPlan net links plan
cutting_good net links plan sound demand of good cutting =
    let modes = plan.schedule.modes in
    let is = is_for net links plan.schedule good in
    let parts = cutting_parts net links modes plan.bursts cutting in
    let all : AreParts net links modes (length links) plan.bursts = record {
      each = parts.each;
      all = λ link mode burst below part. let (k, inside, at) = parts.all link mode burst below part in Contains-from_at plan.bursts burst (k, inside, at);
      distinct = parts.distinct;
    } in
    good_plan net links plan sound demand of is all (cutting_serves net links modes plan.bursts demand sound of is.carried parts)
