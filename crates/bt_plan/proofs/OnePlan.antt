-- No text but a plan's own is read as that plan, and what is read is in range.
use Rattle.std.proofs.Common.{◌≡◌, ℕ, ◌+◌, ◌≤◌, Bool, true, false, cond, codes, List, [], ◌∷◌, ◌++◌, length, map, All, AllPairs, Option, Some, None, Ok, refl, sym, ap, subst, ◌∙◌, append_assoc}
use Rattle.std.proofs.lemmas.List.Elements.{All-cons, All-nil}
use Rattle.bt_text.specs.Reading.{◌>>=◌, or_fault}
use Rattle.bt_text.specs.Text.{words, lines, spaced}
use Rattle.bt_text.proofs.TextLines.{spaced-words, ended_from_lines}
use Rattle.bt_net.specs.Network.{Net}
use Rattle.bt_demand.specs.declared.plan.Plan.{Plan}
use Rattle.bt_plan.specs.declared.text_fault.TextCode.TheVariants.{P1}
use Rattle.bt_demand.specs.Burst.{IsNotAfter}
use Rattle.bt_plan.specs.PlanSpelling.{edition_line, burst_line, plan_lines, plan_spelling, IsBurstInRange, IsPlanInRange}
use Rattle.bt_plan.specs.PlanText.{edition_in, bursts_in, is_mode, modes_and_bursts, first_says, parts_behind, critical_behind, length_behind, plan_in, plan_reading}
use Rattle.bt_demand.specs.Apart.{AreBetweenTerminals}
use Rattle.bt_plan.specs.Reading.{Reading}
use Rattle.bt_plan.specs.ScheduleSpelling.{length_line, critical_line, mode_line, IsModeInRange}
use Rattle.bt_plan.specs.ScheduleText.{length_in, critical_in, mode_in}
use Rattle.bt_plan.proofs.OneBurst.{edition_spelled, bursts_spelled, lines_from_bursts}
use Rattle.bt_plan.proofs.OneText.{or_fault_ok, length_spelled, critical_spelled, mode_spelled}
use Rattle.bt_plan.proofs.PlanLines.{Parts}
use Rattle.bt_text.proofs.Steps.{bind_ok}
use Rattle.bt_plan.proofs.Spelled.{ok_is}

-- modes, and the bursts behind them
pub record AreParts (net : Net) (ls : List (List ℕ)) (parts : Parts) : Type 0 where
  pub spelled : ls ≡ map mode_line parts.0 ++ lines_from_bursts net parts.1
  pub modes : All (IsModeInRange (length net.beams)) parts.0
  pub range : All (IsBurstInRange net) parts.1
  pub ordered : AllPairs IsNotAfter parts.1

next_part : (net : Net) (at : ℕ) (line : List ℕ) (ls : List (List ℕ)) (parts : Parts) (named : Bool)
    → cond named (or_fault (P1, at) (mode_in (length net.beams) (words line)) >>= λ mode. modes_and_bursts net (at + 1) ls >>= λ others. Ok (mode ∷ others.0, others.1)) (bursts_in net at None (line ∷ ls) >>= λ bursts. Ok ([], bursts)) ≡ Ok parts
    → ((others : Parts) → modes_and_bursts net (at + 1) ls ≡ Ok others → AreParts net ls others) → AreParts net (line ∷ ls) parts
next_part net at line ls parts true is behind =
    let first = bind_ok (or_fault (P1, at) (mode_in (length net.beams) (words line))) (λ mode. modes_and_bursts net (at + 1) ls >>= λ others. Ok (mode ∷ others.0, others.1)) parts is in
    let rest = bind_ok (modes_and_bursts net (at + 1) ls) (λ others. Ok (first.0 ∷ others.0, others.1)) parts first.2 in
    let here = mode_spelled (length net.beams) (words line) first.0 (or_fault_ok P1 at (mode_in (length net.beams) (words line)) first.0 first.1) in
    let others = behind rest.0 rest.1 in
    let line_is : line ≡ mode_line first.0 = sym (spaced-words line) ∙ ap spaced here.0 in
    let all : Parts = (first.0 ∷ rest.0.0, rest.0.1) in
    subst (AreParts net (line ∷ ls)) (ok_is all parts rest.2) (record {
      spelled = ap (λ (l : List ℕ). l ∷ ls) line_is ∙ ap (λ (more : List (List ℕ)). mode_line first.0 ∷ more) others.spelled;
      modes = All-cons (IsModeInRange (length net.beams)) first.0 rest.0.0 here.1 others.modes;
      range = others.range;
      ordered = others.ordered;
    })
next_part net at line ls parts false is behind =
    let bursts = bind_ok (bursts_in net at None (line ∷ ls)) (λ bursts. Ok ([], bursts)) parts is in
    let here = bursts_spelled net at None (line ∷ ls) bursts.0 bursts.1 in
    let all : Parts = ([], bursts.0) in
    subst (AreParts net (line ∷ ls)) (ok_is all parts bursts.2) (record {
      spelled = here.spelled;
      modes = All-nil (IsModeInRange (length net.beams));
      range = here.range;
      ordered = here.ordered;
    })

pub parts_spelled : (net : Net) (at : ℕ) (ls : List (List ℕ)) (parts : Parts) → modes_and_bursts net at ls ≡ Ok parts → AreParts net ls parts
parts_spelled net at [] parts is = absurd cc
parts_spelled net at (line ∷ []) parts is = absurd cc
parts_spelled net at (line ∷ next ∷ rest) parts is =
    next_part net at line (next ∷ rest) parts (is_mode (words line)) is (λ others read. parts_spelled net (at + 1) (next ∷ rest) others read)

-- the first line, and what follows it
record IsFirst {A B : Type 0} (say : List (List ℕ) → Option A) (after : A → List (List ℕ) → Reading B) (ls : List (List ℕ)) (y : B) : Type 0 where
  line : List ℕ
  rest : List (List ℕ)
  value : A
  cut : ls ≡ line ∷ rest
  said : say (words line) ≡ Some value
  behind : after value rest ≡ Ok y

first_says_ok : {A B : Type 0} (at : ℕ) (say : List (List ℕ) → Option A) (after : A → List (List ℕ) → Reading B) (ls : List (List ℕ)) (y : B) → first_says at say after ls ≡ Ok y → IsFirst say after ls y
first_says_ok at say after [] y is = absurd cc
first_says_ok at say after (line ∷ []) y is = absurd cc
first_says_ok at say after (line ∷ next ∷ more) y is =
    let first = bind_ok (or_fault (P1, at) (say (words line))) (λ v. after v (next ∷ more)) y is in
    record { line = line; rest = next ∷ more; value = first.0; cut = refl; said = or_fault_ok P1 at (say (words line)) first.0 first.1; behind = first.2 }

-- all lines of a plan, and what stands behind the last newline
abbrev pub lines_from_plan : Net → Plan → List (List ℕ)
lines_from_plan net plan = edition_line plan.edition ∷ length_line plan.schedule.length ∷ critical_line plan.schedule.critical ∷ (map mode_line plan.schedule.modes ++ lines_from_bursts net plan.bursts)

pub lines_from_plan-is : (net : Net) (plan : Plan) → plan_lines net plan ++ [] ∷ [] ≡ lines_from_plan net plan
lines_from_plan-is net plan =
    let modes = map mode_line plan.schedule.modes in
    let bursts = map (burst_line net) plan.bursts in
    ap (λ (ls : List (List ℕ)). edition_line plan.edition ∷ length_line plan.schedule.length ∷ critical_line plan.schedule.critical ∷ ls)
    (append_assoc modes (bursts ++ codes "end" ∷ []) ([] ∷ []) ∙ ap (λ (ls : List (List ℕ)). modes ++ ls) (append_assoc bursts (codes "end" ∷ []) ([] ∷ [])))

abbrev IsSpelledBy : Net → List (List ℕ) → Plan → Type 0
IsSpelledBy net ls plan = (ls ≡ lines_from_plan net plan) × IsPlanInRange net plan

plan_in-spelled : (net : Net) (ls : List (List ℕ)) (plan : Plan) → length net.beams ≤ 32 → plan_in net ls ≡ Ok plan → IsSpelledBy net ls plan
plan_in-spelled net ls plan few is =
    let first = first_says_ok 1 edition_in (length_behind net) ls plan is in
    let second = first_says_ok 2 length_in (critical_behind net first.value) first.rest plan first.behind in
    let third = first_says_ok 3 (critical_in (length net.beams)) (parts_behind net first.value second.value) second.rest plan second.behind in
    let made : Parts → Plan = λ parts. record { edition = first.value; schedule = record { length = second.value; critical = third.value; modes = parts.0 }; bursts = parts.1 } in
    let parts = bind_ok (modes_and_bursts net 4 third.rest) (λ p. Ok (made p)) plan third.behind in
    let here = parts_spelled net 4 third.rest parts.0 parts.1 in
    let edition = edition_spelled (words first.line) first.value first.said in
    let slots = length_spelled (words second.line) second.value second.said in
    let critical = critical_spelled (length net.beams) (words third.line) third.value few third.said in
    let e : List ℕ = edition_line first.value in
    let l : List ℕ = length_line second.value in
    let third_is : second.rest ≡ critical_line third.value ∷ (map mode_line parts.0.0 ++ lines_from_bursts net parts.0.1) =
    third.cut ∙ (ap (λ (line : List ℕ). line ∷ third.rest) (sym (spaced-words third.line) ∙ critical.0) ∙ ap (λ (rest : List (List ℕ)). critical_line third.value ∷ rest) here.spelled) in
    let second_is : first.rest ≡ l ∷ critical_line third.value ∷ (map mode_line parts.0.0 ++ lines_from_bursts net parts.0.1) =
    second.cut ∙ (ap (λ (line : List ℕ). line ∷ second.rest) (sym (spaced-words second.line) ∙ ap spaced slots.0) ∙ ap (λ (rest : List (List ℕ)). l ∷ rest) third_is) in
    let all_are : ls ≡ lines_from_plan net (made parts.0) =
    first.cut ∙ (ap (λ (line : List ℕ). line ∷ first.rest) (sym (spaced-words first.line) ∙ edition.0) ∙ ap (λ (rest : List (List ℕ)). e ∷ rest) second_is) in
    let range : IsPlanInRange net (made parts.0) = record {
      edition = edition.1;
      schedule = record { slots = slots.1; critical = critical.1; modes = here.modes };
      bursts = here.range;
      ordered = here.ordered;
    } in
    subst (IsSpelledBy net ls) (ok_is (made parts.0) plan parts.2) (all_are, range)

pub plan_spelled : (net : Net) (text : List ℕ) (plan : Plan) → length net.beams ≤ 32 → plan_reading net text ≡ Ok plan → (text ≡ plan_spelling net plan) × IsPlanInRange net plan
plan_spelled net text plan few is =
    let found = plan_in-spelled net (lines text) plan few is in
    (ended_from_lines text (plan_lines net plan) (found.0 ∙ sym (lines_from_plan-is net plan)), found.1)

-- bursts that are read are between terminals of the network
pub between_terminals : (net : Net) (at : ℕ) (ls : List (List ℕ)) (parts : Parts) → modes_and_bursts net at ls ≡ Ok parts → AreBetweenTerminals net parts.1
between_terminals net at ls parts is k d within =
    let range = (parts_spelled net at ls parts is).range k d within in
    (range.sends, range.receives)
