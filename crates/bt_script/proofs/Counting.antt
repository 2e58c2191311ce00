-- A script has no more lines than its text: each line of a round is that of one desk, of the planner or of the air.
use Rattle.std.proofs.Common.{◌≡◌, ℕ, zero, suc, ◌+◌, ◌<◌, ◌≤◌, ◌==◌, Bool, true, false, cond, List, [], ◌∷◌, length, refl, ap, ◌∙◌, arith, length-append}
use Rattle.std.specs.Prelude.{count_by, flat_map}
use Rattle.std.proofs.lemmas.Bool.{eqb-true}
use Rattle.std.proofs.lemmas.List.Sums.{sum_by-append, sum_by-cons}
use Rattle.bt_script.specs.declared.line.ScriptLine.{ScriptLine}
use Rattle.bt_script.specs.declared.line.ScriptLine.TheVariants as line
use Rattle.bt_script.specs.declared.script.DeskLine.{DeskLine}
use Rattle.bt_script.specs.declared.script.Item.{Item}
use Rattle.bt_script.specs.declared.script.Item.TheVariants as item
use Rattle.bt_script.specs.ScriptText.{round_lines, own_lines, is_plan, air_lines, entry_of, desks_of, round_of, items_of}
use Rattle.bt_script.specs.Length.{desks_length, round_length, item_length, script_length}

entry_length : (desk : ℕ) (own : List DeskLine) → desks_length (entry_of desk own) ≡ length own
entry_length desk [] = refl
entry_length desk (first ∷ rest) = omega arith

-- the lines of so many desks, desk by desk
abbrev by_desk : ℕ → ℕ → List ScriptLine → ℕ
by_desk desk zero own = 0
by_desk desk (suc more) own = length (flat_map (own_lines desk) own) + by_desk (desk + 1) more own

desks_by_desk : (desk more : ℕ) (own : List ScriptLine) → desks_length (desks_of desk more own) ≡ by_desk desk more own
desks_by_desk desk zero own = refl
desks_by_desk desk (suc more) own =
    sum_by-append (λ (d : ℕ × List DeskLine). length d.1) (entry_of desk (flat_map (own_lines desk) own)) (desks_of (desk + 1) more own)
    ∙ ap (λ n. n + desks_length (desks_of (desk + 1) more own)) (entry_length desk (flat_map (own_lines desk) own))
    ∙ ap (λ n. length (flat_map (own_lines desk) own) + n) (desks_by_desk (desk + 1) more own)

-- the desks of which a line is one
abbrev hits : ℕ → ℕ → ScriptLine → ℕ
hits desk zero one = 0
hits desk (suc more) one = length (own_lines desk one) + hits (desk + 1) more one

by_desk-nil : (desk more : ℕ) → by_desk desk more [] ≡ 0
by_desk-nil desk zero = refl
by_desk-nil desk (suc more) = omega (arith, by_desk-nil (desk + 1) more)

by_desk-cons : (desk more : ℕ) (first : ScriptLine) (rest : List ScriptLine) → by_desk desk more (first ∷ rest) ≡ hits desk more first + by_desk desk more rest
by_desk-cons desk zero first rest = refl
by_desk-cons desk (suc more) first rest = omega (arith, by_desk-cons (desk + 1) more first rest, length-append (own_lines desk first) (flat_map (own_lines desk) rest))

-- a line that is no desk's
hits-none : (desk more : ℕ) (one : ScriptLine) → ((d : ℕ) → own_lines d one ≡ []) → hits desk more one ≡ 0
hits-none desk zero one none = refl
hits-none desk (suc more) one none = omega (arith, ap length (none desk), hits-none (desk + 1) more one none)

hits_with : (test : Bool) (number desk later : ℕ) (own : DeskLine) → (test ≡ true → number ≡ desk) → later ≤ 1 → (number < desk + 1 → later ≡ 0)
    → (length (cond test (own ∷ []) []) + later ≤ 1) × (number < desk → length (cond test (own ∷ []) []) + later ≡ 0)
hits_with true number desk later own same few none =
    let at : number ≡ desk = same refl in
    let gone : later ≡ 0 = none (omega (arith, at)) in
    (omega (arith, gone), λ before. absurd (omega (arith, at, before)))
hits_with false number desk later own same few none = (omega (arith, few), λ before. omega (arith, none (omega (arith, before))))

-- a desk's line is that of one desk at most, and of none from a later number on
hits-desk : (desk more number : ℕ) (own : DeskLine) → (hits desk more (line.Desk number own) ≤ 1) × (number < desk → hits desk more (line.Desk number own) ≡ 0)
hits-desk desk zero number own = (omega arith, λ before. refl)
hits-desk desk (suc more) number own =
    let later = hits-desk (desk + 1) more number own in
    hits_with (number == desk) number desk (hits (desk + 1) more (line.Desk number own)) own (eqb-true number desk) later.0 later.1

-- a line is that of one desk, the planner's or one of the air, and no two of these
one_worker : (desk more : ℕ) (first : ScriptLine) → hits desk more first + cond (is_plan first) 1 0 + length (air_lines first) ≤ 1
one_worker desk more line.Remark = omega (arith, hits-none desk more line.Remark (λ d. refl))
one_worker desk more line.Round = omega (arith, hits-none desk more line.Round (λ d. refl))
one_worker desk more line.Restart = omega (arith, hits-none desk more line.Restart (λ d. refl))
one_worker desk more (line.Desk number own) = omega (arith, (hits-desk desk more number own).0)
one_worker desk more line.Plan = omega (arith, hits-none desk more line.Plan (λ d. refl))
one_worker desk more (line.Air own) = omega (arith, hits-none desk more (line.Air own) (λ d. refl))

-- the lines of desks, of the planner and of the air
workers_lines : (desk more : ℕ) (own : List ScriptLine) → by_desk desk more own + count_by is_plan own + length (flat_map air_lines own) ≤ length own
workers_lines desk more [] = omega (arith, by_desk-nil desk more)
workers_lines desk more (first ∷ rest) =
    omega (arith, workers_lines desk more rest, by_desk-cons desk more first rest, sum_by-cons (λ x. cond (is_plan x) 1 0) first rest, length-append (air_lines first) (flat_map air_lines rest), one_worker desk more first)

-- a round has no more lines than stand in front of the next
round_fits : (own : List ScriptLine) → round_length (round_of own) ≤ 1 + length own
round_fits own = omega (arith, workers_lines 1 16 own, desks_by_desk 1 16 own)

one_item : (one : Item) (rest : List Item) → script_length (one ∷ rest) ≡ item_length one + script_length rest
one_item one rest = sum_by-cons item_length one rest

items_fit : (said : List ScriptLine) → script_length (items_of said) + length (round_lines said) ≤ length said
items_fit [] = omega arith
items_fit (line.Remark ∷ rest) = omega (arith, items_fit rest)
items_fit (line.Round ∷ rest) = omega (arith, items_fit rest, one_item (item.Round (round_of (round_lines rest))) (items_of rest), round_fits (round_lines rest))
items_fit (line.Restart ∷ rest) = omega (arith, items_fit rest, one_item item.Restart (items_of rest))
items_fit (line.Desk number own ∷ rest) = omega (arith, items_fit rest)
items_fit (line.Plan ∷ rest) = omega (arith, items_fit rest)
items_fit (line.Air own ∷ rest) = omega (arith, items_fit rest)

-- a script has no more lines than were read
pub items_short : (said : List ScriptLine) → length said ≤ 20000 → script_length (items_of said) ≤ 20000
items_short said few = omega (arith, items_fit said, few)
