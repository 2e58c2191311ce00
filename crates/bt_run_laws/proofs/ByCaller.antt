-- In a round no more edits are asked for than its desks have lines: counted caller by caller.
use Rattle.std.proofs.Common.{◌≡◌, ◌≢◌, ℕ, zero, suc, ◌+◌, ◌<◌, ◌≤◌, ◌==◌, nat_le, Bool, true, false, cond, List, [], ◌∷◌, ◌++◌, length, length-append, map, refl, sym, ap, subst, ◌∙◌, arith, eq-eqb}
use Rattle.std.specs.Prelude.{count_by, flat_map}
use Rattle.std.proofs.lemmas.Bool.{eqb-true, eqb-false, ne_eqb, leb-true, leb-false}
use Rattle.std.proofs.lemmas.List.{length-map}
use Rattle.std.proofs.lemmas.List.Elements.{All-head, All-tail}
use Rattle.std.proofs.lemmas.List.Sums.{count_by-le-length, sum_by-append, sum_by-cons}
use Rattle.bt_journal.specs.declared.call.Call.{Call}
use Rattle.bt_journal.specs.declared.entry.Entry.{Entry}
use Rattle.bt_journal.specs.Journal.{asks_edit, calls_of}
use Rattle.bt_script.specs.declared.script.DeskLine.{DeskLine}
use Rattle.bt_script.specs.declared.script.DeskLine.TheVariants as desk_line
use Rattle.bt_script.specs.declared.script.Round.{Round}
use Rattle.bt_script.specs.Length.{desks_length}
use Rattle.bt_round.specs.Desks.{asked_by, asked_by_line}
use Rattle.bt_run_laws.proofs.NoEdits.{AskNoEdit}

-- the entries that ask for an edit
abbrev pub edits : List Entry → ℕ
edits entries = count_by (λ (entry : Entry). asks_edit entry.call) entries

-- one where the test passes, and where the entry asks for an edit
abbrev pub one_if : Bool → ℕ
one_if test = cond test 1 0

abbrev pub one_edit : Entry → ℕ
one_edit entry = one_if (asks_edit entry.call)

pub edits-cons : (first : Entry) (rest : List Entry) → edits (first ∷ rest) ≡ one_edit first + edits rest
edits-cons first rest = sum_by-cons one_edit first rest

pub edits-append : (a b : List Entry) → edits (a ++ b) ≡ edits a + edits b
edits-append a b = sum_by-append one_edit a b

-- where none asks for an edit, none is counted
none_counted : (entries : List Entry) → AskNoEdit entries → edits entries ≡ 0
none_counted [] none = refl
none_counted (first ∷ rest) none =
    let here : one_edit first ≡ 0 = ap one_if (All-head (λ (entry : Entry). asks_edit entry.call ≡ false) first rest none) in
    omega (arith, edits-cons first rest, here, none_counted rest (All-tail (λ (entry : Entry). asks_edit entry.call ≡ false) first rest none))

-- the sum over the callers below a number
abbrev total : (ℕ → ℕ) → ℕ → ℕ
total f zero = 0
total f (suc n) = f n + total f n

-- a sum is no more than another of no less
total_le : (f g : ℕ → ℕ) (n : ℕ) → ((caller : ℕ) → f caller ≤ g caller) → total f n ≤ total g n
total_le f g zero each = omega arith
total_le f g (suc n) each = omega (arith, each n, total_le f g n each)

-- sums that differ at one caller
module _ (f g : ℕ → ℕ) (one more : ℕ) (here : f one ≡ more + g one) (others : (caller : ℕ) → caller ≢ one → f caller ≡ g caller) where
  total_before : (n : ℕ) → n ≤ one → total f n ≡ total g n
  total_before zero low = refl
  total_before (suc n) low = omega (arith, others n (λ same. omega (arith, same)), total_before n (omega arith))

  at_last : (n : ℕ) (test : Bool) → (n == one) ≡ test → one < suc n → (one < n → total f n ≡ more + total g n) → total f (suc n) ≡ more + total g (suc n)
  at_last n true is high before =
      let same = eqb-true n one is in
      omega (arith, subst (λ (k : ℕ). f k ≡ more + g k) (sym same) here, total_before n (omega (arith, same)))
  at_last n false is high before =
      let other = eqb-false n one is in
      omega (arith, others n other, before (omega (arith, other)))

  total_behind : (n : ℕ) → one < n → total f n ≡ more + total g n
  total_behind zero high = absurd (omega arith)
  total_behind (suc n) high = at_last n (n == one) refl high (total_behind n)

  by_side : (n : ℕ) (test : Bool) → nat_le n one ≡ test → total f n ≤ more + total g n
  by_side n true is = omega (arith, total_before n (leb-true n one is))
  by_side n false is = omega (arith, total_behind n (leb-false n one is))

  total_most : (n : ℕ) → total f n ≤ more + total g n
  total_most n = by_side n (nat_le n one) refl

-- the entries of one caller that ask for an edit
abbrev edits_by : List Entry → ℕ → ℕ
edits_by entries caller = edits (calls_of entries caller)

-- a number above that of each caller
abbrev above_callers : List Entry → ℕ
above_callers [] = 0
above_callers (first ∷ rest) = suc first.caller + above_callers rest

by_own : (first : Entry) (rest : List Entry) → edits_by (first ∷ rest) first.caller ≡ one_edit first + edits_by rest first.caller
by_own first rest =
    let own = calls_of rest first.caller in
    ap (λ (b : Bool). edits (cond b (first ∷ own) own)) (eq-eqb first.caller first.caller refl) ∙ edits-cons first own

by_other : (first : Entry) (rest : List Entry) (caller : ℕ) → caller ≢ first.caller → edits_by (first ∷ rest) caller ≡ edits_by rest caller
by_other first rest caller other =
    let own = calls_of rest caller in
    ap (λ (b : Bool). edits (cond b (first ∷ own) own)) (ne_eqb first.caller caller (λ same. other (sym same)))

-- counted caller by caller, no entry that asks for an edit is left out
by_caller : (entries : List Entry) (n : ℕ) → above_callers entries ≤ n → edits entries ≤ total (edits_by entries) n
by_caller [] n below = omega arith
by_caller (first ∷ rest) n below =
    omega (
      arith,
      edits-cons first rest,
      by_caller rest n (omega arith),
      total_behind (edits_by (first ∷ rest)) (edits_by rest) first.caller (one_edit first) (by_own first rest) (by_other first rest) n (omega arith),
    )

-- what each caller asks is no more than the desks have lines
lines_ask : (lines : List DeskLine) → length (flat_map asked_by_line lines) ≤ length lines
lines_ask [] = omega arith
lines_ask (desk_line.Edit edit ∷ lines) = omega (arith, lines_ask lines)
lines_ask (desk_line.Show terminal ∷ lines) = omega (arith, lines_ask lines)

abbrev asked_length : List (ℕ × List DeskLine) → ℕ → ℕ
asked_length desks caller = length (asked_by caller desks)

module _ (desk : ℕ × List DeskLine) (desks : List (ℕ × List DeskLine)) where
  abbrev own_calls : List Call
  own_calls = flat_map asked_by_line desk.1

  asked_own : asked_length (desk ∷ desks) (desk.0 + 1) ≡ length own_calls + asked_length desks (desk.0 + 1)
  asked_own =
      let rest = asked_by (desk.0 + 1) desks in
      ap (λ (b : Bool). length (cond b own_calls [] ++ rest)) (eq-eqb (desk.0 + 1) (desk.0 + 1) refl) ∙ length-append own_calls rest

  asked_other : (caller : ℕ) → caller ≢ desk.0 + 1 → asked_length (desk ∷ desks) caller ≡ asked_length desks caller
  asked_other caller other = ap (λ (b : Bool). length (cond b own_calls [] ++ asked_by caller desks)) (ne_eqb (desk.0 + 1) caller (λ same. other (sym same)))

desks_ask : (desks : List (ℕ × List DeskLine)) (n : ℕ) → total (asked_length desks) n ≤ desks_length desks
desks_ask [] zero = omega arith
desks_ask [] (suc n) = omega (arith, desks_ask [] n)
desks_ask (desk ∷ desks) n =
    let f = asked_length (desk ∷ desks) in
    let g = asked_length desks in
    let more = length (flat_map asked_by_line desk.1) in
    let most = total_most f g (desk.0 + 1) more (asked_own desk desks) (asked_other desk desks) n in
    omega (arith, most, desks_ask desks n, lines_ask desk.1, sum_by-cons (λ (d : ℕ × List DeskLine). length d.1) desk desks)

-- in a round no more edits are asked for than its desks have lines
pub edits_counted : (round : Round) (entries : List Entry)
    → ((caller : ℕ) → 1 < caller → map (λ (entry : Entry). entry.call) (calls_of entries caller) ≡ asked_by caller round.desks)
    → AskNoEdit (calls_of entries 0) → AskNoEdit (calls_of entries 1) → edits entries ≤ desks_length round.desks
edits_counted round entries asked by_centre by_planner =
    let n = above_callers entries in
    omega (arith, by_caller entries n (omega arith), total_le (edits_by entries) (asked_length round.desks) n each, desks_ask round.desks n)
  where
    each : (caller : ℕ) → edits_by entries caller ≤ asked_length round.desks caller
    each zero = omega (arith, none_counted (calls_of entries 0) by_centre)
    each (suc zero) = omega (arith, none_counted (calls_of entries 1) by_planner)
    each (suc (suc m)) =
        let own = calls_of entries (suc (suc m)) in
        omega (arith, count_by-le-length (λ (entry : Entry). asks_edit entry.call) own, length-map own (λ (entry : Entry). entry.call), ap length (asked (suc (suc m)) (omega arith)))
