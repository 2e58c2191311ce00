-- Reading the lines of a plan one after the other, as loops do, up to the end.
use Rattle.std.proofs.Common.{◌≡◌, ℕ, suc, ◌+◌, ◌≤◌, Bool, true, false, cond, eqb, codes, List, [], ◌∷◌, ◌++◌, length, get_or, All, AllPairs, drop, Option, Some, None, option_and_then, Ok, Err, refl, sym, ap, subst, ◌∙◌, append_assoc, arith, inl, inr}
use Rattle.std.proofs.lemmas.Bool.{eqb-true, le-leb}
use Rattle.std.proofs.lemmas.List.{append-nil}
use Rattle.std.proofs.lemmas.List.Elements.{All-nil, All-cons, All-append}
use Rattle.std.proofs.lemmas.List.Quantifiers.{all_pairs_push}
use Rattle.bt_text.specs.Reading.{◌>>=◌, or_fault, IsFaultOf}
use Rattle.bt_text.specs.Text.{words, lines, is_word}
use Rattle.bt_frame.specs.declared.mode.Mode.{Mode}
use Rattle.bt_text.proofs.FirstLine.{lines-HasFirst, lines_after_end}
use Rattle.bt_text.proofs.Front.{with_front, regroup}
use Rattle.bt_net.specs.Network.{Net}
use Rattle.bt_demand.specs.declared.burst.Burst.{Burst}
use Rattle.bt_plan.specs.declared.text_fault.TextCode.TheVariants.{P1, P3}
use Rattle.bt_plan.specs.declared.text_fault.TextCode.{TextCode}
use Rattle.bt_text.specs.declared.fault.LineFault.{LineFault}
use Rattle.bt_text.specs.declared.fault.LineFault.TheVariants.{At, OutOfMemory}
use Rattle.bt_demand.specs.Burst.{is_not_after, IsNotAfter}
use Rattle.bt_demand.proofs.BurstOrder.{IsNotAfter-tested, IsNotAfter-itself, IsNotAfter-then}
use Rattle.bt_plan.specs.PlanText.{in_order, span_of, span_in, burst_between, burst_in, burst_behind, burst_below, plan_end, bursts_in, is_mode, modes_and_bursts, first_says}
use Rattle.bt_plan.specs.Reading.{Fault, Reading}
use Rattle.bt_plan.specs.ScheduleText.{mode_in}
use Rattle.bt_text.specs.WordReader.{number_to, first_word}
use Rattle.bt_text.proofs.Steps.{bind_ok}
use Rattle.bt_plan.proofs.Spelled.{ok_is, guard_ok}

-- a burst's numbers, and the words behind them
span_read : (from slots : List ℕ) (start count : ℕ) → Some start ≡ number_to 65535 from → Some count ≡ number_to 65536 slots → 1 ≤ count → span_in from slots ≡ Some (start, count)
span_read from slots start count first second some =
    ap (option_and_then (λ s. option_and_then (span_of s) (number_to 65536 slots))) (sym first) ∙ ap (option_and_then (span_of start)) (sym second) ∙ rw (le-leb 1 count some) refl

numbers_read : (net : Net) (at start count : ℕ) (ws : List (List ℕ)) → Some start ≡ option_and_then (number_to 65535) (first_word ws) → Some count ≡ option_and_then (number_to 65536) (first_word (drop 1 ws)) → 1 ≤ count
    → burst_behind net at ws ≡ burst_between net at (start, count) (drop 1 (drop 1 ws))
numbers_read net at start count [] first second some = absurd cc
numbers_read net at start count (from ∷ []) first second some = absurd cc
numbers_read net at start count (from ∷ slots ∷ ends) first second some =
    ap (λ span. or_fault {Fault = Fault} (P1, at) span >>= λ s. burst_between net at s ends) (span_read from slots start count first second some)

pub burst_read : (net : Net) (at start count : ℕ) (ws behind ends : List (List ℕ)) → Some start ≡ option_and_then (number_to 65535) (first_word ws) → behind ≡ drop 1 ws → Some count ≡ option_and_then (number_to 65536) (first_word behind) → ends ≡ drop 1 behind → 1 ≤ count
    → burst_behind net at ws ≡ burst_between net at (start, count) ends
burst_read net at start count ws behind ends first is second last some =
    numbers_read net at start count ws first (rw is at second) some ∙ ap (burst_between net at (start, count)) (sym (last ∙ ap (drop 1) is))

-- what a burst that was taken has to do with the burst above
abbrev pub Follows : Option Burst → Burst → Type 0
Follows None burst = Unit {0}
Follows (Some above) burst = IsNotAfter above burst

-- a burst that was taken follows the one above
in_order-ok : (at : ℕ) (above : Option Burst) (first burst : Burst) → in_order at above first ≡ Ok burst → (first ≡ burst) × Follows above burst
in_order-ok at None first burst is = (ok_is first burst is, tt)
in_order-ok at (Some above) first burst is =
    let tested = guard_ok (is_not_after above first) (P3, at) first burst is in
    (tested.1, subst (IsNotAfter above) tested.1 (IsNotAfter-tested above first tested.0))

pub burst_below-ok : (net : Net) (at : ℕ) (above : Option Burst) (ws : List (List ℕ)) (burst : Burst) → burst_below net at above ws ≡ Ok burst → (burst_in net at ws ≡ Ok burst) × Follows above burst
burst_below-ok net at above ws burst is =
    let first = bind_ok (burst_in net at ws) (λ b. in_order at above b) burst is in
    let taken = in_order-ok at above first.0 burst first.2 in
    (first.1 ∙ ap (λ (b : Burst). Ok b) taken.0, taken.1)

-- the last of these bursts is the one above
abbrev pub IsAbove : Option Burst → List Burst → Type 0
IsAbove None bursts = length bursts ≡ 0
IsAbove (Some above) bursts = All (λ burst. IsNotAfter burst above) bursts

all_before : (above : Option Burst) (burst : Burst) (bursts : List Burst) → IsAbove above bursts → Follows above burst → All (λ b. IsNotAfter b burst) bursts
all_before None burst bursts none follows k d within = absurd (omega arith)
all_before (Some above) burst bursts below follows k d within = IsNotAfter-then (get_or bursts k d) above burst (below k d within) follows

-- bursts in order, the last of which is the one above
pub record AreInOrder (above : Option Burst) (bursts : List Burst) : Type 0 where
  pub ordered : AllPairs IsNotAfter bursts
  pub last : IsAbove above bursts

pub in_order_more : (net : Net) (at : ℕ) (above : Option Burst) (ws : List (List ℕ)) (burst : Burst) (bursts : List Burst) → burst_below net at above ws ≡ Ok burst
    → AreInOrder above bursts → AreInOrder (Some burst) (bursts ++ burst ∷ [])
in_order_more net at above ws burst bursts is so_far =
    let before = all_before above burst bursts so_far.last (burst_below-ok net at above ws burst is).1 in
    let itself = IsNotAfter-itself burst in
    record {
      ordered = all_pairs_push IsNotAfter bursts burst so_far.ordered (λ k d within. before k d within);
      last = All-append (λ b. IsNotAfter b burst) bursts (burst ∷ []) before (All-cons (λ b. IsNotAfter b burst) burst [] itself (All-nil (λ b. IsNotAfter b burst)));
    }

-- the first line of the bursts, and those that follow it
bursts_in-line : (net : Net) (at : ℕ) (above : Option Burst) (line after : List ℕ) → bursts_in net at above (line ∷ lines after) ≡ cond (is_word (codes "end") line) (plan_end (at + 1) (lines after)) (burst_below net at above (words line) >>= λ burst. bursts_in net (at + 1) (Some burst) (lines after) >>= λ bursts. Ok (burst ∷ bursts))
bursts_in-line net at above line after =
    let next = lines-HasFirst after in
    rw next.2 refl

-- one burst further
pub goes_on : (net : Net) (at : ℕ) (above : Option Burst) (front : List Burst) (ls : List (List ℕ)) (line after : List ℕ) (burst : Burst) (total : Reading (List Burst))
    → ls ≡ line ∷ lines after → is_word (codes "end") line ≡ false → burst_below net at above (words line) ≡ Ok burst
    → with_front front (bursts_in net at above ls) ≡ total → with_front (front ++ burst ∷ []) (bursts_in net (at + 1) (Some burst) (lines after)) ≡ total
goes_on net at above front ls line after burst total cut no_end read so_far =
    let one : bursts_in net at above ls ≡ (bursts_in net (at + 1) (Some burst) (lines after) >>= λ bursts. Ok (burst ∷ bursts)) = ap (bursts_in net at above) cut ∙ bursts_in-line net at above line after ∙ rw (no_end, read) refl in
    sym (regroup front burst (bursts_in net (at + 1) (Some burst) (lines after))) ∙ sym (ap (with_front front) one) ∙ so_far

-- a line that is no burst is the text's fault
pub ends : (e : LineFault TextCode) (net : Net) (at : ℕ) (above : Option Burst) (front : List Burst) (ls : List (List ℕ)) (line after : List ℕ) (total : Reading (List Burst))
    → ls ≡ line ∷ lines after → is_word (codes "end") line ≡ false → IsFaultOf (burst_below net at above (words line)) e
    → with_front front (bursts_in net at above ls) ≡ total → IsFaultOf total e
ends OutOfMemory net at above front ls line after total cut no_end read so_far = tt
ends (At code line') net at above front ls line after total cut no_end read so_far =
    let one : bursts_in net at above ls ≡ Err (code, line') = ap (bursts_in net at above) cut ∙ bursts_in-line net at above line after ∙ rw (no_end, read) refl in
    sym so_far ∙ ap (with_front front) one

-- behind the end
plan_end-is : (at : ℕ) (text : List ℕ) (empty : Bool) → eqb (length text) 0 ≡ empty → plan_end at (lines text) ≡ cond empty (Ok []) (Err (P1, at))
plan_end-is at [] true e = refl
plan_end-is at [] false e = absurd cc
plan_end-is at (b ∷ rest) true e = let none : suc (length rest) ≡ 0 = eqb-true (suc (length rest)) 0 e in absurd (omega arith)
plan_end-is at (b ∷ rest) false e =
    elim (lines_after_end b rest) [
      | inl gap ↦ rw gap.2 refl
      | inr more ↦ rw more.2 refl
    ]

with_front-end : (front : List Burst) (empty : Bool) (at : ℕ) → with_front {Fault = Fault} front (cond empty (Ok []) (Err (P1, at))) ≡ cond empty (Ok front) (Err (P1, at))
with_front-end front true at = ap (λ (all : List Burst). Ok all) (append-nil front)
with_front-end front false at = refl

-- the end, and what stands behind it
pub ends_there : (net : Net) (at : ℕ) (above : Option Burst) (front : List Burst) (ls : List (List ℕ)) (line after : List ℕ) (total : Reading (List Burst))
    → ls ≡ line ∷ lines after → is_word (codes "end") line ≡ true
    → with_front front (bursts_in net at above ls) ≡ total → total ≡ cond (eqb (length after) 0) (Ok front) (Err (P1, at + 1))
ends_there net at above front ls line after total cut is_end so_far =
    let one : bursts_in net at above ls ≡ plan_end (at + 1) (lines after) = ap (bursts_in net at above) cut ∙ bursts_in-line net at above line after ∙ rw is_end refl in
    sym so_far ∙ ap (with_front front) (one ∙ plan_end-is (at + 1) after (eqb (length after) 0) refl) ∙ with_front-end front (eqb (length after) 0) (at + 1)

-- the modes that were read before stand in front of those that are still read
abbrev pub Parts : Type 0
Parts = List Mode × List Burst

abbrev pub with_modes : List Mode → Reading Parts → Reading Parts
with_modes front reading = reading >>= λ parts. Ok (front ++ parts.0, parts.1)

regroup_modes : (front : List Mode) (mode : Mode) (reading : Reading Parts) → with_modes front (reading >>= λ parts. Ok (mode ∷ parts.0, parts.1)) ≡ with_modes (front ++ mode ∷ []) reading
regroup_modes front mode (Ok parts) = ap (λ (modes : List Mode). let all : Parts = (modes, parts.1) in Ok all) (sym (append_assoc front (mode ∷ []) parts.0))
regroup_modes front mode (Err fault) = refl

-- the first line of the modes and bursts, and those that follow it
parts-line : (net : Net) (at : ℕ) (line after : List ℕ) → modes_and_bursts net at (line ∷ lines after) ≡ cond (is_mode (words line)) (or_fault (P1, at) (mode_in (length net.beams) (words line)) >>= λ mode. modes_and_bursts net (at + 1) (lines after) >>= λ parts. Ok (mode ∷ parts.0, parts.1)) (bursts_in net at None (line ∷ lines after) >>= λ bursts. Ok ([], bursts))
parts-line net at line after =
    let next = lines-HasFirst after in
    rw next.2 refl

-- one mode further
pub mode_goes_on : (net : Net) (at : ℕ) (front : List Mode) (ls : List (List ℕ)) (line after : List ℕ) (mode : Mode) (total : Reading Parts)
    → ls ≡ line ∷ lines after → is_mode (words line) ≡ true → or_fault {Fault = Fault} (P1, at) (mode_in (length net.beams) (words line)) ≡ Ok mode
    → with_modes front (modes_and_bursts net at ls) ≡ total → with_modes (front ++ mode ∷ []) (modes_and_bursts net (at + 1) (lines after)) ≡ total
mode_goes_on net at front ls line after mode total cut named read so_far =
    let one : modes_and_bursts net at ls ≡ (modes_and_bursts net (at + 1) (lines after) >>= λ parts. Ok (mode ∷ parts.0, parts.1)) = ap (modes_and_bursts net at) cut ∙ parts-line net at line after ∙ rw (named, read) refl in
    sym (regroup_modes front mode (modes_and_bursts net (at + 1) (lines after))) ∙ sym (ap (with_modes front) one) ∙ so_far

-- what the first line says, and what follows it
pub first_line_says : {A B : Type 0} (at : ℕ) (say : List (List ℕ) → Option A) (after : A → List (List ℕ) → Reading B) (ls : List (List ℕ)) (line rest : List ℕ)
    → ls ≡ line ∷ lines rest → first_says at say after ls ≡ (or_fault (P1, at) (say (words line)) >>= λ value. after value (lines rest))
first_line_says at say after ls line rest cut =
    let next = lines-HasFirst rest in
    ap (first_says at say after) cut ∙ rw next.2 refl
