-- What is sent to several terminals, one after the other.
use Rattle.std.proofs.Common.{◌≡◌, ℕ, zero, suc, ◌+◌, ◌<◌, ◌≤◌, ◌&&◌, Bool, true, false, List, [], ◌∷◌, ◌++◌, cond, filter, length, map, refl, sym, ◌∙◌, ap, arith, append_assoc}
use Rattle.std.specs.List.{range_with_len}
use Rattle.std.proofs.lemmas.List.{append-nil, length-map, map-append}
use Rattle.std.proofs.lemmas.List.FromFn.{filter_of_map_range_with_len_more, length-map-range_with_len}
use Rattle.bt_frame.proofs.OneNumber.{numbered}
use Rattle.bt_frame.specs.declared.numbers.Command.{Command}
use Rattle.bt_frame.specs.declared.numbers.EditionNo.{EditionNo}
use Rattle.bt_frame.specs.declared.numbers.TermNo.{TermNo}
use Rattle.bt_air.specs.declared.sent.Aired.{Aired}
use Rattle.bt_air.specs.declared.sent.Aired.TheVariants as sends
use Rattle.bt_machines.specs.Terminals.{terminals_of}
use Rattle.bt_machines.specs.Says.{plans_for}

-- one terminal more
next-one : (p : TermNo → Bool) (load : Command) (edition : EditionNo) (k : ℕ) (test : Bool) → p (numbered k) ≡ test
    → plans_for (filter p (terminals_of (k + 1))) load edition ≡ plans_for (filter p (terminals_of k)) load edition ++ (cond test (sends.PlanFor (numbered k) load edition ∷ []) [])
next-one p load edition k true e =
    ap (λ (list : List TermNo). plans_for list load edition) (filter_of_map_range_with_len_more p numbered 0 k k (omega arith))
    ∙ ap (λ (b : Bool). plans_for (filter p (terminals_of k) ++ cond b (numbered k ∷ []) []) load edition) e
    ∙ map-append (λ (to : TermNo). sends.PlanFor to load edition) (filter p (terminals_of k)) (numbered k ∷ [])
next-one p load edition k false e =
    ap (λ (list : List TermNo). plans_for list load edition) (filter_of_map_range_with_len_more p numbered 0 k k (omega arith))
    ∙ ap (λ (b : Bool). plans_for (filter p (terminals_of k) ++ cond b (numbered k ∷ []) []) load edition) e
    ∙ map-append (λ (to : TermNo). sends.PlanFor to load edition) (filter p (terminals_of k)) []

pub sends-one : (p : TermNo → Bool) (load : Command) (edition : EditionNo) (k : ℕ) (before old next : List Aired) → p (record { 0 = k }) ≡ true → old ≡ before ++ plans_for (filter p (terminals_of k)) load edition
    → next ≡ old ++ sends.PlanFor (record { 0 = k }) load edition ∷ [] → next ≡ before ++ plans_for (filter p (terminals_of (k + 1))) load edition
sends-one p load edition k before old next passes so more =
    more ∙ ap (λ (list : List Aired). list ++ sends.PlanFor (numbered k) load edition ∷ []) so
    ∙ append_assoc before (plans_for (filter p (terminals_of k)) load edition) (sends.PlanFor (numbered k) load edition ∷ [])
    ∙ ap (λ (list : List Aired). before ++ list) (sym (next-one p load edition k true passes))

pub sends-none : (p : TermNo → Bool) (load : Command) (edition : EditionNo) (k : ℕ) (before old : List Aired) → p (record { 0 = k }) ≡ false → old ≡ before ++ plans_for (filter p (terminals_of k)) load edition
    → old ≡ before ++ plans_for (filter p (terminals_of (k + 1))) load edition
sends-none p load edition k before old fails so =
    so ∙ ap (λ (list : List Aired). before ++ list) (sym (next-one p load edition k false fails ∙ append-nil (plans_for (filter p (terminals_of k)) load edition)))

short-by : (test : Bool) (to : TermNo) (kept : List TermNo) (n : ℕ) → length kept ≤ n → length (cond test (to ∷ kept) kept) ≤ n + 1
short-by true to kept n le = omega (arith, le)
short-by false to kept n le = omega (arith, le)

filter-short : (p : TermNo → Bool) (list : List TermNo) → length (filter p list) ≤ length list
filter-short p [] = omega arith
filter-short p (to ∷ list) = omega (arith, short-by (p to) to (filter p list) (length list) (filter-short p list))

-- no more than there are terminals
pub plans-few : (p : TermNo → Bool) (load : Command) (edition : EditionNo) (n : ℕ) → length (plans_for (filter p (terminals_of n)) load edition) ≤ n
plans-few p load edition n =
    omega (arith, length-map (filter p (terminals_of n)) (λ (to : TermNo). sends.PlanFor to load edition), filter-short p (terminals_of n), length-map-range_with_len numbered 0 n)

-- tests that agree below pass the same
filter-agrees : (p q : TermNo → Bool) (first n : ℕ) → ((k : ℕ) → k < first + n → p (numbered k) ≡ q (numbered k)) → filter p (map numbered (range_with_len first n)) ≡ filter q (map numbered (range_with_len first n))
filter-agrees p q first zero agree = refl
filter-agrees p q first (suc n) agree =
    let rest = filter-agrees p q (first + 1) n (λ k within. agree k (omega (arith, within))) in
    let others = map numbered (range_with_len (first + 1) n) in
    ap (λ (b : Bool). cond b (numbered first ∷ filter p others) (filter p others)) (agree first (omega arith))
    ∙ ap (λ (list : List TermNo). cond (q (numbered first)) (numbered first ∷ list) list) rest

pub same-filter : (p q : TermNo → Bool) (n : ℕ) → ((terminal : TermNo) → terminal.0 < n → p terminal ≡ q terminal) → filter p (terminals_of n) ≡ filter q (terminals_of n)
same-filter p q n agree = filter-agrees p q 0 n (λ k within. agree (numbered k) (omega (arith, within)))

both-by : (a : Bool) (q : TermNo → Bool) (to : TermNo) (kept both : List TermNo) → filter q kept ≡ both → filter q (cond a (to ∷ kept) kept) ≡ cond (a && q to) (to ∷ both) both
both-by true q to kept both e = ap (λ (list : List TermNo). cond (q to) (to ∷ list) list) e
both-by false q to kept both e = e

-- one test after the other
pub filter-both : (p q : TermNo → Bool) (list : List TermNo) → filter q (filter p list) ≡ filter (λ (to : TermNo). p to && q to) list
filter-both p q [] = refl
filter-both p q (to ∷ list) = both-by (p to) q to (filter p list) (filter (λ (t : TermNo). p t && q t) list) (filter-both p q list)
