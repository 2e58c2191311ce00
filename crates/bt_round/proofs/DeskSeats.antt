-- The desks of a round: which lines each has, what they ask and show, and what each was shown.
use Rattle.std.proofs.Common.{◌≡◌, ◌≢◌, ℕ, ◌+◌, ◌<◌, ◌==◌, if◌then◌else◌, Bool, true, false, List, [], ◌∷◌, ◌++◌, length, get_or, map, All, AllPairs, refl, sym, ap, ◌∙◌, ⊎_elim, length-append, arith}
use Rattle.std.specs.List.{flat_map}
use Rattle.std.proofs.lemmas.Bool.{cases_eq, eq-eqb, ne_eqb, eqb-true}
use Rattle.std.proofs.lemmas.Grind.{flat_map-append}
use Rattle.std.proofs.lemmas.List.{append-nil}
use Rattle.std.proofs.lemmas.List.Elements.{All-append, All-cons, All-head, All-map, All-nil, All-tail}
use Rattle.std.proofs.lemmas.List.Kept.{AllPairs-cons}
use Rattle.bt_frame.proofs.Pairs.{AllPairs-append, AllPairs-second, All-across}
use Rattle.bt_net.specs.Network.{Net}
use Rattle.bt_demand.specs.declared.plan.Plan.{Plan}
use Rattle.bt_journal.specs.declared.call.Call.{Call}
use Rattle.bt_script.specs.declared.script.DeskLine.{DeskLine}
use Rattle.bt_script.specs.Named.{IsLineFor}
use Rattle.bt_round.specs.Lent.{IsNoNewer}
use Rattle.bt_round.specs.Desks.{IsNotOlder, Sight, asked_by, asked_by_line, shown_by_line, shown_to, shows_of}
use Rattle.bt_round.specs.Seats.{lines_of}

-- a desk with its lines
abbrev pub Desk : Type 0
Desk = ℕ × List DeskLine

-- one desk comes before another
abbrev pub IsLower : Desk → Desk → Type 0
IsLower a b = a.0 < b.0

-- what the lines of a desk of that number give, and nothing of the other desks
abbrev pub given_by : {A : Type 0} → (DeskLine → List A) → ℕ → List Desk → List A
given_by f number desks = flat_map (λ (desk : Desk). if desk.0 == number then flat_map f desk.1 else []) desks

-- the first comes before all others
first_is_lower : (first : Desk) (rest : List Desk) → AllPairs IsLower (first ∷ rest) → All (IsLower first) rest
first_is_lower first rest pairs = All-head (λ (d : Desk). All (IsLower d) rest) first [] (All-across IsLower (first ∷ []) rest pairs)

others_ascend : (first : Desk) (rest : List Desk) → AllPairs IsLower (first ∷ rest) → AllPairs IsLower rest
others_ascend first rest pairs = AllPairs-second IsLower (first ∷ []) rest pairs

chosen : {A : Type 0} (test : Bool) (a b : List A) → test ≡ true → (if test then a else b) ≡ a
chosen test a b is = ap (λ (t : Bool). if t then a else b) is

passed_by : {A : Type 0} (test : Bool) (a b : List A) → test ≡ false → (if test then a else b) ≡ b
passed_by test a b is = ap (λ (t : Bool). if t then a else b) is

-- desks of other numbers give nothing
none_given : {A : Type 0} (f : DeskLine → List A) (number : ℕ) (desks : List Desk) → All (λ (desk : Desk). desk.0 ≢ number) desks → given_by f number desks ≡ []
none_given f number [] differ = refl
none_given {A} f number (first ∷ rest) differ =
    ap (λ (x : List A). x ++ given_by f number rest) (passed_by (first.0 == number) (flat_map f first.1) [] (ne_eqb first.0 number (All-head (λ (desk : Desk). desk.0 ≢ number) first rest differ)))
    ∙ none_given f number rest (All-tail (λ (desk : Desk). desk.0 ≢ number) first rest differ)

given_first : {A : Type 0} (f : DeskLine → List A) (number : ℕ) (first : Desk) (rest : List Desk) (test : Bool) → test ≡ (first.0 == number) → AllPairs IsLower (first ∷ rest)
    → given_by f number rest ≡ flat_map f (lines_of number rest) → given_by f number (first ∷ rest) ≡ flat_map f (lines_of number (first ∷ rest))
given_first {A} f number first rest true is pairs later =
    let same : first.0 ≡ number = eqb-true first.0 number (sym is) in
    let lower = first_is_lower first rest pairs in
    ap (λ (x : List A). x ++ given_by f number rest) (chosen (first.0 == number) (flat_map f first.1) [] (sym is))
    ∙ ap (λ (x : List A). flat_map f first.1 ++ x) (none_given f number rest (λ k d within. λ equal. absurd (omega (arith, same, equal, lower k d within))))
    ∙ append-nil (flat_map f first.1)
    ∙ ap (λ (l : List DeskLine). flat_map f l) (sym (chosen (first.0 == number) first.1 (lines_of number rest) (sym is)))
given_first {A} f number first rest false is pairs later =
    ap (λ (x : List A). x ++ given_by f number rest) (passed_by (first.0 == number) (flat_map f first.1) [] (sym is))
    ∙ later
    ∙ ap (λ (l : List DeskLine). flat_map f l) (sym (passed_by (first.0 == number) first.1 (lines_of number rest) (sym is)))

-- desks that ascend give what the lines of that number give
pub given_by_lines : {A : Type 0} (f : DeskLine → List A) (number : ℕ) (desks : List Desk) → AllPairs IsLower desks → given_by f number desks ≡ flat_map f (lines_of number desks)
given_by_lines f number [] pairs = refl
given_by_lines f number (first ∷ rest) pairs =
    given_first f number first rest (first.0 == number) refl pairs (given_by_lines f number rest (others_ascend first rest pairs))

next_test : (a b : ℕ) → (a + 1 == b + 1) ≡ (a == b)
next_test a b = ⊎_elim
    (λ (same : a ≡ b). eq-eqb (a + 1) (b + 1) (omega (arith, same)) ∙ sym (eq-eqb a b same))
    (λ (differ : a ≢ b). ne_eqb (a + 1) (b + 1) (λ same. differ (omega (arith, same))) ∙ sym (ne_eqb a b differ))
    (cases_eq a b)

asked_next : (number : ℕ) (desks : List Desk) → asked_by (number + 1) desks ≡ given_by asked_by_line number desks
asked_next number [] = refl
asked_next number (first ∷ rest) =
    ap (λ (t : Bool). (if t then flat_map asked_by_line first.1 else []) ++ asked_by (number + 1) rest) (next_test first.0 number)
    ∙ ap (λ (x : List Call). (if first.0 == number then flat_map asked_by_line first.1 else []) ++ x) (asked_next number rest)

-- a desk asks what its lines ask
pub asked_by_desk : (number : ℕ) (desks : List Desk) → AllPairs IsLower desks → flat_map asked_by_line (lines_of number desks) ≡ asked_by (number + 1) desks
asked_by_desk number desks pairs = sym (asked_next number desks ∙ given_by_lines asked_by_line number desks pairs)

-- a number that no desk has asks nothing
pub none_asked : (number : ℕ) (desks : List Desk) → All (λ (desk : Desk). desk.0 ≢ number) desks → asked_by (number + 1) desks ≡ []
none_asked number desks differ = asked_next number desks ∙ none_given asked_by_line number desks differ

-- each desk has its own lines
pub own_lines : (desks : List Desk) → AllPairs IsLower desks → All (λ (desk : Desk). lines_of desk.0 desks ≡ desk.1) desks
own_lines [] pairs = All-nil (λ (desk : Desk). lines_of desk.0 [] ≡ desk.1)
own_lines (first ∷ rest) pairs =
    let lower = first_is_lower first rest pairs in
    let there = own_lines rest (others_ascend first rest pairs) in
    All-cons (λ (desk : Desk). lines_of desk.0 (first ∷ rest) ≡ desk.1) first rest
    (chosen (first.0 == first.0) first.1 (lines_of first.0 rest) (eq-eqb first.0 first.0 refl))
    (λ k d within.
    passed_by (first.0 == (get_or rest k d).0) first.1 (lines_of (get_or rest k d).0 rest) (ne_eqb first.0 (get_or rest k d).0 (λ same. absurd (omega (arith, same, lower k d within))))
    ∙ there k d within)

lines_choice : (net : Net) (test : Bool) (one two : List DeskLine) → All (IsLineFor net) one → All (IsLineFor net) two → All (IsLineFor net) (if test then one else two)
lines_choice net true one two here there = here
lines_choice net false one two here there = there

-- the lines of a desk name terminals of the network
pub lines_name : (net : Net) (number : ℕ) (desks : List Desk) → All (λ (desk : Desk). All (IsLineFor net) desk.1) desks → All (IsLineFor net) (lines_of number desks)
lines_name net number [] all = All-nil (IsLineFor net)
lines_name net number (first ∷ rest) all =
    lines_choice net (first.0 == number) first.1 (lines_of number rest) (All-head (λ (desk : Desk). All (IsLineFor net) desk.1) first rest all)
    (lines_name net number rest (All-tail (λ (desk : Desk). All (IsLineFor net) desk.1) first rest all))

-- what a desk of that number sees: these plans
abbrev pub seen_by : ℕ → List Plan → List Sight
seen_by number shown = map (λ (plan : Plan). let s : Sight = record { desk = number; plan = plan } in s) shown

-- what the desks see in a round, each what it is shown
abbrev pub seen_in : (ℕ → List Plan) → List Desk → List Sight
seen_in shown desks = flat_map (λ (desk : Desk). seen_by desk.0 (shown desk.0)) desks

-- the plans of the sights of a desk of that number
abbrev chosen_plans : ℕ → Sight → List Plan
chosen_plans number sight = if sight.desk == number then sight.plan ∷ [] else []

all_chosen : (number : ℕ) (plans : List Plan) → shown_to number (seen_by number plans) ≡ plans
all_chosen number [] = refl
all_chosen number (plan ∷ plans) =
    ap (λ (x : List Plan). x ++ shown_to number (seen_by number plans)) (chosen (number == number) (plan ∷ []) [] (eq-eqb number number refl))
    ∙ ap (λ (x : List Plan). plan ∷ x) (all_chosen number plans)

none_chosen : (number desk : ℕ) (plans : List Plan) → desk ≢ number → shown_to number (seen_by desk plans) ≡ []
none_chosen number desk [] differ = refl
none_chosen number desk (plan ∷ plans) differ =
    ap (λ (x : List Plan). x ++ shown_to number (seen_by desk plans)) (passed_by (desk == number) (plan ∷ []) [] (ne_eqb desk number differ))
    ∙ none_chosen number desk plans differ

shown_to-append : (a b : List Sight) (desk : ℕ) → shown_to desk (a ++ b) ≡ shown_to desk a ++ shown_to desk b
shown_to-append a b desk = flat_map-append (chosen_plans desk) a b

shown_to_none : (shown : ℕ → List Plan) (number : ℕ) (desks : List Desk) → All (λ (desk : Desk). desk.0 ≢ number) desks → shown_to number (seen_in shown desks) ≡ []
shown_to_none shown number [] differ = refl
shown_to_none shown number (first ∷ rest) differ =
    shown_to-append (seen_by first.0 (shown first.0)) (seen_in shown rest) number
    ∙ ap (λ (x : List Plan). x ++ shown_to number (seen_in shown rest)) (none_chosen number first.0 (shown first.0) (All-head (λ (desk : Desk). desk.0 ≢ number) first rest differ))
    ∙ shown_to_none shown number rest (All-tail (λ (desk : Desk). desk.0 ≢ number) first rest differ)

-- of that, each desk has what it was shown
pub shown_to_each : (shown : ℕ → List Plan) (desks : List Desk) → AllPairs IsLower desks → All (λ (desk : Desk). shown_to desk.0 (seen_in shown desks) ≡ shown desk.0) desks
shown_to_each shown [] pairs = All-nil (λ (desk : Desk). shown_to desk.0 (seen_in shown []) ≡ shown desk.0)
shown_to_each shown (first ∷ rest) pairs =
    let lower = first_is_lower first rest pairs in
    let there = shown_to_each shown rest (others_ascend first rest pairs) in
    All-cons (λ (desk : Desk). shown_to desk.0 (seen_in shown (first ∷ rest)) ≡ shown desk.0) first rest
    (shown_to-append (seen_by first.0 (shown first.0)) (seen_in shown rest) first.0
    ∙ ap (λ (x : List Plan). x ++ shown_to first.0 (seen_in shown rest)) (all_chosen first.0 (shown first.0))
    ∙ ap (λ (x : List Plan). shown first.0 ++ x) (shown_to_none shown first.0 rest (λ k d within. λ same. absurd (omega (arith, same, lower k d within))))
    ∙ append-nil (shown first.0))
    (λ k d within.
    let desk = get_or rest k d in
    shown_to-append (seen_by first.0 (shown first.0)) (seen_in shown rest) desk.0
    ∙ ap (λ (x : List Plan). x ++ shown_to desk.0 (seen_in shown rest)) (none_chosen desk.0 first.0 (shown first.0) (λ same. absurd (omega (arith, same, lower k d within))))
    ∙ there k d within)

one_shown_as_often : (number : ℕ) (first : Desk) (plans : List Plan) → length plans ≡ length (flat_map shown_by_line first.1)
    → length (shown_to number (seen_by first.0 plans)) ≡ length (if first.0 == number then flat_map shown_by_line first.1 else [])
one_shown_as_often number first plans counted = ⊎_elim
    (λ (same : first.0 ≡ number).
    ap length (ap (λ (n : ℕ). shown_to n (seen_by first.0 plans)) (sym same) ∙ all_chosen first.0 plans)
    ∙ counted
    ∙ ap length (sym (chosen (first.0 == number) (flat_map shown_by_line first.1) [] (eq-eqb first.0 number same))))
    (λ (differ : first.0 ≢ number).
    ap length (none_chosen number first.0 plans differ) ∙ ap length (sym (passed_by (first.0 == number) (flat_map shown_by_line first.1) [] (ne_eqb first.0 number differ))))
    (cases_eq first.0 number)

-- each desk was shown as many plans as it has shows
pub shown_as_often : (shown : ℕ → List Plan) (number : ℕ) (desks : List Desk) → All (λ (desk : Desk). length (shown desk.0) ≡ length (flat_map shown_by_line desk.1)) desks
    → length (shown_to number (seen_in shown desks)) ≡ length (shows_of number desks)
shown_as_often shown number [] counted = refl
shown_as_often shown number (first ∷ rest) counted =
    let here = one_shown_as_often number first (shown first.0) (All-head (λ (desk : Desk). length (shown desk.0) ≡ length (flat_map shown_by_line desk.1)) first rest counted) in
    let there = shown_as_often shown number rest (All-tail (λ (desk : Desk). length (shown desk.0) ≡ length (flat_map shown_by_line desk.1)) first rest counted) in
    omega (
      arith,
      here,
      there,
      ap length (shown_to-append (seen_by first.0 (shown first.0)) (seen_in shown rest) number),
      length-append (shown_to number (seen_by first.0 (shown first.0))) (shown_to number (seen_in shown rest)),
      length-append (if first.0 == number then flat_map shown_by_line first.1 else []) (shows_of number rest),
    )

-- what holds of all plans that the desks were shown holds of all sights
pub all_seen : (P : Plan → Type 0) (shown : ℕ → List Plan) (desks : List Desk) → All (λ (desk : Desk). All P (shown desk.0)) desks → All (λ (sight : Sight). P sight.plan) (seen_in shown desks)
all_seen P shown [] all = All-nil (λ (sight : Sight). P sight.plan)
all_seen P shown (first ∷ rest) all =
    All-append (λ (sight : Sight). P sight.plan) (seen_by first.0 (shown first.0)) (seen_in shown rest)
    (All-map (λ (sight : Sight). P sight.plan) (λ (plan : Plan). let s : Sight = record { desk = first.0; plan = plan } in s) (shown first.0) (All-head (λ (desk : Desk). All P (shown desk.0)) first rest all))
    (all_seen P shown rest (All-tail (λ (desk : Desk). All P (shown desk.0)) first rest all))

own_ascend : (number : ℕ) (plans : List Plan) → AllPairs IsNoNewer plans → AllPairs IsNotOlder (seen_by number plans)
own_ascend number [] pairs = λ i j d less within. absurd (omega (arith, within))
own_ascend number (plan ∷ plans) pairs =
    let one : Sight = record { desk = number; plan = plan } in
    AllPairs-cons IsNotOlder one (seen_by number plans)
    (All-map (IsNotOlder one) (λ (later : Plan). let s : Sight = record { desk = number; plan = later } in s) plans
    (λ k d within. λ same. All-head (λ (p : Plan). All (IsNoNewer p) plans) plan [] (All-across IsNoNewer (plan ∷ []) plans pairs) k d within))
    (own_ascend number plans (AllPairs-second IsNoNewer (plan ∷ []) plans pairs))

of_number : (number : ℕ) (plans : List Plan) → All (λ (sight : Sight). sight.desk ≡ number) (seen_by number plans)
of_number number plans = All-map (λ (sight : Sight). sight.desk ≡ number) (λ (plan : Plan). let s : Sight = record { desk = number; plan = plan } in s) plans (λ k d within. refl)

of_higher : (shown : ℕ → List Plan) (number : ℕ) (desks : List Desk) → All (λ (desk : Desk). number < desk.0) desks → All (λ (sight : Sight). number < sight.desk) (seen_in shown desks)
of_higher shown number [] all = All-nil (λ (sight : Sight). number < sight.desk)
of_higher shown number (first ∷ rest) all =
    All-append (λ (sight : Sight). number < sight.desk) (seen_by first.0 (shown first.0)) (seen_in shown rest)
    (λ k d within. omega (arith, of_number first.0 (shown first.0) k d within, All-head (λ (desk : Desk). number < desk.0) first rest all))
    (of_higher shown number rest (All-tail (λ (desk : Desk). number < desk.0) first rest all))

-- where the plans of each desk ascend, none of its sights is older than one before
pub sights_ascend : (shown : ℕ → List Plan) (desks : List Desk) → AllPairs IsLower desks → All (λ (desk : Desk). AllPairs IsNoNewer (shown desk.0)) desks
    → AllPairs IsNotOlder (seen_in shown desks)
sights_ascend shown [] pairs all = λ i j d less within. absurd (omega (arith, within))
sights_ascend shown (first ∷ rest) pairs all =
    let higher = of_higher shown first.0 rest (first_is_lower first rest pairs) in
    AllPairs-append IsNotOlder (seen_by first.0 (shown first.0)) (seen_in shown rest)
    (own_ascend first.0 (shown first.0) (All-head (λ (desk : Desk). AllPairs IsNoNewer (shown desk.0)) first rest all))
    (sights_ascend shown rest (others_ascend first rest pairs) (All-tail (λ (desk : Desk). AllPairs IsNoNewer (shown desk.0)) first rest all))
    (λ k d within j e inside. λ same. absurd (omega (arith, same, of_number first.0 (shown first.0) k d within, higher j e inside)))
