-- What is made of messages one after the other, each with its number: who hears them, and their lines.
use Rattle.std.proofs.Common.{◌≡◌, ℕ, suc, ◌+◌, ◌-◌, ◌<◌, ◌≤◌, List, [], ◌∷◌, ◌++◌, length, take, drop, get_or, Option, Some, IfSome, refl, sym, ap, ◌∙◌, subst, append_assoc, slice_get, All, arith}
use Rattle.std.proofs.lemmas.List.{append-nil, get_or-drop, length-drop, length-take-le, take_more, take_rest}
use Rattle.std.proofs.lemmas.Option.{get_or_from_slice_get, slice_get-get_or, slice_get_within}
use Rattle.bt_frame.specs.declared.numbers.TermNo.{TermNo}
use Rattle.bt_net.specs.Network.{Net}
use Rattle.bt_air.specs.declared.sent.Place.{Place}
use Rattle.bt_air.specs.declared.sent.Aired.{Aired}
use Rattle.bt_air.specs.declared.sent.Aired.TheVariants.{Lost}
use Rattle.bt_air.specs.declared.sent.Sent.{Sent}
use Rattle.bt_air.specs.Sent.{sent_as}
use Rattle.bt_timeline.specs.Air.{NamesTerminal, sent_line}
use Rattle.bt_round.specs.Simulated.{sent_lines}
use Rattle.bt_round.specs.Waiting.{deliveries, deliveries_of, receivers}
use Rattle.bt_round.specs.Worker.{NamesOwn}

-- by what is made of one message with its number, and of messages from a number on
module _
    {A : Type 0} (one : ℕ → Aired → List A) (all : ℕ → List Aired → List A)
    (none : (n : ℕ) → all n [] ≡ [])
    (more : (n : ℕ) (x : Aired) (xs : List Aired) → all n (x ∷ xs) ≡ one n x ++ all (n + 1) xs)
  where
    last-number : (n : ℕ) (xs : List Aired) → n + 1 + length xs ≡ n + suc (length xs)
    last-number n xs = omega arith

    behind : (n : ℕ) (xs : List Aired) (x : Aired) → all n (xs ++ x ∷ []) ≡ all n xs ++ one (n + length xs) x
    behind n [] x =
        let here : n ≡ n + 0 = omega arith in
        more n x [] ∙ ap (λ (l : List A). one n x ++ l) (none (n + 1)) ∙ append-nil (one n x)
        ∙ ap (λ (k : ℕ). one k x) here ∙ ap (λ (l : List A). l ++ one (n + 0) x) (sym (none n))
    behind n (y ∷ xs) x =
        more n y (xs ++ x ∷ []) ∙ ap (λ (l : List A). one n y ++ l) (behind (n + 1) xs x)
        ∙ sym (append_assoc (one n y) (all (n + 1) xs) (one (n + 1 + length xs) x))
        ∙ ap (λ (l : List A). l ++ one (n + 1 + length xs) x) (sym (more n y xs))
        ∙ ap (λ (k : ℕ). all n (y ∷ xs) ++ one k x) (last-number n xs)

    step : (first k : ℕ) (xs : List Aired) (x : Aired) → first ≤ k → slice_get xs k ≡ Some x
        → all first (take (k + 1 - first) (drop first xs)) ≡ all first (take (k - first) (drop first xs)) ++ one k x
    step first k xs x from is =
        let within : k < length xs = slice_get_within xs k x is in
        let short : k - first < length (drop first xs) = omega (arith, length-drop first xs, within, from) in
        let place : first + (k - first) ≡ k = omega (arith, from) in
        let there : get_or (drop first xs) (k - first) x ≡ x =
        get_or-drop first xs (k - first) x ∙ ap (λ (i : ℕ). get_or xs i x) place ∙ get_or_from_slice_get xs k x x is in
        let next : k + 1 - first ≡ k - first + 1 = omega (arith, from) in
        let taken : take (k + 1 - first) (drop first xs) ≡ take (k - first) (drop first xs) ++ x ∷ [] =
        ap (λ (i : ℕ). take i (drop first xs)) next ∙ take_more (drop first xs) (k - first) x short
        ∙ ap (λ (y : Aired). take (k - first) (drop first xs) ++ y ∷ []) there in
        let size : length (take (k - first) (drop first xs)) ≡ k - first = length-take-le (k - first) (drop first xs) (omega (arith, short)) in
        let number : first + length (take (k - first) (drop first xs)) ≡ k = omega (arith, size, place) in
        ap (all first) taken ∙ behind first (take (k - first) (drop first xs)) x
        ∙ ap (λ (i : ℕ). all first (take (k - first) (drop first xs)) ++ one i x) number

    begun : (first : ℕ) (xs : List Aired) (before : List A) → before ≡ before ++ all first (take (first - first) (drop first xs))
    begun first xs before =
        let no : first - first ≡ 0 = omega arith in
        sym (append-nil before) ∙ ap (λ (l : List A). before ++ l) (sym (none first))
        ∙ ap (λ (i : ℕ). before ++ all first (take i (drop first xs))) (sym no)

    stepped : (first k : ℕ) (xs : List Aired) (x : Aired) (before now after : List A) → first ≤ k → slice_get xs k ≡ Some x
        → now ≡ before ++ all first (take (k - first) (drop first xs)) → after ≡ now ++ one k x
        → after ≡ before ++ all first (take (k + 1 - first) (drop first xs))
    stepped first k xs x before now after from is so added =
        added ∙ ap (λ (l : List A). l ++ one k x) so ∙ append_assoc before (all first (take (k - first) (drop first xs))) (one k x)
        ∙ ap (λ (l : List A). before ++ l) (sym (step first k xs x from is))

    ended : (first k : ℕ) (xs : List Aired) (before now : List A) → k ≡ length xs
        → now ≡ before ++ all first (take (k - first) (drop first xs)) → now ≡ before ++ all first (drop first xs)
    ended first k xs before now end so =
        so ∙ ap (λ (i : ℕ). before ++ all first (take (i - first) (drop first xs))) end
        ∙ ap (λ (l : List Aired). before ++ all first l) (take_rest xs first)

-- the message that has this number, and what holds of it
pub there : (P : Aired → Type 0) (xs : List Aired) (k : ℕ) → k < length xs → IfSome (slice_get xs k) P → (x : Aired) × (slice_get xs k ≡ Some x) × P x
there P xs k within holds =
    let is : slice_get xs k ≡ Some (get_or xs k (Lost (record { 0 = 0 }))) = slice_get-get_or xs k (Lost (record { 0 = 0 })) within in
    (get_or xs k (Lost (record { 0 = 0 })), is, subst (λ (o : Option Aired). IfSome o P) is holds)

-- and with one message more, which is printed so
pub deliveries-more : (everyone : List TermNo) (first k : ℕ) (xs : List Aired) (y : Sent) (before now after : List (ℕ × Place)) → first ≤ k → k < length xs
    → IfSome (slice_get xs k) (λ (one : Aired). y ≡ sent_as one)
    → now ≡ before ++ deliveries everyone first (take (k - first) (drop first xs)) → after ≡ now ++ deliveries_of k (receivers everyone y)
    → after ≡ before ++ deliveries everyone first (take (k + 1 - first) (drop first xs))
deliveries-more everyone first k xs y before now after from within is so added =
    let one = there (λ (one : Aired). y ≡ sent_as one) xs k within is in
    stepped (λ n x. deliveries_of n (receivers everyone (sent_as x))) (deliveries everyone) (λ n. refl) (λ n x l. refl) first k xs one.0 before now after from one.1 so
    (added ∙ ap (λ (s : Sent). now ++ deliveries_of k (receivers everyone s)) one.2)

-- and with one message more
pub lines-more : (net : Net) (first k : ℕ) (xs : List Aired) (y : Sent) (before now after : List ℕ) → first ≤ k → k < length xs
    → IfSome (slice_get xs k) (λ (one : Aired). y ≡ sent_as one)
    → now ≡ before ++ sent_lines net first (take (k - first) (drop first xs)) → after ≡ now ++ sent_line net k y
    → after ≡ before ++ sent_lines net first (take (k + 1 - first) (drop first xs))
lines-more net first k xs y before now after from within is so added =
    let one = there (λ (one : Aired). y ≡ sent_as one) xs k within is in
    stepped (λ n x. sent_line net n (sent_as x)) (sent_lines net) (λ n. refl) (λ n x l. refl) first k xs one.0 before now after from one.1 so
    (added ∙ ap (λ (s : Sent). now ++ sent_line net k s) one.2)

-- a message that is printed so names terminals of the network alone
pub names-there : (net : Net) (k : ℕ) (xs : List Aired) (y : Sent) → All (NamesOwn net) xs → k < length xs → IfSome (slice_get xs k) (λ (one : Aired). y ≡ sent_as one) → NamesTerminal net y
names-there net k xs y names within is =
    let one = there (λ (one : Aired). y ≡ sent_as one) xs k within is in
    subst (λ (s : Sent). NamesTerminal net s) (sym one.2)
    (subst (λ (x : Aired). NamesOwn net x) (get_or_from_slice_get xs k one.0 one.0 one.1) (names k one.0 within))
