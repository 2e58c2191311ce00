-- Parts that are added to a picture, one behind the other.
use Rattle.std.proofs.Common.{refl, arith, Bool, true, false, if◌then◌else◌, ◌≡◌, ℕ, ◌+◌, ◌<◌, ◌≤◌, List, [], ◌∷◌, ◌++◌, length, get_or, take, map, flat_map, OnOk, Ok, Err, Result, ap, sym, ◌∙◌, append_assoc}
use Rattle.std.specs.List.{range_with_len}
use Rattle.std.proofs.lemmas.List.{append-nil, take_more, take_all}
use Rattle.std.proofs.lemmas.List.Concat.{flat_map-append}
use Rattle.std.proofs.lemmas.List.FromFn.{map-range_with_len_more}
use Rattle.bt_picture.specs.Picture.{Part, part_text}
use Rattle.bt_plan_chart.specs.Parts.{parts_text}

-- one part alone
pub parts_text-one : (part : Part) → parts_text (part ∷ []) ≡ part_text part
unfolding parts_text
parts_text-one part = append-nil (part_text part)

-- one part was added, unless the step failed
pub on_one : {A B : Type 0} (result : Result A B) (part : Part) (before after : List ℕ) → OnOk result (after ≡ before ++ part_text part) → OnOk result (after ≡ before ++ parts_text (part ∷ []))
on_one (Ok _) part before after added = added ∙ ap (λ t. before ++ t) (sym (parts_text-one part))
on_one (Err _) part before after added = tt

pub parts_text-append : (one two : List Part) → parts_text (one ++ two) ≡ parts_text one ++ parts_text two
unfolding parts_text
parts_text-append one two = flat_map-append part_text one two

pub parts_text-none : parts_text [] ≡ []
unfolding parts_text
parts_text-none = refl

pub parts_text-is : (parts : List Part) → parts_text parts ≡ flat_map part_text parts
unfolding parts_text
parts_text-is parts = refl

-- some parts were added, and then some more
pub and_more : (one two : List Part) (before between after : List ℕ) → between ≡ before ++ parts_text one → after ≡ between ++ parts_text two → after ≡ before ++ parts_text (one ++ two)
and_more one two before between after first second =
    second ∙ ap (λ t. t ++ parts_text two) first ∙ append_assoc before (parts_text one) (parts_text two) ∙ ap (λ t. before ++ t) (sym (parts_text-append one two))

-- the same, where the last step may have failed
pub and_then : {A B : Type 0} (result : Result A B) (one two : List Part) (before between after : List ℕ) → between ≡ before ++ parts_text one → OnOk result (after ≡ between ++ parts_text two) → OnOk result (after ≡ before ++ parts_text (one ++ two))
and_then (Ok _) one two before between after first second = and_more one two before between after first second
and_then (Err _) one two before between after first second = tt

-- no parts were added yet
pub none_yet : (before : List ℕ) → before ≡ before ++ parts_text []
none_yet before = sym (append-nil before) ∙ ap (λ t. before ++ t) (sym parts_text-none)

-- parts that are left out
pub left_out : (test : Bool) (parts : List Part) (before : List ℕ) → test ≡ false → before ≡ before ++ parts_text (if test then parts else [])
left_out false parts before none = none_yet before
left_out true parts before none = cc

-- the parts of so many items, and those of one more
pub one_more : {A : Type 0} (f : A → List Part) (xs : List A) (k : ℕ) (x : A) (before between after : List ℕ) → k < length xs → between ≡ before ++ parts_text (flat_map f (take k xs))
    → after ≡ between ++ parts_text (f (get_or xs k x)) → after ≡ before ++ parts_text (flat_map f (take (k + 1) xs))
one_more f xs k x before between after within first second =
    and_more (flat_map f (take k xs)) (f (get_or xs k x)) before between after first second
    ∙ ap (λ parts. before ++ parts_text parts) (ap (λ l. flat_map f (take k xs) ++ l) (sym (append-nil (f (get_or xs k x)))) ∙ sym (flat_map-append f (take k xs) (get_or xs k x ∷ [])) ∙ ap (flat_map f) (sym (take_more xs k x within)))

pub all_of : {A : Type 0} (f : A → List Part) (xs : List A) (k : ℕ) (before between : List ℕ) → length xs ≤ k → between ≡ before ++ parts_text (flat_map f (take k xs)) → between ≡ before ++ parts_text (flat_map f xs)
all_of f xs k before between past first = first ∙ ap (λ l. before ++ parts_text (flat_map f l)) (take_all k xs past)

-- some parts, and then those of so many numbers and of one more
pub next_number : (f : ℕ → Part) (head : List Part) (k : ℕ) (before between after : List ℕ) → between ≡ before ++ parts_text (head ++ map f (range_with_len 0 k))
    → after ≡ between ++ parts_text (f k ∷ []) → after ≡ before ++ parts_text (head ++ map f (range_with_len 0 (k + 1)))
next_number f head k before between after first second =
    and_more (head ++ map f (range_with_len 0 k)) (f k ∷ []) before between after first second
    ∙ ap (λ parts. before ++ parts_text parts) (append_assoc head (map f (range_with_len 0 k)) (f k ∷ []) ∙ ap (λ l. head ++ l) (sym (map-range_with_len_more f 0 k k (omega arith))))

-- the parts of all numbers were added
pub all_numbers : (f : ℕ → Part) (head : List Part) (count k : ℕ) (before between : List ℕ) → k ≡ count → between ≡ before ++ parts_text (head ++ map f (range_with_len 0 k)) → between ≡ before ++ parts_text (head ++ map f (range_with_len 0 count))
all_numbers f head count k before between same first = first ∙ ap (λ n. before ++ parts_text (head ++ map f (range_with_len 0 n))) same

same_numbers : (xs : List ℕ) → map (λ (x : ℕ). x) xs ≡ xs
same_numbers [] = refl
same_numbers (x ∷ xs) = ap (λ l. x ∷ l) (same_numbers xs)

range_more : (n : ℕ) → range_with_len 0 (n + 1) ≡ range_with_len 0 n ++ n ∷ []
range_more n = sym (same_numbers (range_with_len 0 (n + 1))) ∙ map-range_with_len_more (λ (x : ℕ). x) 0 n n (omega arith) ∙ ap (λ l. l ++ n ∷ []) (same_numbers (range_with_len 0 n))

-- four texts behind one
pub four_behind : (before a b c d : List ℕ) → before ++ a ++ b ++ c ++ d ≡ before ++ (a ++ b ++ c ++ d)
four_behind before a b c d = ap (λ t. t ++ d) (ap (λ t. t ++ c) (append_assoc before a b) ∙ append_assoc before (a ++ b) c) ∙ append_assoc before (a ++ b ++ c) d

-- the texts of so many numbers, and that of one more
pub next_text : (f : ℕ → List ℕ) (k : ℕ) (between after : List ℕ) → between ≡ flat_map f (range_with_len 0 k) → after ≡ between ++ f k → after ≡ flat_map f (range_with_len 0 (k + 1))
next_text f k between after first second =
    second ∙ ap (λ t. t ++ f k) first ∙ ap (λ t. flat_map f (range_with_len 0 k) ++ t) (sym (append-nil (f k)))
    ∙ sym (flat_map-append f (range_with_len 0 k) (k ∷ [])) ∙ ap (flat_map f) (sym (range_more k))

-- the parts of so many numbers, each of which may have any parts
pub next_parts : (f : ℕ → List Part) (k : ℕ) (before between after : List ℕ) → between ≡ before ++ parts_text (flat_map f (range_with_len 0 k))
    → after ≡ between ++ parts_text (f k) → after ≡ before ++ parts_text (flat_map f (range_with_len 0 (k + 1)))
next_parts f k before between after first second =
    and_more (flat_map f (range_with_len 0 k)) (f k) before between after first second
    ∙ ap (λ parts. before ++ parts_text parts) (ap (λ l. flat_map f (range_with_len 0 k) ++ l) (sym (append-nil (f k))) ∙ sym (flat_map-append f (range_with_len 0 k) (k ∷ [])) ∙ ap (flat_map f) (sym (range_more k)))
