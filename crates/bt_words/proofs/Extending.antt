-- A text that grows once more is still the first one with more behind it.
use Rattle.std.proofs.Common.{arith, refl, ◌≡◌, ℕ, ◌+◌, ◌<◌, ◌≤◌, List, [], ◌∷◌, ◌++◌, length, get_or, take, map, flat_map, Result, Ok, Err, OnOk, OnErr, ap, sym, ◌∙◌, append_assoc}
use Rattle.std.proofs.lemmas.List.{append-nil, take_more, take_all}
use Rattle.std.proofs.lemmas.List.Concat.{flat_map-append}
use Rattle.bt_words.specs.Lines.{line_of, spaced_out}
use Rattle.bt_words.specs.Written.{Extends}

pub extends_on : (before between more after : List ℕ) → between ≡ before ++ more → Extends between after → Extends before after
extends_on before between more after first (further, is) = (more ++ further, is ∙ ap (λ x. x ++ further) first ∙ append_assoc before more further)

-- three pieces were added, one behind the other, and the last of them may have failed
pub three_behind : {A B : Type 0} (result : Result A B) (before one two after x y z : List ℕ) → one ≡ before ++ x → two ≡ one ++ y → OnOk result (after ≡ two ++ z) → OnOk result (after ≡ before ++ ((x ++ y) ++ z))
three_behind (Ok _) before one two after x y z first second third =
    third ∙ ap (λ t. t ++ z) (second ∙ ap (λ t. t ++ y) first ∙ append_assoc before x y) ∙ append_assoc before (x ++ y) z
three_behind (Err _) before one two after x y z first second third = tt

-- what two steps added, one behind the other
pub two_behind : (before one two x y : List ℕ) → one ≡ before ++ x → two ≡ one ++ y → two ≡ before ++ (x ++ y)
two_behind before one two x y first second = second ∙ ap (λ t. t ++ y) first ∙ append_assoc before x y

-- the pieces of so many items and of one more were added
pub one_more : {A : Type 0} (f : A → List ℕ) (xs : List A) (k : ℕ) (x : A) (before now after : List ℕ) → k < length xs → now ≡ before ++ flat_map f (take k xs)
    → after ≡ now ++ f (get_or xs k x) → after ≡ before ++ flat_map f (take (k + 1) xs)
one_more f xs k x before now after within so_far added =
    let last : flat_map f (get_or xs k x ∷ []) ≡ f (get_or xs k x) = append-nil (f (get_or xs k x)) in
    two_behind before now after (flat_map f (take k xs)) (f (get_or xs k x)) so_far added
    ∙ ap (λ t. before ++ t) (ap (λ t. flat_map f (take k xs) ++ t) (sym last) ∙ sym (flat_map-append f (take k xs) (get_or xs k x ∷ [])) ∙ ap (flat_map f) (sym (take_more xs k x within)))

-- the pieces of all items were added
pub all_of : {A : Type 0} (f : A → List ℕ) (xs : List A) (k : ℕ) (before now : List ℕ) → length xs ≤ k → now ≡ before ++ flat_map f (take k xs) → now ≡ before ++ flat_map f xs
all_of f xs k before now past so_far = so_far ∙ ap (λ l. before ++ flat_map f l) (take_all k xs past)

-- words with a space between each two
abbrev pub words_of : List (List ℕ) → List ℕ
words_of [] = []
words_of (first ∷ rest) = first ++ spaced_out rest

-- a line is its words and a newline
pub line_is : (words : List (List ℕ)) → line_of words ≡ words_of words ++ 10 ∷ []
line_is [] = refl
line_is (first ∷ rest) = refl

-- no words are no text
pub none_of : {A : Type 0} (f : A → List ℕ) (words : List A) → length words ≡ 0 → words_of (map f words) ≡ []
none_of f [] none = refl
none_of f (first ∷ rest) none = absurd (omega (arith, none))

-- a line that was added, or left out
pub line_extends : {A B : Type 0} (result : Result A B) (before after line : List ℕ) → OnOk result (after ≡ before ++ line) → OnErr result (after ≡ before) → Extends before after
line_extends (Ok _) before after line added same = (line, added)
line_extends (Err _) before after line added same = ([], same ∙ sym (append-nil before))

-- a text that grew twice
pub extends_again : (before between after : List ℕ) → Extends before between → Extends between after → Extends before after
extends_again before between after (first, is) (second, then) = (first ++ second, then ∙ ap (λ x. x ++ second) is ∙ append_assoc before first second)
