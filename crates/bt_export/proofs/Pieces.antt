-- What is found in one item after the other.
use Rattle.std.proofs.Common.{◌≡◌, ℕ, ◌+◌, ◌<◌, ◌≤◌, List, [], ◌∷◌, ◌++◌, length, get_or, take, flat_map, refl, ap, sym, ◌∙◌, append_assoc}
use Rattle.std.proofs.lemmas.List.{append-nil, take_all, take_more}
use Rattle.std.proofs.lemmas.List.Concat.{flat_map-append}
use Rattle.bt_demand.specs.declared.demand.Link.{Link}
use Rattle.bt_demand.specs.Rows.{all_links}
use Rattle.bt_export.specs.Edits.{more_than, surplus}

-- what is found in so many items and in one more
pub one_more : {A B : Type 0} (f : A → List B) (xs : List A) (k : ℕ) (x : A) (before now after : List B) → k < length xs → now ≡ before ++ flat_map f (take k xs)
    → after ≡ now ++ f (get_or xs k x) → after ≡ before ++ flat_map f (take (k + 1) xs)
one_more f xs k x before now after within so_far added =
    let last : flat_map f (get_or xs k x ∷ []) ≡ f (get_or xs k x) = append-nil (f (get_or xs k x)) in
    added
    ∙ (ap (λ (t : List _). t ++ f (get_or xs k x)) so_far
    ∙ (append_assoc before (flat_map f (take k xs)) (f (get_or xs k x))
    ∙ ap (λ (t : List _). before ++ t)
    (ap (λ (t : List _). flat_map f (take k xs) ++ t) (sym last) ∙ (sym (flat_map-append f (take k xs) (get_or xs k x ∷ [])) ∙ ap (flat_map f) (sym (take_more xs k x within))))))

-- what is found in all of them
pub all_of : {A B : Type 0} (f : A → List B) (xs : List A) (k : ℕ) (before now : List B) → length xs ≤ k → now ≡ before ++ flat_map f (take k xs) → now ≡ before ++ flat_map f xs
all_of f xs k before now past so_far = so_far ∙ ap (λ (l : List _). before ++ flat_map f l) (take_all k xs past)

-- what links of rows have beyond others, row by row
pub surplus_of_rows : (rows : List (List Link)) (others : List Link) → flat_map (λ row. surplus row others) rows ≡ surplus (all_links rows) others
surplus_of_rows [] others = refl
surplus_of_rows (row ∷ rows) others = ap (λ (l : List Link). surplus row others ++ l) (surplus_of_rows rows others) ∙ sym (flat_map-append (more_than others) row (all_links rows))
