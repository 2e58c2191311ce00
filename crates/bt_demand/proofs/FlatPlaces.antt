-- The links of rows by one place: a walk along the rows, and along each of them, is a walk along all links.
use Rattle.std.proofs.Common.{◌≡◌, ℕ, zero, suc, ◌+◌, ◌<◌, ◌≤◌, List, [], ◌∷◌, ◌++◌, length, take, get_or, refl, sym, ap, ◌∙◌, subst, arith}
use Rattle.std.proofs.lemmas.List.{get_or_append_left, get_or-append-add, get_or_read, length-append, take_all}
use Rattle.bt_demand.specs.declared.demand.Link.{Link}
use Rattle.bt_demand.specs.Rows.{all_links}

-- the place of a row's link among all links: behind those of the rows before it
abbrev pub flat_place : List (List Link) → ℕ → ℕ → ℕ
flat_place rows i j = length (all_links (take i rows)) + j

-- the link of a row stands there
pub flat_link : (rows : List (List Link)) (i j : ℕ) (d : Link) → i < length rows → j < length (get_or rows i [])
    → get_or (all_links rows) (flat_place rows i j) d ≡ get_or (get_or rows i []) j d
flat_link [] i j d within inside = absurd (omega arith)
flat_link (row ∷ rows) zero j d within inside =
    let here : 0 + j ≡ j = omega arith in
    ap (λ (n : ℕ). get_or (row ++ all_links rows) n d) here ∙ get_or_append_left row (all_links rows) d j inside
flat_link (row ∷ rows) (suc i) j d within inside =
    let long = length-append row (all_links (take i rows)) in
    let place : flat_place (row ∷ rows) (suc i) j ≡ length row + flat_place rows i j = omega (arith, long) in
    ap (λ (n : ℕ). get_or (row ++ all_links rows) n d) place
    ∙ (get_or-append-add row (all_links rows) (flat_place rows i j) d ∙ flat_link rows i j d (omega arith) inside)

pub flat_within : (rows : List (List Link)) (i j : ℕ) → i < length rows → j < length (get_or rows i []) → flat_place rows i j < length (all_links rows)
flat_within [] i j within inside = absurd (omega arith)
flat_within (row ∷ rows) zero j within inside = omega (arith, inside, length-append row (all_links rows))
flat_within (row ∷ rows) (suc i) j within inside =
    omega (arith, length-append row (all_links rows), length-append row (all_links (take i rows)), flat_within rows i j (omega arith) inside)

-- behind a row the next one begins
pub flat_next : (rows : List (List Link)) (i : ℕ) → i < length rows → flat_place rows (i + 1) 0 ≡ flat_place rows i (length (get_or rows i []))
flat_next [] i within = absurd (omega arith)
flat_next (row ∷ rows) zero within = omega (arith, length-append row [])
flat_next (row ∷ rows) (suc i) within =
    let more : suc i + 1 ≡ suc (i + 1) = omega arith in
    let long : length (all_links (take (suc i + 1) (row ∷ rows))) ≡ length row + length (all_links (take (i + 1) rows)) =
    ap (λ (n : ℕ). length (all_links (take n (row ∷ rows)))) more ∙ length-append row (all_links (take (i + 1) rows)) in
    let short : length (all_links (take (suc i) (row ∷ rows))) ≡ length row + length (all_links (take i rows)) = length-append row (all_links (take i rows)) in
    let here : length (get_or (row ∷ rows) (suc i) []) ≡ length (get_or rows i []) = refl in
    omega (arith, long, short, here, flat_next rows i (omega arith))

-- and behind the last row no link is left
pub flat_end : (rows : List (List Link)) (i : ℕ) → length rows ≤ i → flat_place rows i 0 ≡ length (all_links rows)
flat_end rows i past = omega (arith, ap (λ (r : List (List Link)). length (all_links r)) (take_all i rows past))

-- What the read of a link in the row that was read says of all links.
pub record IsFlat (rows : List (List Link)) (links : List Link) (i j : ℕ) (row : List Link) : Type 0 where
  pub within : flat_place rows i j < length links
  pub link : (d : Link) → get_or links (flat_place rows i j) d ≡ get_or row j d

pub flat : (rows : List (List Link)) (links : List Link) (i j : ℕ) (row item : List Link) → all_links rows ≡ links → i < length rows → row ≡ item
    → item ≡ get_or rows i item → j < length row → IsFlat rows links i j row
flat rows links i j row item all within same is inside =
    let read : row ≡ get_or rows i [] = same ∙ get_or_read rows i item within is [] in
    let there : j < length (get_or rows i []) = subst (λ (r : List Link). j < length r) read inside in
    record {
      within = subst (λ (l : List Link). flat_place rows i j < length l) all (flat_within rows i j within there);
      link = λ d. subst (λ (l : List Link). get_or l (flat_place rows i j) d ≡ get_or row j d) all
          (flat_link rows i j d within there ∙ ap (λ (r : List Link). get_or r j d) (sym read));
    }

-- at the end of a row the place is the next row's first
pub flat_turn : (rows : List (List Link)) (i j : ℕ) (row item : List Link) → i < length rows → row ≡ item → item ≡ get_or rows i item → length row ≤ j → j ≤ length row
    → flat_place rows i j ≡ flat_place rows (i + 1) 0
flat_turn rows i j row item within same is past inside =
    let read : row ≡ get_or rows i [] = same ∙ get_or_read rows i item within is [] in
    omega (arith, flat_next rows i within, ap (λ (r : List Link). length r) read, past, inside)

-- and one link more is one place more
pub flat_more : (rows : List (List Link)) (i j : ℕ) → flat_place rows i j + 1 ≡ flat_place rows i (j + 1)
flat_more rows i j = omega arith
