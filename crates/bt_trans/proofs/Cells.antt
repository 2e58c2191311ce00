-- The line sums of a bordered matrix.
use Rattle.std.proofs.Common.{◌≡◌, ℕ, zero, suc, ◌+◌, ◌-◌, ◌*◌, ◌<◌, ◌≤◌, min, sym, ap, ◌∙◌, refl, inl, inr, arith}
use Rattle.std.proofs.lemmas.Bool.{cases_lt}
use Rattle.bt_frame.proofs.Totals.{total, total-same, total-add}
use Rattle.bt_trans.specs.Border.{cut, overlap, bordered_cut, AreCells}

-- the next piece
pub cut-next : (wants : ℕ → ℕ) (n : ℕ) → cut wants (n + 1) ≡ cut wants n + wants n
cut-next wants n = ap (cut wants) (let e : n + 1 ≡ suc n = omega arith in e)

-- pieces lie behind each other
pub cut-le : (wants : ℕ → ℕ) (m n : ℕ) → m ≤ n → cut wants m ≤ cut wants n
cut-le wants m zero le = let e : m ≡ 0 = omega arith in omega (arith, ap (cut wants) e)
cut-le wants m (suc n) le = elim (cases_lt m (suc n)) [
  | inl less ↦ let rest : cut wants m ≤ cut wants n = cut-le wants m n (omega arith) in omega arith
  | inr same ↦ let e : m ≡ suc n = omega arith in omega (arith, ap (cut wants) e)
]

-- a piece cut in two
overlap-join : (a b x y z : ℕ) → a ≤ b → x ≤ y → y ≤ z → overlap a b x y + overlap a b y z ≡ overlap a b x z
overlap-join a b x y z ab xy yz = omega arith

overlap-swap : (a b x y : ℕ) → overlap a b x y ≡ overlap x y a b
overlap-swap a b x y = omega arith

-- cuts that rise
rising : (c : ℕ → ℕ) (m : ℕ) → ((j : ℕ) → c j ≤ c (j + 1)) → c 0 ≤ c m
rising c zero up = omega arith
rising c (suc m) up = let e : m + 1 ≡ suc m = omega arith in omega (arith, rising c m up, up m, ap c e)

rest_and : (m a b : ℕ) (c : ℕ → ℕ) → total m (λ j. overlap a b (c j) (c (j + 1))) ≡ overlap a b (c 0) (c m)
    → overlap a b (c 0) (c m) + overlap a b (c m) (c (m + 1)) ≡ overlap a b (c 0) (c (m + 1))
    → total (suc m) (λ j. overlap a b (c j) (c (j + 1))) ≡ overlap a b (c 0) (c (m + 1))
rest_and m a b c rest joined = ap (λ (x : ℕ). x + overlap a b (c m) (c (m + 1))) rest ∙ joined

-- all parts of a piece
overlaps : (m a b : ℕ) (c : ℕ → ℕ) → a ≤ b → ((j : ℕ) → c j ≤ c (j + 1)) → total m (λ j. overlap a b (c j) (c (j + 1))) ≡ overlap a b (c 0) (c m)
overlaps zero a b c ab up = omega arith
overlaps (suc m) a b c ab up =
    let e : m + 1 ≡ suc m = omega arith in
    let same : c (m + 1) ≡ c (suc m) = ap c e in
    let rest : total m (λ j. overlap a b (c j) (c (j + 1))) ≡ overlap a b (c 0) (c m) = overlaps m a b c ab up in
    let joined = overlap-join a b (c 0) (c m) (c (m + 1)) ab (rising c m up) (up m) in
    rw (← same) (rest_and m a b c rest joined)

-- the inner cuts, and those of the border
bordered_cut-old : (size inner sum : ℕ) (wants : ℕ → ℕ) (j : ℕ) → j ≤ size → bordered_cut size inner sum wants j ≡ min (cut wants j) inner
bordered_cut-old size inner sum wants j below =
    let e : min j size ≡ j = omega arith in
    let none : (j - size) * sum ≡ 0 = let z : j - size ≡ 0 = omega arith in ap (λ (x : ℕ). x * sum) z ∙ omega arith in
    omega (arith, ap (cut wants) e, none)

bordered_cut-new : (size inner sum : ℕ) (wants : ℕ → ℕ) (t : ℕ) → inner ≤ cut wants size → bordered_cut size inner sum wants (size + t) ≡ inner + t * sum
bordered_cut-new size inner sum wants t enough =
    let e : min (size + t) size ≡ size = omega arith in
    let z : size + t - size ≡ t = omega arith in
    omega (arith, ap (cut wants) e, ap (λ (x : ℕ). x * sum) z)

bordered_cut-rises : (size inner sum : ℕ) (wants : ℕ → ℕ) (j : ℕ) → bordered_cut size inner sum wants j ≤ bordered_cut size inner sum wants (j + 1)
bordered_cut-rises size inner sum wants j =
    let first = cut-le wants (min j size) (min (j + 1) size) (omega arith) in
    let second : (j - size) * sum ≤ (j + 1 - size) * sum = grind arith in
    omega (arith, first, second)

-- What the lines want fits: all rows together want what all columns do, `inner` in the old part and the sum in each line of the border.
pub record AreWants (size border inner sum : ℕ) (rows_want columns_want : ℕ → ℕ) : Type 0 where
  pub of_rows : cut rows_want size ≡ inner + border * sum
  pub of_columns : cut columns_want size ≡ inner + border * sum

-- an old row
pub upper_total : (size border inner sum : ℕ) (rows_want columns_want : ℕ → ℕ) (own cell : ℕ → ℕ → ℕ) (i : ℕ)
    → AreWants size border inner sum rows_want columns_want → AreCells size border inner sum rows_want columns_want own cell
    → i < size → total (size + border) (cell i) ≡ total (size + border) (own i) + rows_want i
upper_total size border inner sum rows_want columns_want own cell i wants cells inside =
    let a = cut rows_want i in
    let b = cut rows_want (i + 1) in
    let c = bordered_cut size inner sum columns_want in
    let parts = total-same (size + border) (cell i) (λ j. own i j + overlap a b (c j) (c (j + 1))) (λ j below. cells.upper i j inside below) in
    let split = total-add (size + border) (own i) (λ j. overlap a b (c j) (c (j + 1))) in
    let next = cut-next rows_want i in
    let joined = overlaps (size + border) a b c (omega (arith, next)) (bordered_cut-rises size inner sum columns_want) in
    let begin : c 0 ≡ 0 = omega (arith, bordered_cut-old size inner sum columns_want 0 (omega arith)) in
    let end : c (size + border) ≡ inner + border * sum = bordered_cut-new size inner sum columns_want border (omega (arith, wants.of_columns)) in
    let last = cut-le rows_want (i + 1) size (omega arith) in
    omega (arith, parts, split, joined, begin, end, last, next, wants.of_rows)

-- a sum whose last parts are zero
pub total-past : (n b : ℕ) (f : ℕ → ℕ) → ((t : ℕ) → t < b → f (n + t) ≡ 0) → total (n + b) f ≡ total n f
total-past n zero f none = ap (λ (m : ℕ). total m f) (let e : n + 0 ≡ n = omega arith in e)
total-past n (suc b) f none =
    let e : n + suc b ≡ suc (n + b) = omega arith in
    let rest : total (n + b) f ≡ total n f = total-past n b f (λ t below. none t (omega arith)) in
    let last : f (n + b) ≡ 0 = none b (omega arith) in
    let sums : total (suc (n + b)) f ≡ total n f = omega (arith, rest, last) in
    ap (λ (m : ℕ). total m f) e ∙ sums

-- a sum in two parts
pub total-split : (n b : ℕ) (f : ℕ → ℕ) → total (n + b) f ≡ total n f + total b (λ t. f (n + t))
total-split n zero f = omega (arith, ap (λ (m : ℕ). total m f) (let e : n + 0 ≡ n = omega arith in e))
total-split n (suc b) f =
    let e : n + suc b ≡ suc (n + b) = omega arith in
    let rest : total (n + b) f ≡ total n f + total b (λ t. f (n + t)) = total-split n b f in
    let sums : total (suc (n + b)) f ≡ total n f + total (suc b) (λ t. f (n + t)) = omega (arith, rest) in
    ap (λ (m : ℕ). total m f) e ∙ sums

-- the pieces of a list of lines
pub cut-rises : (wants : ℕ → ℕ) (j : ℕ) → cut wants j ≤ cut wants (j + 1)
cut-rises wants j = omega (arith, cut-next wants j)

next_times : (t sum : ℕ) → (t + 1) * sum ≡ t * sum + sum
next_times t sum = grind arith

times-le : (t border sum : ℕ) → t ≤ border → t * sum ≤ border * sum
times-le t border sum le = grind arith

-- a new row has the sum
pub lower_total : (size border inner sum : ℕ) (rows_want columns_want : ℕ → ℕ) (own cell : ℕ → ℕ → ℕ) (i : ℕ)
    → AreWants size border inner sum rows_want columns_want → AreCells size border inner sum rows_want columns_want own cell
    → size ≤ i → i < size + border → total (size + border) (cell i) ≡ sum
lower_total size border inner sum rows_want columns_want own cell i wants cells new below =
    let t = i - size in
    let is : size + t ≡ i = omega arith in
    let is_next : size + (t + 1) ≡ i + 1 = omega arith in
    let a = bordered_cut size inner sum rows_want i in
    let b = bordered_cut size inner sum rows_want (i + 1) in
    let c = cut columns_want in
    let begin : a ≡ inner + t * sum = ap (bordered_cut size inner sum rows_want) (sym is) ∙ bordered_cut-new size inner sum rows_want t (omega (arith, wants.of_rows)) in
    let end : b ≡ inner + (t + 1) * sum = ap (bordered_cut size inner sum rows_want) (sym is_next) ∙ bordered_cut-new size inner sum rows_want (t + 1) (omega (arith, wants.of_rows)) in
    let past = total-past size border (cell i) (λ s inside. cells.corner i (size + s) new below (omega arith) (omega arith)) in
    let parts = total-same size (cell i) (λ j. overlap a b (c j) (c (j + 1))) (λ j inside. cells.lower i j new below inside ∙ overlap-swap (c j) (c (j + 1)) a b) in
    let joined = overlaps size a b c (bordered_cut-rises size inner sum rows_want i) (cut-rises columns_want) in
    let zero_first : c 0 ≡ 0 = refl in
    omega (arith, past, parts, joined, begin, end, wants.of_columns, next_times t sum, times-le (t + 1) border sum (omega arith), zero_first)

-- the old part is the same from both sides
inner-swap : (a b c d inner : ℕ) → a ≤ b → c ≤ d → overlap a b (min c inner) (min d inner) ≡ overlap c d (min a inner) (min b inner)
inner-swap a b c d inner ab cd = omega arith

-- rows for columns
pub AreCells-swap : (size border inner sum : ℕ) (rows_want columns_want : ℕ → ℕ) (own cell : ℕ → ℕ → ℕ)
    → ((i j : ℕ) → size ≤ i → own i j ≡ 0) → ((i j : ℕ) → size ≤ j → own i j ≡ 0)
    → AreCells size border inner sum rows_want columns_want own cell
    → AreCells size border inner sum columns_want rows_want (λ i j. own j i) (λ i j. cell j i)
AreCells-swap size border inner sum rows_want columns_want own cell no_row no_column cells = record {
  upper = λ i j inside below. elim (cases_lt j size) [
    | inl old ↦
        let here = cells.upper j i old (omega arith) in
        let first = bordered_cut-old size inner sum columns_want i (omega arith) in
        let second = bordered_cut-old size inner sum columns_want (i + 1) (omega arith) in
        let third = bordered_cut-old size inner sum rows_want j (omega arith) in
        let fourth = bordered_cut-old size inner sum rows_want (j + 1) (omega arith) in
        let both = inner-swap (cut rows_want j) (cut rows_want (j + 1)) (cut columns_want i) (cut columns_want (i + 1)) inner (cut-rises rows_want j) (cut-rises columns_want i) in
        here ∙ rw (first, second, third, fourth) (ap (λ (x : ℕ). own j i + x) both)
    | inr new ↦ let here = cells.lower j i new below inside in let none = no_row j i new in omega (arith, here, none)
  ];
  lower = λ i j new below inside. let here = cells.upper j i inside below in let none = no_column j i new in omega (arith, here, none);
  corner = λ i j new below new_too below_too. cells.corner j i new_too below_too new below;
}
