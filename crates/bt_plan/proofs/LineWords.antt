-- A line read word by word is what its words say.
use Rattle.std.proofs.Common.{◌≡◌, ℕ, ◌==◌, ◌&&◌, if◌then◌else◌, cond, leb, Bool, true, false, is_some, Option, Some, None, option_and_then, Ok, Err, List, [], ◌∷◌, ◌++◌, length, refl, ap, ◌∙◌, arith}
use Rattle.std.specs.Option.{option_map}
use Rattle.std.specs.List.{list_all}
use Rattle.std.proofs.lemmas.Bool.Decides.{nat_tests}
use Rattle.bt_text.specs.Text.{is_number, number_of, numbers_of}
use Rattle.bt_text.specs.Reading.{or_fault}
use Rattle.bt_text.proofs.TextNumbers.{length-numbers_of}
use Rattle.bt_plan.specs.declared.text_fault.TextCode.TheVariants.{X1, X2}
use Rattle.bt_plan.specs.LineNumbers.{so_many, numbers_to, are_numbers}
use Rattle.bt_plan.specs.MatrixText.{size_in, row_in}
use Rattle.bt_plan.specs.Reading.{Fault, Reading}

-- the numbers so far, and those of the words that are left
abbrev pub behind : List ℕ → Option (List ℕ) → Option (List ℕ)
behind so_far rest = option_map (λ ns. so_far ++ ns) rest

none_long_enough : {A : Type 0} (x : A) (xs : List A) → (length (x ∷ xs) == 0) ≡ false
none_long_enough x xs = grind (arith, nat_tests)

too_many : (most : ℕ) (n : Option ℕ) (ns : Option (List ℕ)) → option_and_then (so_many most 0) (option_and_then (λ n. option_and_then (λ ns. Some (n ∷ ns)) ns) n) ≡ None
too_many most None ns = refl
too_many most (Some n) None = refl
too_many most (Some n) (Some ns) = rw (none_long_enough n ns) refl

-- a word is left behind the numbers
pub numbers_past : (most : ℕ) (so_far : List ℕ) (ws : List (List ℕ)) → false ≡ (length ws == 0) → behind so_far (numbers_to most 0 ws) ≡ None
numbers_past most so_far [] done = absurd cc
numbers_past most so_far (word ∷ ws) done = ap (behind so_far) (too_many most (number_of word) (numbers_of ws))

-- a line of one word has its number
only : (n : Option ℕ) → option_and_then (λ n. option_and_then (λ ns. Some (n ∷ ns)) (Some [])) n ≡ option_map (λ n. n ∷ []) n
only None = refl
only (Some n) = refl

pub only_number : (word : List ℕ) → numbers_of (word ∷ []) ≡ option_map (λ n. n ∷ []) (number_of word)
only_number word = only (number_of word)

-- more than one word is no size
abbrev both : Option ℕ → Option (List ℕ) → Option (List ℕ)
both n ns = option_and_then (λ n. option_and_then (λ ns. Some (n ∷ ns)) ns) n

no_size : (a b : Option ℕ) (rest : Option (List ℕ)) → size_in (both a (both b rest)) ≡ Err (X1, 1)
no_size None b rest = refl
no_size (Some n) None rest = refl
no_size (Some n) (Some m) None = refl
no_size (Some n) (Some m) (Some ns) = refl

pub more_numbers : (word : List ℕ) (ws rest : List (List ℕ)) → ws ≡ word ∷ rest → false ≡ (length rest == 0) → size_in (numbers_of ws) ≡ Err (X1, 1)
more_numbers word ws [] is some = absurd cc
more_numbers word ws (other ∷ rest) is some = ap (λ (l : List (List ℕ)). size_in (numbers_of l)) is ∙ no_size (number_of word) (number_of other) (numbers_of rest)

-- words that are numbers have their numbers
some_of_both : (n : Option ℕ) (ns : Option (List ℕ)) → is_some (option_and_then (λ n. option_and_then (λ ns. Some (n ∷ ns)) ns) n) ≡ (is_some n && is_some ns)
some_of_both None ns = refl
some_of_both (Some n) None = refl
some_of_both (Some n) (Some ns) = refl

some_where : (b : Bool) (n : ℕ) → is_some (if b then Some n else None) ≡ b
some_where true n = refl
some_where false n = refl

all_some : (ws : List (List ℕ)) → is_some (numbers_of ws) ≡ list_all is_number ws
all_some [] = refl
all_some (word ∷ ws) = some_of_both (number_of word) (numbers_of ws) ∙ rw (some_where (is_number word) _, all_some ws) refl

read_row : (size at count : ℕ) (o : Option (List ℕ)) → ((ns : List ℕ) → o ≡ Some ns → length ns ≡ count) → (count == size && is_some o) ≡ true → row_in size at o ≡ or_fault {Fault = Fault} (X2, at) (option_and_then (so_many 4096 size) o)
read_row size at count None long is = absurd (grind (arith, nat_tests, is))
read_row size at count (Some ns) long is =
    let here : (length ns == size) ≡ true = grind (arith, nat_tests, long ns refl, is) in
    rw here (by (list_all (λ units. leb units 4096) ns))
  where
    by : (b : Bool) → cond {A = Reading (List ℕ)} b (Ok ns) (Err (X2, at)) ≡ or_fault {Fault = Fault} (X2, at) (cond b (Some ns) None)
    by true = refl
    by false = refl

-- a row whose words are so many numbers
pub row_is_read : (size at : ℕ) (ws : List (List ℕ)) → are_numbers size ws ≡ true → row_in size at (numbers_of ws) ≡ or_fault {Fault = Fault} (X2, at) (numbers_to 4096 size ws)
row_is_read size at ws are = read_row size at (length ws) (numbers_of ws) (λ ns is. length-numbers_of ws ns is) (ap (λ b. length ws == size && b) (all_some ws) ∙ are)

other_row : (size at count : ℕ) (o : Option (List ℕ)) → ((ns : List ℕ) → o ≡ Some ns → length ns ≡ count) → (count == size && is_some o) ≡ false → row_in size at o ≡ Err (X1, at)
other_row size at count None long is = refl
other_row size at count (Some ns) long is =
    let here : (length ns == size) ≡ false = grind (arith, nat_tests, long ns refl, is) in
    rw here refl

-- and any other
pub row_is_none : (size at : ℕ) (ws : List (List ℕ)) → are_numbers size ws ≡ false → row_in size at (numbers_of ws) ≡ Err (X1, at)
row_is_none size at ws other = other_row size at (length ws) (numbers_of ws) (λ ns is. length-numbers_of ws ns is) (ap (λ b. length ws == size && b) (all_some ws) ∙ other)
