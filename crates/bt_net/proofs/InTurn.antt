-- Numbered names are good ones and differ, so that the network of them is sound.
use Rattle.std.proofs.Common.{◌≡◌, ◌≢◌, ℕ, ◌+◌, ◌*◌, ◌<◌, ◌≤◌, Bool, true, false, List, [], ◌∷◌, ◌++◌, length, get_or, map, codes, decimal, AllPairs, IsTrue, slice_get, Some, refl, sym, ap, ◌∙◌, true≢false, subst, arith, lit≤}
use Rattle.std.specs.List.{list_any, list_all, range_with_len}
use Rattle.std.specs.Str.{bytes_eq}
use Rattle.std.specs.Fmt.{digits}
use Rattle.std.proofs.lemmas.Fmt.{decimal_injective}
use Rattle.std.proofs.lemmas.Nat.{mod_below}
use Rattle.std.proofs.lemmas.List.Folds.{list_all_at}
use Rattle.std.proofs.lemmas.List.FromFn.{length-range_with_len, length-map-range_with_len, get_or-range_with_len, get_or-map-range_with_len, take-map-range_with_len, map-range_with_len_more}
use Rattle.std.proofs.lemmas.Option.{slice_get-get_or}
use Rattle.bt_frame.specs.declared.numbers.BeamNo.{BeamNo}
use Rattle.bt_frame.specs.Range.{IsWithin}
use Rattle.bt_net.specs.Name.{is_name, is_terminal_name}
use Rattle.bt_net.specs.Network.{AreBeams, AreNames, AreTerminals, IsSound, names_of}
use Rattle.bt_net.specs.Numbered.{numbered_beam, numbered_beams, numbered_network, numbered_terminal, numbered_terminals}
use Rattle.bt_net.proofs.Names.{absent_before}

-- a test of each number below so many holds of each of them
all_below : (test : ℕ → Bool) (count k : ℕ) → list_all test (range_with_len 0 count) ≡ true → k < count → test k ≡ true
all_below test count k all below = by (test k) refl
  where
    at : get_or (range_with_len 0 count) k 0 ≡ k
    at = get_or-range_with_len 0 count k 0 below ∙ omega arith

    by : (b : Bool) → test k ≡ b → b ≡ true
    by true is = refl
    by false is = absurd (true≢false (sym all ∙ list_all_at test (range_with_len 0 count) k 0 (omega (arith, below, length-range_with_len 0 count)) (ap test at ∙ is)))

-- all names of the largest network, one by one
good_beams : list_all (λ k. is_name (codes "b" ++ decimal k)) (range_with_len 0 16) ≡ true
unfolding digits
good_beams = refl

good_terminals : list_all (λ k. is_terminal_name (codes "t" ++ decimal k)) (range_with_len 0 64) ≡ true
unfolding digits
good_terminals = refl

-- a name of a letter and a number, for so many numbers
abbrev named : List ℕ → ℕ → List (List ℕ)
named letter count = map (λ k. letter ++ decimal k) (range_with_len 0 count)

-- names of one letter and of numbers below so many differ
differ_behind : (letter : ℕ) (count : ℕ) → count ≤ 64 → AllPairs (λ a b. a ≢ b) (named (letter ∷ []) count)
differ_behind letter count few i j d less within same =
    let f : ℕ → List ℕ = λ k. letter ∷ [] ++ decimal k in
    let inside : j < count = omega (arith, within, length-map-range_with_len f 0 count) in
    let first : get_or (map f (range_with_len 0 count)) i d ≡ f i = get_or-map-range_with_len f 0 count i i d (omega (arith, less, inside)) (omega arith) in
    let second : get_or (map f (range_with_len 0 count)) j d ≡ f j = get_or-map-range_with_len f 0 count j j d inside (omega arith) in
    let both : f i ≡ f j = sym first ∙ same ∙ second in
    let numbers : decimal i ≡ decimal j = cc in
    let one : i ≡ j = decimal_injective i j (omega (arith, less, inside, few)) (omega (arith, inside, few)) numbers in
    absurd (omega (arith, one, less))

-- names that pass a test one by one and differ are names
are_named : (is_good : List ℕ → Bool) (letter count most : ℕ) → count ≤ most → most ≤ 64 → list_all (λ k. is_good (letter ∷ [] ++ decimal k)) (range_with_len 0 most) ≡ true
    → AreNames is_good (named (letter ∷ []) count)
are_named is_good letter count most few small all = record {
  good = λ k d within.
      let f : ℕ → List ℕ = λ n. letter ∷ [] ++ decimal n in
      let inside : k < count = omega (arith, within, length-map-range_with_len f 0 count) in
      let at : get_or (map f (range_with_len 0 count)) k d ≡ f k = get_or-map-range_with_len f 0 count k k d inside (omega arith) in
      let Good : List ℕ → Type 0 = λ name. IsTrue (is_good name) in
      subst Good (sym at) (all_below (λ n. is_good (f n)) most k all (omega (arith, inside, few)));
  differ = differ_behind letter count (omega (arith, few, small));
}

beams_sound : (beams : ℕ) → IsWithin 1 16 beams → AreBeams (numbered_beams beams)
beams_sound beams count = record {
  count = (omega (arith, count.0, length-map-range_with_len numbered_beam 0 beams), omega (arith, count.1, length-map-range_with_len numbered_beam 0 beams));
  names = are_named is_name 98 beams 16 count.1 (omega arith) good_beams;
}

-- the names of terminals
names_in_turn : (beams : ℕ) (numbers : List ℕ) → names_of (map (numbered_terminal beams) numbers) ≡ map (λ k. codes "t" ++ decimal k) numbers
names_in_turn beams [] = refl
names_in_turn beams (number ∷ numbers) = ap (λ (rest : List (List ℕ)). (codes "t" ++ decimal number) ∷ rest) (names_in_turn beams numbers)

pub names_of-numbered : (beams count : ℕ) → names_of (numbered_terminals beams count) ≡ named (codes "t") count
names_of-numbered beams count = names_in_turn beams (range_with_len 0 count)

terminals_in_beams : (beams count k : ℕ) (d : List ℕ × BeamNo) → 0 < beams → k < length (numbered_terminals beams count) → (get_or (numbered_terminals beams count) k d).1.0 < beams
terminals_in_beams beams count k d some within =
    let f = numbered_terminal beams in
    let inside : k < count = omega (arith, within, length-map-range_with_len f 0 count) in
    let at : get_or (map f (range_with_len 0 count)) k d ≡ f k = get_or-map-range_with_len f 0 count k k d inside (omega arith) in
    let InBeam : List ℕ × BeamNo → Type 0 = λ terminal. terminal.1.0 < beams in
    subst InBeam (sym at) (mod_below k beams some)

terminals_sound : (beams : ℕ) → IsWithin 1 16 beams → AreTerminals (numbered_beams beams) (numbered_terminals beams (4 * beams))
terminals_sound beams count =
    let size = length-map-range_with_len (numbered_terminal beams) 0 (4 * beams) in
    let beam_count = length-map-range_with_len numbered_beam 0 beams in
    record {
      count = (omega (arith, count.0, size), omega (arith, count.1, size));
      names = subst (AreNames is_terminal_name) (sym (names_of-numbered beams (4 * beams))) (are_named is_terminal_name 116 (4 * beams) 64 (omega (arith, count.1)) (omega arith) good_terminals);
      in_beam = λ k d within. omega (arith, terminals_in_beams beams (4 * beams) k d (omega (arith, count.0)) within, beam_count);
    }

-- the network of numbered names is sound
pub numbered_sound : (beams : ℕ) → IsWithin 1 16 beams → IsSound (numbered_network beams)
numbered_sound beams count = record {
  beams = beams_sound beams count;
  terminals = terminals_sound beams count;
  slots = (lit≤ tt, lit≤ tt);
  frames = (lit≤ tt, lit≤ tt);
  lead = (lit≤ tt, lit≤ tt);
  patience = (lit≤ tt, lit≤ tt);
  journal = (lit≤ tt, lit≤ tt);
}

-- the next name is none of those before it
absent_next : (letter number : ℕ) → number < 64 → list_any (bytes_eq (letter ∷ [] ++ decimal number)) (named (letter ∷ []) number) ≡ false
absent_next letter number few =
    let f : ℕ → List ℕ = λ k. letter ∷ [] ++ decimal k in
    let names = named (letter ∷ []) (number + 1) in
    let none : List ℕ = [] in
    let inside : number < length names = omega (arith, length-map-range_with_len f 0 (number + 1)) in
    let at : get_or names number none ≡ f number = get_or-map-range_with_len f 0 (number + 1) number number none (omega arith) (omega arith) in
    let there : slice_get names number ≡ Some (f number) = slice_get-get_or names number none inside ∙ ap Some at in
    ap (list_any (bytes_eq (f number))) (sym (take-map-range_with_len f 0 (number + 1) number (omega arith)))
    ∙ absent_before names number (f number) (differ_behind letter (number + 1) (omega (arith, few))) there

pub absent_beam : (number : ℕ) → number < 64 → list_any (bytes_eq (numbered_beam number)) (numbered_beams number) ≡ false
absent_beam number few = absent_next 98 number few

pub absent_terminal : (beams number : ℕ) → number < 64 → list_any (bytes_eq (codes "t" ++ decimal number)) (names_of (numbered_terminals beams number)) ≡ false
absent_terminal beams number few =
    ap (list_any (bytes_eq (codes "t" ++ decimal number))) (names_of-numbered beams number) ∙ absent_next 116 number few

-- one beam more
pub one_beam_more : (number : ℕ) → numbered_beams number ++ numbered_beam number ∷ [] ≡ numbered_beams (number + 1)
one_beam_more number = sym (map-range_with_len_more numbered_beam 0 number number (omega arith))

-- one terminal more
pub one_terminal_more : (beams number : ℕ) → numbered_terminals beams number ++ numbered_terminal beams number ∷ [] ≡ numbered_terminals beams (number + 1)
one_terminal_more beams number = sym (map-range_with_len_more (numbered_terminal beams) 0 number number (omega arith))
