-- Texts that go over the beams of a network, one after the other.
use Rattle.std.proofs.Common.{◌≡◌, ℕ, ◌+◌, ◌<◌, ◌≤◌, List, ◌++◌, length, get_or, take, flat_map, Result, Ok, Err, OnOk, sym, ap, ◌∙◌, arith}
use Rattle.std.proofs.lemmas.List.FromFn.{length-range_with_len, get_or-range_with_len}
use Rattle.bt_net.specs.Network.{Net}
use Rattle.bt_words.proofs.Extending.{one_more, all_of, two_behind}
use Rattle.bt_look.specs.Room.{beams_of, side_line}

-- the text of the beams so far, and then that of one more
pub next_beam : (net : Net) (f : ℕ → List ℕ) (k : ℕ) (before now after : List ℕ) → k < length net.beams → now ≡ before ++ flat_map f (take k (beams_of net))
    → after ≡ now ++ f k → after ≡ before ++ flat_map f (take (k + 1) (beams_of net))
next_beam net f k before now after within so_far added =
    let n = length net.beams in
    let inside : k < length (beams_of net) = omega (arith, within, length-range_with_len 0 n) in
    let at : get_or (beams_of net) k 0 ≡ k = omega (arith, get_or-range_with_len 0 n k 0 within) in
    one_more f (beams_of net) k 0 before now after inside so_far (added ∙ ap (λ (b : ℕ). now ++ f b) (sym at))

-- the text of all of them
pub all_beams : (net : Net) (f : ℕ → List ℕ) (k : ℕ) (before now : List ℕ) → length net.beams ≤ k → now ≡ before ++ flat_map f (take k (beams_of net))
    → now ≡ before ++ flat_map f (beams_of net)
all_beams net f k before now past so_far =
    let through : length (beams_of net) ≤ k = omega (arith, past, length-range_with_len 0 (length net.beams)) in
    all_of f (beams_of net) k before now through so_far

-- two pieces were added, one behind the other, and the second of them may have failed
pub two_added : {A B : Type 0} (result : Result A B) (before one after x y : List ℕ) → one ≡ before ++ x → OnOk result (after ≡ one ++ y) → OnOk result (after ≡ before ++ (x ++ y))
two_added (Ok _) before one after x y first second = two_behind before one after x y first second
two_added (Err _) before one after x y first second = tt

-- the line of one side of a beam, by other words for the same
pub same_side : (before now side name other : List ℕ) (asked units slots frame : ℕ) → name ≡ other → asked ≡ units → slots ≡ frame
    → now ≡ before ++ side_line side name asked slots → now ≡ before ++ side_line side other units frame
same_side before now side name other asked units slots frame n a s is =
    is
    ∙ (ap (λ (x : List ℕ). before ++ side_line side x asked slots) n
    ∙ (ap (λ (x : ℕ). before ++ side_line side other x slots) a
    ∙ ap (λ (x : ℕ). before ++ side_line side other units x) s))

pub same_side_ok : {A B : Type 0} (result : Result A B) (before now side name other : List ℕ) (asked units slots frame : ℕ) → name ≡ other → asked ≡ units → slots ≡ frame
    → OnOk result (now ≡ before ++ side_line side name asked slots) → OnOk result (now ≡ before ++ side_line side other units frame)
same_side_ok (Ok _) before now side name other asked units slots frame n a s is = same_side before now side name other asked units slots frame n a s is
same_side_ok (Err _) before now side name other asked units slots frame n a s is = tt
