-- Lines of a delay file read one after the other, as the reader does.
use Rattle.std.proofs.Common.{◌≡◌, ℕ, ◌+◌, ◌≤◌, ◌&&◌, Bool, true, false, cond, leb, List, ◌∷◌, Option, Some, None, option_map, Ok, Err, refl, sym, ap, ◌∙◌, arith, inl, inr}
use Rattle.std.proofs.lemmas.Bool.{cases_lt, lt-leb}
use Rattle.bt_text.specs.Text.{words, lines, capped, number_of, is_word}
use Rattle.bt_text.specs.Reading.{◌>>=◌, or_fault, IsFaultOf}
use Rattle.bt_text.specs.declared.fault.LineFault.{LineFault}
use Rattle.bt_text.specs.declared.fault.LineFault.TheVariants.{At, OutOfMemory}
use Rattle.bt_text.proofs.FirstLine.{lines-HasFirst}
use Rattle.bt_net.specs.Name.{is_name}
use Rattle.bt_net.specs.Network.{Net}
use Rattle.bt_net.specs.Terminals.{terminal_of}
use Rattle.bt_timing.specs.declared.fault.TimingCode.{TimingCode}
use Rattle.bt_timing.specs.declared.fault.TimingCode.TheVariants.{G1, G2, G3}
use Rattle.bt_timing.specs.DelayText.{SoFar, number_within, worded_number, slot_in, half_in, terminal_within, named_number, line_with, delays_in, behind_half, behind_slot, times_in}
use Rattle.bt_timing.specs.Reading.{Fault, Reading}

-- a test that fails decides
refused : (a b : Bool) (value fault : Reading ℕ) → b ≡ false → cond (a && b) value fault ≡ fault
refused true b value fault is = rw is refl
refused false b value fault is = refl

-- a number too great is out of range whether it is capped or not, and one in the range is never capped
pub number_within-capped : (least most at n : ℕ) → most ≤ 10000000 → number_within least most at n ≡ number_within least most at (capped n)
number_within-capped least most at n small = elim (cases_lt most n) [
  | inl over ↦ refused (leb least n) (leb n most) (Ok n) (Err (G3, at)) (lt-leb n most over)
      ∙ sym (refused (leb least (capped n)) (leb (capped n) most) (Ok (capped n)) (Err (G3, at)) (lt-leb (capped n) most (omega arith)))
  | inr within ↦ let same : n ≡ capped n = omega arith in ap (number_within least most at) same
]

by_number : (least most at n : ℕ) (o : Option ℕ) → most ≤ 10000000 → Some n ≡ option_map capped o
    → (or_fault {Fault = Fault} (G1, at) o >>= λ number. number_within least most at number) ≡ number_within least most at n
by_number least most at n None small is = absurd cc
by_number least most at n (Some m) small is =
    let held : n ≡ capped m = cc in
    number_within-capped least most at m small ∙ ap (number_within least most at) (sym held)

-- a number behind its word
pub worded_by_number : (name : List ℕ) (least most at n : ℕ) (word digits : List ℕ) → most ≤ 10000000 → is_word name word ≡ true → Some n ≡ option_map capped (number_of digits)
    → worded_number name least most at word digits ≡ number_within least most at n
worded_by_number name least most at n word digits small named is = rw named (by_number least most at n (number_of digits) small is)

terminal_within-capped : (net : Net) (at least : ℕ) (name : List ℕ) (n : ℕ) → terminal_within net at least name n ≡ terminal_within net at least name (capped n)
terminal_within-capped net at least name n =
    ap (λ (reading : Reading ℕ). or_fault {Fault = Fault} (G2, at) (terminal_of net name) >>= λ terminal. reading >>= λ ticks. Ok (terminal, ticks)) (number_within-capped least 10000000 at n (omega arith))

by_terminal : (net : Net) (at least : ℕ) (name : List ℕ) (n : ℕ) (o : Option ℕ) → Some n ≡ option_map capped o
    → (or_fault {Fault = Fault} (G1, at) o >>= λ number. terminal_within net at least name number) ≡ terminal_within net at least name n
by_terminal net at least name n None is = absurd cc
by_terminal net at least name n (Some m) is =
    let held : n ≡ capped m = cc in
    terminal_within-capped net at least name m ∙ ap (terminal_within net at least name) (sym held)

-- a number behind a name
pub named_by_number : (net : Net) (at least : ℕ) (name digits : List ℕ) (n : ℕ) → is_name name ≡ true → Some n ≡ option_map capped (number_of digits)
    → named_number net at least name digits ≡ terminal_within net at least name n
named_by_number net at least name digits n named is = rw named (by_terminal net at least name n (number_of digits) is)

-- the first line, and those that follow it
times_in-line : (net : Net) (line after : List ℕ) → times_in net (line ∷ lines after) ≡ (slot_in (words line) >>= λ slot. behind_slot net slot (lines after))
times_in-line net line after = let next = lines-HasFirst after in rw next.2 refl

pub first_line_read : (net : Net) (ls : List (List ℕ)) (line after : List ℕ) → ls ≡ line ∷ lines after
    → times_in net ls ≡ (slot_in (words line) >>= λ slot. behind_slot net slot (lines after))
first_line_read net ls line after cut = ap (times_in net) cut ∙ times_in-line net line after

behind_slot-line : (net : Net) (slot : ℕ) (line after : List ℕ) → behind_slot net slot (line ∷ lines after) ≡ (half_in slot (words line) >>= λ half. behind_half net slot half (lines after))
behind_slot-line net slot line after = let next = lines-HasFirst after in rw next.2 refl

pub second_line_read : (net : Net) (slot : ℕ) (ls : List (List ℕ)) (line after : List ℕ) → ls ≡ line ∷ lines after
    → behind_slot net slot ls ≡ (half_in slot (words line) >>= λ half. behind_half net slot half (lines after))
second_line_read net slot ls line after cut = ap (behind_slot net slot) cut ∙ behind_slot-line net slot line after

delays_in-line : (net : Net) (at : ℕ) (so_far : SoFar) (line after : List ℕ)
    → delays_in net at so_far (line ∷ lines after) ≡ (line_with net at so_far (words line) >>= λ more. delays_in net (at + 1) more (lines after))
delays_in-line net at so_far line after = let next = lines-HasFirst after in rw next.2 refl

-- one line further
pub goes_on : (net : Net) (at : ℕ) (so_far more : SoFar) (ls : List (List ℕ)) (line after : List ℕ) (total : Reading (List ℕ))
    → ls ≡ line ∷ lines after → line_with net at so_far (words line) ≡ Ok more → delays_in net at so_far ls ≡ total
    → delays_in net (at + 1) more (lines after) ≡ total
goes_on net at so_far more ls line after total cut read is =
    let first : delays_in net at so_far ls ≡ delays_in net (at + 1) more (lines after) = ap (delays_in net at so_far) cut ∙ delays_in-line net at so_far line after ∙ rw read refl in
    sym first ∙ is

-- the fault of a line is the text's
pub ends : (e : LineFault TimingCode) (net : Net) (at : ℕ) (so_far : SoFar) (ls : List (List ℕ)) (line after : List ℕ) (total : Reading (List ℕ))
    → ls ≡ line ∷ lines after → IsFaultOf (line_with net at so_far (words line)) e → delays_in net at so_far ls ≡ total → IsFaultOf total e
ends OutOfMemory net at so_far ls line after total cut read is = tt
ends (At code line') net at so_far ls line after total cut read is =
    let first : delays_in net at so_far ls ≡ Err (code, line') = ap (delays_in net at so_far) cut ∙ delays_in-line net at so_far line after ∙ rw read refl in
    sym is ∙ first
