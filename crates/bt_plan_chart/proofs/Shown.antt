-- Slots that are shown, and the columns in which they stand.
use Rattle.std.proofs.Common.{refl, arith, ◌≡◌, ℕ, ◌+◌, ◌-◌, ◌<◌, ◌≤◌, not, ◌&&◌, ◌||◌, Bool, true, false, if◌then◌else◌, max, min, nat_lt}
use Rattle.std.proofs.lemmas.Bool.{lt-ltb, ltb-true}

pub and_left : (a b : Bool) → (a && b) ≡ true → a ≡ true
and_left true b e = refl
and_left false b e = e

pub and_right : (a b : Bool) → (a && b) ≡ true → b ≡ true
and_right true b e = e
and_right false b e = cc

pub both : (a b : Bool) → a ≡ true → b ≡ true → (a && b) ≡ true
both true b first second = second
both false b first second = first

-- how many of the slots from one to another stand before a slot, where the rest is cut off or not
abbrev pub column : Bool → ℕ → ℕ → ℕ → ℕ
column is_cut begin end slot = if is_cut then min (max slot begin) end - begin else slot

-- whether some of the slots from one to another are among those
abbrev pub shows : Bool → ℕ → ℕ → ℕ → ℕ → Bool
shows is_cut begin end from to = not is_cut || (nat_lt from end && nat_lt begin to)

-- the slot in a column
abbrev pub slot_at : Bool → ℕ → ℕ → ℕ
slot_at is_cut begin place = if is_cut then begin + place else place

-- the first slot that is shown from one on
abbrev pub first_of : Bool → ℕ → ℕ → ℕ
first_of is_cut begin start = if is_cut then max start begin else start

-- columns are in the order of the slots
pub column_kept : (is_cut : Bool) (begin end start slot : ℕ) → start ≤ slot → column is_cut begin end start ≤ column is_cut begin end slot
column_kept true begin end start slot from = omega (arith, from)
column_kept false begin end start slot from = from

-- a slot that is shown stands before the column of each slot behind it
pub column_less : (is_cut : Bool) (begin end slot to : ℕ) → shows is_cut begin end slot (slot + 1) ≡ true → slot < to → column is_cut begin end slot < column is_cut begin end to
column_less true begin end slot to shown under =
    let before : slot < end = ltb-true slot end (and_left (nat_lt slot end) (nat_lt begin (slot + 1)) shown) in
    let behind : begin < slot + 1 = ltb-true begin (slot + 1) (and_right (nat_lt slot end) (nat_lt begin (slot + 1)) shown) in
    omega (arith, before, behind, under)
column_less false begin end slot to shown under = under

-- the slot in a column between those of two slots stands between them, and is shown
pub slot_from : (is_cut : Bool) (begin end start to place : ℕ) → column is_cut begin end start ≤ place → place < column is_cut begin end to → start ≤ slot_at is_cut begin place
slot_from true begin end start to place from under = omega (arith, from, under)
slot_from false begin end start to place from under = from

pub slot_under : (is_cut : Bool) (begin end to place : ℕ) → place < column is_cut begin end to → slot_at is_cut begin place < to
slot_under true begin end to place under = omega (arith, under)
slot_under false begin end to place under = under

pub slot_shown : (is_cut : Bool) (begin end to place : ℕ) → place < column is_cut begin end to → shows is_cut begin end (slot_at is_cut begin place) (slot_at is_cut begin place + 1) ≡ true
slot_shown true begin end to place under =
    both (nat_lt (begin + place) end) (nat_lt begin (begin + place + 1)) (lt-ltb (begin + place) end (omega (arith, under))) (lt-ltb begin (begin + place + 1) (omega arith))
slot_shown false begin end to place under = refl

-- slots are shown where one of them is
pub shown_with : (is_cut : Bool) (begin end slot from to : ℕ) → shows is_cut begin end slot (slot + 1) ≡ true → from ≤ slot → slot < to → shows is_cut begin end from to ≡ true
shown_with true begin end slot from to shown after under =
    let before : slot < end = ltb-true slot end (and_left (nat_lt slot end) (nat_lt begin (slot + 1)) shown) in
    let behind : begin < slot + 1 = ltb-true begin (slot + 1) (and_right (nat_lt slot end) (nat_lt begin (slot + 1)) shown) in
    both (nat_lt from end) (nat_lt begin to) (lt-ltb from end (omega (arith, before, after))) (lt-ltb begin to (omega (arith, behind, under)))
shown_with false begin end slot from to shown after under = refl

-- the first that is shown of slots of which some are is one of them
pub first_from : (is_cut : Bool) (begin start : ℕ) → start ≤ first_of is_cut begin start
first_from true begin start = omega arith
first_from false begin start = omega arith

pub first_under : (is_cut : Bool) (begin end start to : ℕ) → shows is_cut begin end start to ≡ true → start < to → first_of is_cut begin start < to
first_under true begin end start to shown some =
    let behind : begin < to = ltb-true begin to (and_right (nat_lt start end) (nat_lt begin to) shown) in
    omega (arith, behind, some)
first_under false begin end start to shown some = some

pub first_is_shown : (is_cut : Bool) (begin end start to : ℕ) → (is_cut ≡ true → begin < end) → shows is_cut begin end start to ≡ true → shows is_cut begin end (first_of is_cut begin start) (first_of is_cut begin start + 1) ≡ true
first_is_shown true begin end start to forth shown =
    let before : start < end = ltb-true start end (and_left (nat_lt start end) (nat_lt begin to) shown) in
    both (nat_lt (max start begin) end) (nat_lt begin (max start begin + 1)) (lt-ltb (max start begin) end (omega (arith, before, forth refl))) (lt-ltb begin (max start begin + 1) (omega arith))
first_is_shown false begin end start to forth shown = refl
