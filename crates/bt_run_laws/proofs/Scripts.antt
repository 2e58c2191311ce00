-- A script that was read is parts whose numbers are in their ranges.
use Rattle.std.proofs.Common.{◌≡◌, ℕ, zero, suc, ◌+◌, ◌≤◌, ◌&&◌, nat_le, Bool, true, false, cond, Option, Some, None, List, [], ◌∷◌, length, All, Ok, Err, refl, subst, option_map, arith}
use Rattle.std.specs.Prelude.{flat_map}
use Rattle.std.proofs.lemmas.Bool.{and_parts, leb-true}
use Rattle.std.proofs.lemmas.List.Elements.{All-append, All-nil, All-cons, All-head, All-tail}
use Rattle.bt_frame.specs.declared.limits.TheConstants.{MOST_UNITS, MOST_DESKS, LAST_EDITION, LAST_MESSAGE, MOST_LINES}
use Rattle.bt_frame.specs.declared.numbers.TermNo.{TermNo}
use Rattle.bt_text.specs.Reading.{◌>>=◌, or_fault}
use Rattle.bt_text.specs.Text.{lines}
use Rattle.bt_text.proofs.Steps.{bind_ok, passed}
use Rattle.bt_net.specs.Network.{Net}
use Rattle.bt_journal.specs.declared.call.Edit.{Edit}
use Rattle.bt_journal.specs.declared.call.Edit.TheVariants as edit
use Rattle.bt_journal.specs.JournalLines.{units_in}
use Rattle.bt_journal.proofs.Spelled.{mapped, then}
use Rattle.bt_script.specs.declared.fault.ScriptCode.{ScriptCode}
use Rattle.bt_script.specs.declared.fault.ScriptCode.TheVariants.{S1, S2, S3, S4, S5}
use Rattle.bt_script.specs.declared.line.ScriptLine.{ScriptLine}
use Rattle.bt_script.specs.declared.line.ScriptLine.TheVariants as line
use Rattle.bt_script.specs.declared.script.AirLine.{AirLine}
use Rattle.bt_script.specs.declared.script.AirLine.TheVariants as air_line
use Rattle.bt_script.specs.declared.script.DeskLine.{DeskLine}
use Rattle.bt_script.specs.declared.script.DeskLine.TheVariants as desk_line
use Rattle.bt_script.specs.declared.script.Item.TheVariants as item
use Rattle.bt_script.specs.declared.script.Script.{Script}
use Rattle.bt_script.specs.declared.shape.AirShape.{AirShape}
use Rattle.bt_script.specs.declared.shape.AirShape.TheVariants as air_shape
use Rattle.bt_script.specs.declared.shape.DeskShape.{DeskShape}
use Rattle.bt_script.specs.declared.shape.DeskShape.TheVariants as desk_shape
use Rattle.bt_script.specs.declared.shape.LineShape.{LineShape}
use Rattle.bt_script.specs.declared.shape.LineShape.TheVariants as shape
use Rattle.bt_script.specs.LineShape.{shape_of}
use Rattle.bt_script.specs.Range.{up_to, within}
use Rattle.bt_script.specs.Reading.{Reading}
use Rattle.bt_script.specs.Stages.{with_terminals, desk_in_range, place_of, air_in_range, in_range, may_stand, line_in}
use Rattle.bt_script.specs.ScriptText.{is_open_behind, limited_line, last_in, lines_in, ends_round, round_lines, own_lines, air_lines, entry_of, desks_of, round_of, items_at, items_of, script_of}
use Rattle.bt_script.proofs.Counting.{items_short}
use Rattle.bt_script.proofs.Order.{said_desks}
use Rattle.bt_run_laws.specs.Small.{IsSmallDeskLine, IsSmallAirLine, IsSmallItem, IsSmallRound, AreParts}

-- the numbers of a line of a script are in their ranges
abbrev IsSmallSaid : ScriptLine → Type 0
IsSmallSaid (line.Desk number own) = IsSmallDeskLine own
IsSmallSaid (line.Air own) = IsSmallAirLine own
IsSmallSaid _ = Unit {0}

-- a number that passed a test of its range
tested : (test : Bool) (most number n : ℕ) → (test ≡ true → number ≤ most) → cond test (Some number) None ≡ Some n → n ≤ most
tested true most number n small is = let same : number ≡ n = cc in omega (arith, small refl)
tested false most number n small is = absurd cc

up_to_small : (most number n : ℕ) → up_to most number ≡ Some n → n ≤ most
up_to_small most number n is = tested (nat_le number most) most number n (leb-true number most) is

within_small : (most number n : ℕ) → within most number ≡ Some n → n ≤ most
within_small most number n is = tested (nat_le 1 number && nat_le number most) most number n (λ both. leb-true number most (and_parts (nat_le 1 number) (nat_le number most) both).1) is

-- a line of a desk in its range
edit_small : (units : ℕ) (asked : ℕ → Edit) (own : DeskLine) → ((u : ℕ) → units_in (asked u) ≡ u) → option_map (λ u. desk_line.Edit (asked u)) (within MOST_UNITS units) ≡ Some own → IsSmallDeskLine own
edit_small units asked own same is =
    let (u, found, made) = mapped (λ u. desk_line.Edit (asked u)) (within MOST_UNITS units) own is in
    subst IsSmallDeskLine made (omega (arith, within_small MOST_UNITS units u found, same u))

desk_small : (asked : DeskShape TermNo) (own : DeskLine) → desk_in_range asked ≡ Some own → IsSmallDeskLine own
desk_small (desk_shape.Add from to units) own is = edit_small units (edit.Add from to) own (λ u. refl) is
desk_small (desk_shape.Drop from to units) own is = edit_small units (edit.Drop from to) own (λ u. refl) is
desk_small (desk_shape.Move from to new_from new_to units) own is = edit_small units (edit.Move from to new_from new_to) own (λ u. refl) is
desk_small (desk_shape.Show terminal) own is = let same : desk_line.Show terminal ≡ own = cc in subst IsSmallDeskLine same tt

-- a line of the air in its range
number_small : (most number : ℕ) (wrap : ℕ → AirLine) (own : AirLine) → ((n : ℕ) → n ≤ most → IsSmallAirLine (wrap n)) → option_map wrap (up_to most number) ≡ Some own → IsSmallAirLine own
number_small most number wrap own small is =
    let (n, found, made) = mapped wrap (up_to most number) own is in
    subst IsSmallAirLine made (small n (up_to_small most number n found))

no_number : (this own : AirLine) → IsSmallAirLine this → Some this ≡ Some own → IsSmallAirLine own
no_number this own small is = let same : this ≡ own = cc in subst IsSmallAirLine same small

air_small : (asked : AirShape TermNo) (own : AirLine) → air_in_range asked ≡ Some own → IsSmallAirLine own
air_small air_shape.Tick own is = no_number air_line.Tick own tt is
air_small air_shape.Turn own is = no_number air_line.Turn own tt is
air_small (air_shape.Back edition) own is = number_small LAST_EDITION edition (λ n. air_line.Back (record { 0 = n })) own (λ n few. omega arith) is
air_small air_shape.Ahead own is = no_number air_line.Ahead own tt is
air_small air_shape.Flow own is = no_number air_line.Flow own tt is
air_small air_shape.LoseAll own is = no_number _ own tt is
air_small (air_shape.Lose receiver) own is = no_number _ own tt is
air_small (air_shape.Deliver message receiver) own is = number_small LAST_MESSAGE message (λ n. air_line.Deliver n (place_of receiver)) own (λ n few. omega arith) is
air_small air_shape.Frame own is = no_number air_line.Frame own tt is
air_small (air_shape.Reset terminal) own is = no_number (air_line.Reset terminal) own tt is
air_small (air_shape.StandbyHears message) own is = number_small LAST_MESSAGE message (λ n. air_line.StandbyHears n) own (λ n few. omega arith) is
air_small air_shape.StandbyBurst own is = no_number air_line.StandbyBurst own tt is

-- a line in its range
plain : (this said : ScriptLine) → IsSmallSaid this → Some this ≡ Some said → IsSmallSaid said
plain this said small is = let same : this ≡ said = cc in subst IsSmallSaid same small

range_small : (named : LineShape TermNo) (said : ScriptLine) → in_range named ≡ Some said → IsSmallSaid said
range_small shape.Remark said is = plain line.Remark said tt is
range_small shape.Round said is = plain line.Round said tt is
range_small shape.Restart said is = plain line.Restart said tt is
range_small (shape.Desk desk asked) said is =
    let (number, _, here) = then (λ number. option_map (λ own. line.Desk number own) (desk_in_range asked)) (within MOST_DESKS desk) said is in
    let (own, found, made) = mapped (λ own. line.Desk number own) (desk_in_range asked) said here in
    subst IsSmallSaid made (desk_small asked own found)
range_small shape.Plan said is = plain line.Plan said tt is
range_small (shape.Air asked) said is =
    let (own, found, made) = mapped (λ own. line.Air own) (air_in_range asked) said is in
    subst IsSmallSaid made (air_small asked own found)

-- what passed all stages
from_option : {A : Type 0} (fault : ScriptCode × ℕ) (o : Option A) (x : A) → or_fault fault o ≡ Ok x → o ≡ Some x
from_option fault None x is = absurd cc
from_option fault (Some y) x is = cc

line_small : (net : Net) (at : ℕ) (is_open : Bool) (text : List ℕ) (said : ScriptLine) → line_in net at is_open text ≡ Ok said → IsSmallSaid said
line_small net at is_open text said is =
    let stands : ScriptLine → Reading ScriptLine = λ one. cond (may_stand is_open one) (Ok one) (Err (S4, at)) in
    let ranged : LineShape TermNo → Reading ScriptLine = λ named. or_fault (S3, at) (in_range named) >>= stands in
    let (shaped, _, first) = bind_ok (or_fault (S1, at) (shape_of text)) (λ shaped. or_fault (S2, at) (with_terminals net shaped) >>= ranged) said is in
    let (named, _, second) = bind_ok (or_fault (S2, at) (with_terminals net shaped)) ranged said first in
    let (one, found, third) = bind_ok (or_fault (S3, at) (in_range named)) stands said second in
    let (_, same) = passed (may_stand is_open one) (S4, at) (Ok one) said third in
    let whole : one ≡ said = cc in
    subst IsSmallSaid whole (range_small named one (from_option (S3, at) (in_range named) one found))

never_read : (test : Bool) (a b : ScriptCode × ℕ) (said : List ScriptLine) → cond test (Err a) (Err b) ≡ Ok said → ⊥
never_read true a b said is = absurd cc
never_read false a b said is = absurd cc

nothing_last : (at : ℕ) (last : List ℕ) (said : List ScriptLine) → last_in at last ≡ Ok said → [] ≡ said
nothing_last at [] said is = cc
nothing_last at (b ∷ last) said is = absurd (never_read (nat_le at MOST_LINES) (S1, at) (S5, at) said is)

-- lines that were read, the first of them line `at`: their numbers are in their ranges, and they are few
record AreSmallLines (at : ℕ) (said : List ScriptLine) : Type 0 where
  each : All IsSmallSaid said
  few : at + length said ≤ MOST_LINES + 1

all_small : (net : Net) (at : ℕ) (is_open : Bool) (ls : List (List ℕ)) (said : List ScriptLine) → at ≤ MOST_LINES + 1 → lines_in net at is_open ls ≡ Ok said → AreSmallLines at said
all_small net at is_open [] said low is = let none : [] ≡ said = cc in subst (AreSmallLines at) none (record { each = All-nil IsSmallSaid; few = omega arith })
all_small net at is_open (last ∷ []) said low is = subst (AreSmallLines at) (nothing_last at last said is) (record { each = All-nil IsSmallSaid; few = omega arith })
all_small net at is_open (text ∷ next ∷ rest) said low is =
    let behind : ScriptLine → Reading (List ScriptLine) = λ one. lines_in net (at + 1) (is_open_behind is_open one) (next ∷ rest) in
    let (one, found, more) = bind_ok (limited_line net at is_open text) (λ one. behind one >>= λ others. Ok (one ∷ others)) said is in
    let (others, read, whole) = bind_ok (behind one) (λ others. Ok (one ∷ others)) said more in
    let (within, line) = passed (nat_le at MOST_LINES) (S5, at) (line_in net at is_open text) one found in
    let here = leb-true at MOST_LINES within in
    let later = all_small net (at + 1) (is_open_behind is_open one) (next ∷ rest) others (omega arith) read in
    let same : one ∷ others ≡ said = cc in
    subst (AreSmallLines at) same (record { each = All-cons IsSmallSaid one others (line_small net at is_open text one line) later.each; few = omega (arith, later.few) })

-- the lines of a round, of a desk and of the air
chosen : {A : Type 0} (P : A → Type 0) (test : Bool) (xs ys : List A) → All P xs → All P ys → All P (cond test xs ys)
chosen P true xs ys h k = h
chosen P false xs ys h k = k

round_small : (said : List ScriptLine) → All IsSmallSaid said → All IsSmallSaid (round_lines said)
round_small [] each = each
round_small (first ∷ rest) each =
    chosen IsSmallSaid (ends_round first) [] (first ∷ round_lines rest) (All-nil IsSmallSaid)
    (All-cons IsSmallSaid first (round_lines rest) (All-head IsSmallSaid first rest each) (round_small rest (All-tail IsSmallSaid first rest each)))

own_small : (desk : ℕ) (one : ScriptLine) → IsSmallSaid one → All IsSmallDeskLine (own_lines desk one)
own_small desk (line.Desk number own) is = chosen IsSmallDeskLine _ (own ∷ []) [] (All-cons IsSmallDeskLine own [] is (All-nil IsSmallDeskLine)) (All-nil IsSmallDeskLine)
own_small desk line.Remark is = All-nil IsSmallDeskLine
own_small desk one is = All-nil IsSmallDeskLine

air_lines_small : (one : ScriptLine) → IsSmallSaid one → All IsSmallAirLine (air_lines one)
air_lines_small (line.Air own) is = All-cons IsSmallAirLine own [] is (All-nil IsSmallAirLine)
air_lines_small line.Remark is = All-nil IsSmallAirLine
air_lines_small one is = All-nil IsSmallAirLine

taken_small : {A : Type 0} (P : A → Type 0) (take : ScriptLine → List A) → ((one : ScriptLine) → IsSmallSaid one → All P (take one)) → (said : List ScriptLine) → All IsSmallSaid said → All P (flat_map take said)
taken_small P take one [] each = All-nil P
taken_small P take one (first ∷ rest) each =
    All-append P (take first) (flat_map take rest) (one first (All-head IsSmallSaid first rest each)) (taken_small P take one rest (All-tail IsSmallSaid first rest each))

-- a desk whose lines have their numbers in their ranges
abbrev IsSmallDesk : ℕ × List DeskLine → Type 0
IsSmallDesk desk = All IsSmallDeskLine desk.1

entry_small : (desk : ℕ) (own : List DeskLine) → All IsSmallDeskLine own → All IsSmallDesk (entry_of desk own)
entry_small desk [] each = All-nil IsSmallDesk
entry_small desk (first ∷ rest) each = All-cons IsSmallDesk (desk, first ∷ rest) [] each (All-nil IsSmallDesk)

desks_small : (desk more : ℕ) (own : List ScriptLine) → All IsSmallSaid own → All IsSmallDesk (desks_of desk more own)
desks_small desk zero own each = All-nil IsSmallDesk
desks_small desk (suc more) own each =
    All-append IsSmallDesk (entry_of desk (flat_map (own_lines desk) own)) (desks_of (desk + 1) more own)
    (entry_small desk (flat_map (own_lines desk) own) (taken_small IsSmallDeskLine (own_lines desk) (own_small desk) own each)) (desks_small (desk + 1) more own each)

round_of_small : (own : List ScriptLine) → All IsSmallSaid own → IsSmallRound (round_of own)
round_of_small own each = record {
  numbered = (said_desks own).numbered;
  desks = desks_small 1 MOST_DESKS own each;
  air = taken_small IsSmallAirLine air_lines air_lines_small own each;
}

items_at_small : (first : ScriptLine) (rest : List ScriptLine) → All IsSmallSaid rest → All IsSmallItem (items_at first rest)
items_at_small line.Round rest each = All-cons IsSmallItem (item.Round (round_of (round_lines rest))) [] (round_of_small (round_lines rest) (round_small rest each)) (All-nil IsSmallItem)
items_at_small line.Restart rest each = All-cons IsSmallItem item.Restart [] tt (All-nil IsSmallItem)
items_at_small one rest each = All-nil IsSmallItem

items_small : (said : List ScriptLine) → All IsSmallSaid said → All IsSmallItem (items_of said)
items_small [] each = All-nil IsSmallItem
items_small (first ∷ rest) each =
    let more = All-tail IsSmallSaid first rest each in
    All-append IsSmallItem (items_at first rest) (items_of rest) (items_at_small first rest more) (items_small rest more)

-- what holds of the parts of a script that was read
pub script_is : (net : Net) (text : List ℕ) (script : Script) → script_of net text ≡ Ok script → AreParts script.items
script_is net text script is =
    let (said, read, made) = bind_ok (lines_in net 1 false (lines text)) (λ said. Ok (record { items = items_of said })) script is in
    let small = all_small net 1 false (lines text) said (omega arith) read in
    let whole : record { items = items_of said } ≡ script = cc in
    let parts : AreParts (items_of said) = record {
      small = items_small said small.each;
      few = items_short said (omega (arith, small.few));
    } in
    subst (λ (s : Script). AreParts s.items) whole parts
