-- The rounds in which the lines of a block are played one by one.
use Rattle.std.proofs.Common.{◌≡◌, suc, ◌+◌, ◌≤◌, Bool, List, [], ◌∷◌, length, length-append, refl, ap, arith}
use Rattle.std.specs.Prelude.{map}
use Rattle.bt_script.specs.declared.line.ScriptLine.{ScriptLine}
use Rattle.bt_talk.specs.Asked.{edits_in, is_edit, others_in, round_alone, round_if, rounds_in_turn}

-- there are as many as there are lines
parts_first : (first : ScriptLine) (said : List ScriptLine) (test : Bool) → is_edit first ≡ test → length (edits_in said) + length (others_in said) ≡ length said
    → length (edits_in (first ∷ said)) + length (others_in (first ∷ said)) ≡ length said + 1
parts_first first said test is parts = grind arith

parts_are : (said : List ScriptLine) → length (edits_in said) + length (others_in said) ≡ length said
parts_are [] = refl
parts_are (first ∷ said) = omega (arith, parts_first first said (is_edit first) refl (parts_are said))

map_count : (said : List ScriptLine) → length (map round_alone said) ≡ length said
map_count [] = refl
map_count (first ∷ said) = ap suc (map_count said)

if_few : (said : List ScriptLine) → length (round_if said) ≤ length said
if_few [] = omega arith
if_few (first ∷ said) = omega arith

-- the others are no more than all
pub others_few : (said : List ScriptLine) → length (others_in said) ≤ length said
others_few said = omega (arith, parts_are said)

-- the lines of a block are no more rounds than they are
pub turns_few : (said : List ScriptLine) → length (rounds_in_turn said) ≤ length said
turns_few said = omega (arith, length-append (map round_alone (edits_in said)) (round_if (others_in said)), map_count (edits_in said), if_few (others_in said), parts_are said)
