-- Reading lines one after the other, as a loop does, up to the end.
use Rattle.std.proofs.Common.{◌≡◌, ℕ, ◌+◌, Bool, List, [], ◌∷◌, ◌++◌, Ok, Err, sym, ap, ◌∙◌, refl}
use Rattle.bt_text.specs.Text.{lines}
use Rattle.bt_net.specs.Network.{Net}
use Rattle.bt_script.specs.declared.fault.ScriptCode.{ScriptCode}
use Rattle.bt_text.specs.declared.fault.LineFault.{LineFault}
use Rattle.bt_text.specs.declared.fault.LineFault.TheVariants.{At, OutOfMemory}
use Rattle.bt_script.specs.declared.line.ScriptLine.{ScriptLine}
use Rattle.bt_text.specs.Reading.{◌>>=◌, IsFaultOf}
use Rattle.bt_script.specs.Reading.{Reading}
use Rattle.bt_script.specs.ScriptText.{is_open_behind, limited_line, lines_in, added}
use Rattle.bt_text.proofs.Front.{with_front, regroup}
use Rattle.bt_text.proofs.FirstLine.{lines-HasFirst}

-- the first line, and those that follow it
lines_in-line : (net : Net) (at : ℕ) (is_open : Bool) (line after : List ℕ) → lines_in net at is_open (line ∷ lines after) ≡ (limited_line net at is_open line >>= λ one. lines_in net (at + 1) (is_open_behind is_open one) (lines after) >>= λ more. Ok (one ∷ more))
lines_in-line net at is_open line after =
    let next = lines-HasFirst after in
    rw next.2 refl

-- one line further
goes_on : (net : Net) (at : ℕ) (is_open : Bool) (front : List ScriptLine) (ls : List (List ℕ)) (line after : List ℕ) (one : ScriptLine) (total : Reading (List ScriptLine))
    → ls ≡ line ∷ lines after → limited_line net at is_open line ≡ Ok one
    → with_front front (lines_in net at is_open ls) ≡ total → with_front (front ++ one ∷ []) (lines_in net (at + 1) (is_open_behind is_open one) (lines after)) ≡ total
goes_on net at is_open front ls line after one total cut read so_far =
    let first : lines_in net at is_open ls ≡ (lines_in net (at + 1) (is_open_behind is_open one) (lines after) >>= λ more. Ok (one ∷ more)) = ap (lines_in net at is_open) cut ∙ lines_in-line net at is_open line after ∙ rw read refl in
    sym (regroup front one (lines_in net (at + 1) (is_open_behind is_open one) (lines after))) ∙ sym (ap (with_front front) first) ∙ so_far

abbrev pair : Bool × List ScriptLine → Reading (Bool × List ScriptLine)
pair x = Ok x

pair_of : (x y : Bool × List ScriptLine) → pair x ≡ pair y → x ≡ y
pair_of x y e = cc

-- the line that was added
added-ok : (is_open opened : Bool) (front new : List ScriptLine) (reading : Reading ScriptLine) → added is_open front reading ≡ Ok (opened, new)
    → (one : ScriptLine) × (reading ≡ Ok one) × ((is_open_behind is_open one) ≡ opened) × (front ++ one ∷ [] ≡ new)
added-ok is_open opened front new (Ok one) e =
    let p = pair_of (is_open_behind is_open one, front ++ one ∷ []) (opened, new) e in
    (one, refl, ap (λ (q : Bool × List ScriptLine). q.0) p, ap (λ (q : Bool × List ScriptLine). q.1) p)
added-ok is_open opened front new (Err fault) e = absurd cc

as_added : (net : Net) (at : ℕ) (x opened : Bool) (all new : List ScriptLine) (rest : List (List ℕ)) (total : Reading (List ScriptLine))
    → x ≡ opened → all ≡ new → with_front all (lines_in net at x rest) ≡ total → with_front new (lines_in net at opened rest) ≡ total
as_added net at x opened all new rest total e f so_far = rw (← e, ← f) so_far

-- one line further, as it was added
pub line_added : (net : Net) (at : ℕ) (is_open opened : Bool) (front new : List ScriptLine) (ls : List (List ℕ)) (line after : List ℕ) (total : Reading (List ScriptLine))
    → ls ≡ line ∷ lines after → added is_open front (limited_line net at is_open line) ≡ Ok (opened, new)
    → with_front front (lines_in net at is_open ls) ≡ total → with_front new (lines_in net (at + 1) opened (lines after)) ≡ total
line_added net at is_open opened front new ls line after total cut add so_far =
    let one = added-ok is_open opened front new (limited_line net at is_open line) add in
    as_added net (at + 1) (is_open_behind is_open one.0) opened (front ++ one.0 ∷ []) new (lines after) total one.2 one.3 (goes_on net at is_open front ls line after one.0 total cut one.1 so_far)

added-err : (is_open : Bool) (front : List ScriptLine) (reading : Reading ScriptLine) (fault : ScriptCode × ℕ) → added is_open front reading ≡ Err fault → reading ≡ Err fault
added-err is_open front (Ok one) fault e = absurd cc
added-err is_open front (Err own) fault e = cc

-- the fault of a line is the text's
pub ends : (e : LineFault ScriptCode) (net : Net) (at : ℕ) (is_open : Bool) (front : List ScriptLine) (ls : List (List ℕ)) (line after : List ℕ) (total : Reading (List ScriptLine))
    → ls ≡ line ∷ lines after → IsFaultOf (added is_open front (limited_line net at is_open line)) e
    → with_front front (lines_in net at is_open ls) ≡ total → IsFaultOf total e
ends OutOfMemory net at is_open front ls line after total cut read so_far = tt
ends (At code line') net at is_open front ls line after total cut read so_far =
    let failed = added-err is_open front (limited_line net at is_open line) (code, line') read in
    let first : lines_in net at is_open ls ≡ Err (code, line') = ap (lines_in net at is_open) cut ∙ lines_in-line net at is_open line after ∙ rw failed refl in
    sym so_far ∙ ap (with_front front) first
