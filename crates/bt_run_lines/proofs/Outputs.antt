-- Going over the lines of an output, one after the other, up to the end.
use Rattle.std.proofs.Common.{◌≡◌, ℕ, ◌+◌, ◌-◌, Bool, true, false, cond, nat_lt, List, ◌∷◌, Ok, Err, refl, sym, ap, ◌∙◌}
use Rattle.bt_text.specs.Text.{lines}
use Rattle.bt_text.specs.Reading.{◌>>=◌, LineReading, IsFaultOf}
use Rattle.bt_text.specs.declared.fault.LineFault.{LineFault}
use Rattle.bt_text.specs.declared.fault.LineFault.TheVariants.{At, OutOfMemory}
use Rattle.bt_text.proofs.FirstLine.{lines-HasFirst}
use Rattle.bt_net.specs.Network.{Net}
use Rattle.bt_run_lines.specs.declared.output.OutputCode.{OutputCode}
use Rattle.bt_run_lines.specs.declared.printed.Printed.{Printed}
use Rattle.bt_run_lines.specs.Lines.{numbered_line, lines_from, gone_over, over_line, told_behind}

-- a line in front of others
abbrev pub then_lines : LineReading OutputCode Printed → LineReading OutputCode (List Printed) → LineReading OutputCode (List Printed)
then_lines first rest = first >>= λ one. rest >>= λ more. Ok (one ∷ more)

-- the lines behind one that is passed over or read
abbrev pub behind_line : Net → (at told : ℕ) → List ℕ → (ℕ → LineReading OutputCode (List Printed)) → LineReading OutputCode (List Printed)
behind_line net at told line rest = cond (nat_lt 0 told) (rest (told - 1)) (then_lines (numbered_line net at line) (rest (told_behind line)))

pub lines_from-line : (net : Net) (at told : ℕ) (line after : List ℕ) → lines_from net at told (line ∷ lines after) ≡ behind_line net at told line (λ left. lines_from net (at + 1) left (lines after))
lines_from-line net at told line after =
    let next = lines-HasFirst after in
    rw next.2 refl

-- the fault of all is that of the line, or of those behind it
abbrev on_from : LineReading OutputCode ℕ → (ℕ → LineReading OutputCode (List Printed)) → LineReading OutputCode (Unit {0})
on_from over rest = over >>= λ left. gone_over (rest left)

then_over : (one : Printed) (rest : LineReading OutputCode (List Printed)) → gone_over (rest >>= λ more. Ok (one ∷ more)) ≡ gone_over rest
then_over one (Ok more) = refl
then_over one (Err fault) = refl

read_over : (first : LineReading OutputCode Printed) (count : ℕ) (rest : ℕ → LineReading OutputCode (List Printed)) → gone_over (then_lines first (rest count)) ≡ on_from (first >>= λ one. Ok count) rest
read_over (Ok one) count rest = then_over one (rest count)
read_over (Err fault) count rest = refl

over_by : (test : Bool) (net : Net) (at told : ℕ) (line : List ℕ) (rest : ℕ → LineReading OutputCode (List Printed))
    → gone_over (cond test (rest (told - 1)) (then_lines (numbered_line net at line) (rest (told_behind line)))) ≡ on_from (cond test (Ok (told - 1)) (numbered_line net at line >>= λ one. Ok (told_behind line))) rest
over_by true net at told line rest = refl
over_by false net at told line rest = read_over (numbered_line net at line) (told_behind line) rest

goes_by : (over : LineReading OutputCode ℕ) (rest : ℕ → LineReading OutputCode (List Printed)) (left : ℕ) → over ≡ Ok left → on_from over rest ≡ gone_over (rest left)
goes_by over rest left is = ap (λ (o : LineReading OutputCode ℕ). on_from o rest) is

fails_by : (over : LineReading OutputCode ℕ) (rest : ℕ → LineReading OutputCode (List Printed)) (fault : OutputCode × ℕ) → over ≡ Err fault → on_from over rest ≡ Err fault
fails_by over rest fault is = ap (λ (o : LineReading OutputCode ℕ). on_from o rest) is

module _ (net : Net) (at told : ℕ) (ls : List (List ℕ)) (line after : List ℕ) (total : LineReading OutputCode (Unit {0})) (cut : ls ≡ line ∷ lines after) (so_far : gone_over (lines_from net at told ls) ≡ total) where
  abbrev behind : ℕ → LineReading OutputCode (List Printed)
  behind left = lines_from net (at + 1) left (lines after)

  whole : on_from (over_line net at told line) behind ≡ total
  whole =
      sym (ap (λ (l : List (List ℕ)). gone_over (lines_from net at told l)) cut
      ∙ (ap gone_over (lines_from-line net at told line after) ∙ over_by (nat_lt 0 told) net at told line behind)) ∙ so_far

  -- one line further
  pub goes_on : (left : ℕ) → over_line net at told line ≡ Ok left → gone_over (lines_from net (at + 1) left (lines after)) ≡ total
  goes_on left is = sym (goes_by (over_line net at told line) behind left is) ∙ whole

  -- the fault of a line is the output's
  pub ends : (fault : LineFault OutputCode) → IsFaultOf (over_line net at told line) fault → IsFaultOf total fault
  ends OutOfMemory is = tt
  ends (At code number) is = sym whole ∙ fails_by (over_line net at told line) behind (code, number) is
