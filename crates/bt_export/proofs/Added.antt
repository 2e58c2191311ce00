-- The JSON of one line more, and its fault.
use Rattle.std.proofs.Common.{◌≡◌, ℕ, ◌+◌, ◌<◌, List, [], ◌∷◌, ◌++◌, length, Option, Some, None, Ok, Err, refl, sym, ap, subst, ◌∙◌, append_assoc}
use Rattle.std.proofs.lemmas.List.{append-nil}
use Rattle.bt_text.specs.Reading.{◌>>=◌, IsFaultOf, LineReading, or_fault}
use Rattle.bt_text.specs.Text.{lines}
use Rattle.bt_text.specs.declared.fault.LineFault.{LineFault}
use Rattle.bt_text.specs.declared.fault.LineFault.TheVariants.{At, OutOfMemory}
use Rattle.bt_export.specs.declared.json.JsonCode.{JsonCode}
use Rattle.bt_export.specs.declared.json.JsonCode.TheVariants.{O1}
use Rattle.bt_export.specs.Added.{behind, with_json}
use Rattle.bt_export.specs.Json.{AllSayBack, SaysBack, json_from, json_line}
use Rattle.bt_export.specs.Table.{rows_of}
use Rattle.bt_export.proofs.Rows.{first_row, last_row, no_row}

pub nothing_in_front : (reading : LineReading JsonCode (List ℕ)) → behind [] reading ≡ reading
nothing_in_front (Ok more) = refl
nothing_in_front (Err fault) = refl

-- a piece is behind the text, and what is read behind it
moved : (text piece : List ℕ) (reading : LineReading JsonCode (List ℕ)) → behind (text ++ piece) reading ≡ behind text (reading >>= λ more. Ok (piece ++ more))
moved text piece (Ok more) = ap (λ (t : List ℕ). Ok t) (append_assoc text piece more)
moved text piece (Err fault) = refl

step : (at : ℕ) (old new : List ℕ) (one : Option (List ℕ)) (reading : LineReading JsonCode (List ℕ)) → with_json at old one ≡ Ok new
    → behind new reading ≡ behind old (or_fault (O1, at) one >>= λ json. reading >>= λ more. Ok ((json ++ 10 ∷ []) ++ more))
step at old new None reading added = absurd cc
step at old new (Some json) reading added =
    let same : old ++ (json ++ 10 ∷ []) ≡ new = cc in
    ap (λ (t : List ℕ). behind t reading) (sym same) ∙ moved old (json ++ 10 ∷ []) reading

-- one line further
pub goes_on : (at : ℕ) (old new line after rest : List ℕ) (whole : LineReading JsonCode (List ℕ)) → lines rest ≡ line ∷ lines after → with_json at old (json_line line) ≡ Ok new → behind old (json_from at (rows_of rest)) ≡ whole
    → behind new (json_from (at + 1) (rows_of after)) ≡ whole
goes_on at old new line after rest whole cut added so_far =
    step at old new (json_line line) (json_from (at + 1) (rows_of after)) added
    ∙ ap (λ (rows : List (List ℕ)). behind old (json_from at rows)) (sym (first_row rest line after cut)) ∙ so_far

-- the fault of a line is that of all
faulty : (at : ℕ) (old : List ℕ) (fault : LineFault JsonCode) (one : Option (List ℕ)) (reading whole : LineReading JsonCode (List ℕ)) → IsFaultOf (with_json at old one) fault
    → behind old (or_fault (O1, at) one >>= λ json. reading >>= λ more. Ok ((json ++ 10 ∷ []) ++ more)) ≡ whole → IsFaultOf whole fault
faulty at old OutOfMemory one reading whole is so_far = tt
faulty at old (At code number) None reading whole is so_far = sym so_far ∙ is
faulty at old (At code number) (Some json) reading whole is so_far = absurd cc

pub ends : (at : ℕ) (old line after rest : List ℕ) (fault : LineFault JsonCode) (whole : LineReading JsonCode (List ℕ)) → lines rest ≡ line ∷ lines after → IsFaultOf (with_json at old (json_line line)) fault
    → behind old (json_from at (rows_of rest)) ≡ whole → IsFaultOf whole fault
ends at old line after rest fault whole cut is so_far =
    faulty at old fault (json_line line) (json_from (at + 1) (rows_of after)) whole is (ap (λ (rows : List (List ℕ)). behind old (json_from at rows)) (sym (first_row rest line after cut)) ∙ so_far)

-- behind the last newline
pub last_empty : (at : ℕ) (old line : List ℕ) → line ≡ [] → lines line ≡ line ∷ [] → behind old (json_from at (rows_of line)) ≡ Ok old
last_empty at old line none only = ap (λ (rows : List (List ℕ)). behind old (json_from at rows)) (no_row line none only) ∙ ap (λ (t : List ℕ). Ok t) (append-nil old)

last_by : (at : ℕ) (old : List ℕ) (one : Option (List ℕ)) → behind old (or_fault (O1, at) one >>= λ json. json_from (at + 1) [] >>= λ more. Ok ((json ++ 10 ∷ []) ++ more)) ≡ with_json at old one
last_by at old None = refl
last_by at old (Some json) = ap (λ (t : List ℕ). Ok (old ++ t)) (append-nil (json ++ 10 ∷ []))

pub last_line : (at : ℕ) (old line : List ℕ) → 0 < length line → lines line ≡ line ∷ [] → behind old (json_from at (rows_of line)) ≡ with_json at old (json_line line)
last_line at old line some only = ap (λ (rows : List (List ℕ)). behind old (json_from at rows)) (last_row line some only) ∙ last_by at old (json_line line)

pub last_back : (line : List ℕ) → 0 < length line → lines line ≡ line ∷ [] → SaysBack line → AllSayBack (rows_of line)
last_back line some only says = subst (λ (rows : List (List ℕ)). AllSayBack rows) (sym (last_row line some only)) (says, tt)

pub none_back : (line : List ℕ) → line ≡ [] → lines line ≡ line ∷ [] → AllSayBack (rows_of line)
none_back line none only = subst (λ (rows : List (List ℕ)). AllSayBack rows) (sym (no_row line none only)) tt

pub more_back : (line after rest : List ℕ) → lines rest ≡ line ∷ lines after → SaysBack line → AllSayBack (rows_of after) → AllSayBack (rows_of rest)
more_back line after rest cut says others = subst (λ (rows : List (List ℕ)). AllSayBack rows) (sym (first_row rest line after cut)) (says, others)
