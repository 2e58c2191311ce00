-- The rows of a table, and the fields of a row.
use Rattle.std.proofs.Common.{◌≡◌, ℕ, zero, suc, ◌<◌, List, [], ◌∷◌, ◌++◌, length, Option, Some, None, Bor, option_map, is_some, true, false, refl, sym, ap, ◌∙◌, append_assoc, arith}
use Rattle.csv.specs.Records.{field_at}
use Rattle.bt_text.specs.Text.{lines}
use Rattle.bt_text.proofs.FirstLine.{lines-HasFirst}
use Rattle.bt_export.specs.Row.{three_of}
use Rattle.bt_export.specs.Table.{fields_in, link_row, rows_of, traffic_lines, without_end}

-- fewer than three fields, or more
pub fewer : (fields : List (List ℕ)) (place : ℕ) → place < 3 → None ≡ field_at fields place → None ≡ three_of fields
unfolding field_at
fewer [] place within none = refl
fewer (a ∷ []) place within none = refl
fewer (a ∷ b ∷ []) place within none = refl
fewer (a ∷ b ∷ c ∷ []) zero within none = absurd cc
fewer (a ∷ b ∷ c ∷ []) (suc zero) within none = absurd cc
fewer (a ∷ b ∷ c ∷ []) (suc (suc zero)) within none = absurd cc
fewer (a ∷ b ∷ c ∷ []) (suc (suc (suc place))) within none = absurd (omega arith)
fewer (a ∷ b ∷ c ∷ d ∷ more) place within none = refl

pub more : (fields : List (List ℕ)) (fourth : List ℕ) → Some fourth ≡ field_at fields 3 → None ≡ three_of fields
unfolding field_at
more [] fourth is = refl
more (a ∷ []) fourth is = refl
more (a ∷ b ∷ []) fourth is = refl
more (a ∷ b ∷ c ∷ []) fourth is = absurd cc
more (a ∷ b ∷ c ∷ d ∷ rest) fourth is = refl

pub three : (fields : List (List ℕ)) (from to units : List ℕ) → Some from ≡ field_at fields 0 → Some to ≡ field_at fields 1 → Some units ≡ field_at fields 2 → None ≡ field_at fields 3
    → Some (from ∷ to ∷ units ∷ []) ≡ three_of fields
unfolding field_at
three [] from to units first second third none = absurd cc
three (a ∷ []) from to units first second third none = absurd cc
three (a ∷ b ∷ []) from to units first second third none = absurd cc
three (a ∷ b ∷ c ∷ []) from to units first second third none =
    let one : from ≡ a = cc in
    let two : to ≡ b = cc in
    let last : units ≡ c = cc in
    rw (one, two, last) refl
three (a ∷ b ∷ c ∷ d ∷ rest) from to units first second third none = absurd cc

-- a row that is not three fields says nothing
pub says_nothing : (fields : List (List ℕ)) → None ≡ three_of fields → link_row (Some fields) ≡ []
says_nothing [] none = refl
says_nothing (a ∷ []) none = refl
says_nothing (a ∷ b ∷ []) none = refl
says_nothing (a ∷ b ∷ c ∷ []) none = absurd cc
says_nothing (a ∷ b ∷ c ∷ d ∷ rest) none = refl

pub says_link : (fields : List (List ℕ)) (from to units : List ℕ) → Some (from ∷ to ∷ units ∷ []) ≡ three_of fields → link_row (Some (from ∷ to ∷ units ∷ [])) ≡ link_row (Some fields)
says_link [] from to units is = absurd cc
says_link (a ∷ []) from to units is = absurd cc
says_link (a ∷ b ∷ []) from to units is = absurd cc
says_link (a ∷ b ∷ c ∷ []) from to units is = let same : from ∷ to ∷ units ∷ [] ≡ a ∷ b ∷ c ∷ [] = cc in ap (λ (fs : List (List ℕ)). link_row (Some fs)) same
says_link (a ∷ b ∷ c ∷ d ∷ rest) from to units is = absurd cc

-- a line in front of others
pub without_end-line : (line after : List ℕ) → without_end (line ∷ lines after) ≡ line ∷ without_end (lines after)
without_end-line line after =
    let next_line = lines-HasFirst after in
    rw next_line.2 refl

pub first_row : (text line after : List ℕ) → lines text ≡ line ∷ lines after → rows_of text ≡ line ∷ rows_of after
first_row text line after cut = ap without_end cut ∙ without_end-line line after

pub last_row : (text : List ℕ) → 0 < length text → lines text ≡ text ∷ [] → rows_of text ≡ text ∷ []
last_row [] some only = absurd (omega arith)
last_row (first ∷ rest) some only = ap without_end only

pub no_row : (text : List ℕ) → text ≡ [] → lines text ≡ text ∷ [] → rows_of text ≡ []
no_row text none only = ap without_end (only ∙ ap (λ (t : List ℕ). t ∷ []) none)

-- the line of a row, and then those of the others
pub one_further : (now after row whole rest text : List ℕ) → lines text ≡ row ∷ lines rest → now ++ traffic_lines (rows_of text) ≡ whole → after ≡ now ++ (link_row (fields_in row) ++ 10 ∷ []) → after ++ traffic_lines (rows_of rest) ≡ whole
one_further now after row whole rest text cut so_far added =
    let one = link_row (fields_in row) ++ 10 ∷ [] in
    ap (λ (t : List ℕ). t ++ traffic_lines (rows_of rest)) added ∙ append_assoc now one (traffic_lines (rows_of rest)) ∙ ap (λ rows. now ++ traffic_lines rows) (sym (first_row text row rest cut)) ∙ so_far

-- whether there is a fourth field
pub fourth_there : (fields : List (List ℕ)) (answer : Option (Bor (List ℕ))) → is_some answer ≡ true → option_map (λ (field : Bor (List ℕ)). field.now) answer ≡ field_at fields 3 → None ≡ three_of fields
fourth_there fields None some is = absurd cc
fourth_there fields (Some field) some is = more fields field.now is

pub fourth_none : (fields : List (List ℕ)) (answer : Option (Bor (List ℕ))) → is_some answer ≡ false → option_map (λ (field : Bor (List ℕ)). field.now) answer ≡ field_at fields 3 → None ≡ field_at fields 3
fourth_none fields None some is = is
fourth_none fields (Some field) some is = absurd cc
