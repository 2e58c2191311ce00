-- Going through desks one after the other, as a loop does.
use Rattle.std.proofs.Common.{◌≡◌, ℕ, suc, ◌+◌, ◌-◌, ◌<◌, ◌≤◌, List, ◌++◌, sym, ap, subst, ◌∙◌, refl, append_assoc, arith}
use Rattle.std.specs.Prelude.{flat_map}
use Rattle.std.proofs.lemmas.List.{append-nil}
use Rattle.bt_script.specs.declared.line.ScriptLine.{ScriptLine}
use Rattle.bt_script.specs.declared.script.DeskLine.{DeskLine}
use Rattle.bt_script.specs.Desks.{AreDesks}
use Rattle.bt_script.specs.ScriptText.{own_lines, entry_of, desks_of}
use Rattle.bt_script.proofs.Order.{said_desks}

-- one desk further
pub next_desk : (front : List (ℕ × List DeskLine)) (desk : ℕ) (said : List ScriptLine) (total : List (ℕ × List DeskLine)) → desk < 17
    → front ++ desks_of desk (17 - desk) said ≡ total → (front ++ entry_of desk (flat_map (own_lines desk) said)) ++ desks_of (desk + 1) (17 - (desk + 1)) said ≡ total
next_desk front desk said total more so_far =
    let k : 17 - desk ≡ suc (17 - (desk + 1)) = omega arith in
    let one : desks_of desk (17 - desk) said ≡ entry_of desk (flat_map (own_lines desk) said) ++ desks_of (desk + 1) (17 - (desk + 1)) said = rw k refl in
    rw append_assoc (sym (ap (λ (rest : List (ℕ × List DeskLine)). front ++ rest) one) ∙ so_far)

-- behind the last desk, those in front are all of the round's
pub all_desks : (front : List (ℕ × List DeskLine)) (desk : ℕ) (said : List ScriptLine) → 17 ≤ desk → front ++ desks_of desk (17 - desk) said ≡ desks_of 1 16 said → AreDesks front
all_desks front desk said last so_far =
    let none : 17 - desk ≡ 0 = omega arith in
    let all : front ≡ desks_of 1 16 said = sym (append-nil front) ∙ ap (λ (n : ℕ). front ++ desks_of desk n said) (sym none) ∙ so_far in
    subst (λ (desks : List (ℕ × List DeskLine)). AreDesks desks) (sym all) (said_desks said)
