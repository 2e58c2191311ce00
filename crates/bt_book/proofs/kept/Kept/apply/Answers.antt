use Rattle.std.proofs.Common.{◌≡◌, [], ◌∷◌, ◌++◌, refl, sym, subst}
use Rattle.std.proofs.lemmas.List.{append-nil}
use Rattle.bt_journal.specs.declared.call.Change.{Change}
use Rattle.bt_journal.specs.declared.call.Change.TheVariants as change
use Rattle.bt_book.proofs.Keeping.{CanApply, keeps_edit, keeps_else}
use Rattle.bt_book.proofs.kept.Kept.apply.Goals as goal

-- the edit stands behind those before it
pub returns-in-Edit-clause-keeps : goal.returns-in-Edit-clause-keeps
returns-in-Edit-clause-keeps c =
    let old = c.args.self.now in
    let can = subst (λ (x : Change). CanApply old x c.args.line) c.in-Edit.is (record { on = c.requires.on; can = c.requires.can; line_is = c.requires.line }) in
    let pushed = subst (λ (x : Change). c.push.new.self ≡ old.changes ++ x ∷ []) c.in-Edit.is c.push.ensures.pushed in
    keeps_edit old _ c.in-Edit.edit c.args.line pushed c.edit.ensures.net c.edit.ensures.edited c.push_reserved.ensures.items refl refl refl refl refl
    c.slots-slots.ensures.sound can.on can.can can.line_is c.requires.keeps

-- so does the plan
pub returns-in-Install-clause-keeps : goal.returns-in-Install-clause-keeps
returns-in-Install-clause-keeps c =
    let old = c.args.self.now in
    let can = subst (λ (x : Change). CanApply old x c.args.line) c.in-Install.is (record { on = c.requires.on; can = c.requires.can; line_is = c.requires.line }) in
    let pushed = subst (λ (x : Change). c.push.new.self ≡ old.changes ++ x ∷ []) c.in-Install.is c.push.ensures.pushed in
    keeps_else old _ (change.Install c.in-Install.plan) c.args.line refl pushed refl (sym (append-nil old.past.items)) c.push_reserved-in-Install.ensures.items (sym (append-nil old.orders.items))
    refl refl refl can.on can.can can.line_is c.requires.keeps

-- and the order
pub returns-in-Order-clause-keeps : goal.returns-in-Order-clause-keeps
returns-in-Order-clause-keeps c =
    let old = c.args.self.now in
    let can = subst (λ (x : Change). CanApply old x c.args.line) c.in-Order.is (record { on = c.requires.on; can = c.requires.can; line_is = c.requires.line }) in
    let pushed = subst (λ (x : Change). c.push.new.self ≡ old.changes ++ x ∷ []) c.in-Order.is c.push.ensures.pushed in
    keeps_else old _ (change.Order c.in-Order.order) c.args.line refl pushed refl (sym (append-nil old.past.items)) (sym (append-nil old.plans.items)) c.push_reserved-in-Order.ensures.items
    refl refl refl can.on can.can can.line_is c.requires.keeps
