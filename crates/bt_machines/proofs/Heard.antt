-- What a standby names is said by what it heard.
use Rattle.std.proofs.Common.{◌≡◌, ◌==◌, ◌&&◌, ◌<◌, ◌≤◌, if◌then◌else◌, Bool, true, false, List, [], ◌∷◌, Option, Some, None, refl, sym, ap, ◌∙◌, arith}
use Rattle.std.proofs.lemmas.Bool.Decides.{nat_tests}
use Rattle.bt_frame.specs.declared.numbers.EditionNo.{EditionNo}
use Rattle.bt_frame.specs.declared.numbers.Mark.{Mark}
use Rattle.bt_air.specs.declared.order.Status.{Status}
use Rattle.bt_machines.specs.declared.standby.Noticed.{Noticed}
use Rattle.bt_machines.specs.declared.standby.Noticed.TheVariants.{Noted, WrongMark}
use Rattle.bt_machines.specs.Standby.{is_wrong, named, step_of}
use Rattle.bt_machines.specs.Heard.{AreUpTo, kept_after, told_in}

-- of a superframe that is later than all in which something was heard, nothing is told
none_told : (heard : List (Mark × Status)) (at mark : Mark) → AreUpTo at heard → at.0 < mark.0 → told_in mark heard ≡ None
none_told [] at mark up later = refl
none_told ((before, status) ∷ earlier) at mark up later =
    let b : before.0 ≤ at.0 = up.0 in
    let other : (before.0 == mark.0) ≡ false = grind (arith, nat_tests) in
    rw other (none_told earlier before mark up.1 (omega arith))

-- a status that was kept, by whether it was heard in this superframe
kept_names : (status : Status) (earlier : List (Mark × Status)) (at mark : Mark) (now : Bool) → (at.0 == mark.0) ≡ now → status.mark.0 ≡ at.0 → at.0 ≤ mark.0 → AreUpTo at earlier
    → named (Some status) mark ≡ told_in mark ((at, status) ∷ earlier)
kept_names status earlier at mark true e same up before =
    let own : (status.mark.0 == mark.0) ≡ true = grind (arith, nat_tests) in
    rw (e, own) refl
kept_names status earlier at mark false e same up before =
    let other : (status.mark.0 == mark.0) ≡ false = grind (arith, nat_tests) in
    let later : at.0 < mark.0 = grind (arith, nat_tests) in
    rw (e, other) (sym (none_told earlier at mark before later))

-- a status that was refused
refused_tells : (status : Status) (at mark : Mark) (now : Bool) (own earlier : Option EditionNo) → (at.0 == mark.0) ≡ now → (status.mark.0 == at.0) ≡ false
    → (if (at.0 == mark.0) && (status.mark.0 == mark.0) then own else earlier) ≡ earlier
refused_tells status at mark true own earlier e wrong =
    let other : (status.mark.0 == mark.0) ≡ false = grind (arith, nat_tests) in
    rw (e, other) refl
refused_tells status at mark false own earlier e wrong = rw e refl

-- what is kept, by whether the status is of the superframe in which it was heard
kept_row : (kept : Option Status) (at : Mark) (status : Status) (own : Bool) → (status.mark.0 == at.0) ≡ own → (step_of kept at status).1 ≡ (if own then Some status else kept)
kept_row kept at status true e = rw e refl
kept_row kept at status false e = rw e refl

-- what is named then
heard_names : (status : Status) (earlier : List (Mark × Status)) (at mark : Mark) (own : Bool) → (status.mark.0 == at.0) ≡ own → at.0 ≤ mark.0 → AreUpTo at earlier
    → named (kept_after earlier) mark ≡ told_in mark earlier → named (kept_after ((at, status) ∷ earlier)) mark ≡ told_in mark ((at, status) ∷ earlier)
heard_names status earlier at mark true e up before known =
    let same : status.mark.0 ≡ at.0 = grind (arith, nat_tests) in
    ap (λ (kept : Option Status). named kept mark) (kept_row (kept_after earlier) at status true e)
    ∙ kept_names status earlier at mark _ refl same up before
heard_names status earlier at mark false e up before known =
    ap (λ (kept : Option Status). named kept mark) (kept_row (kept_after earlier) at status false e)
    ∙ known ∙ sym (refused_tells status at mark _ (Some status.fore) (told_in mark earlier) refl e)

-- the same of what was heard up to a later superframe
up_to : (heard : List (Mark × Status)) (at mark : Mark) → at.0 ≤ mark.0 → AreUpTo at heard → AreUpTo mark heard
up_to [] at mark later up = tt
up_to ((before, status) ∷ earlier) at mark later up = let b : before.0 ≤ at.0 = up.0 in (omega arith, up.1)

pub names-said : (heard : List (Mark × Status)) (mark : Mark) → AreUpTo mark heard → named (kept_after heard) mark ≡ told_in mark heard
names-said [] mark up = refl
names-said ((at, status) ∷ earlier) mark up =
    heard_names status earlier at mark _ refl up.0 up.1 (names-said earlier mark (up_to earlier at mark up.0 up.1))

-- the row of a refusal
row_refused : (kept : Option Status) (status : Status) (wrong : Bool) → (let row : Noticed × Option Status = if wrong then (WrongMark, kept) else (Noted, Some status) in row.0 ≡ WrongMark → row.1 ≡ kept)
row_refused kept status true is = refl
row_refused kept status false is = cc

pub refused : (kept : Option Status) (mark : Mark) (status : Status) → (step_of kept mark status).0 ≡ WrongMark → (step_of kept mark status).1 ≡ kept
refused kept mark status = row_refused kept status (is_wrong mark status)
