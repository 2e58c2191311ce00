-- What the standby keeps was sent, and what it names was told.
use Rattle.std.proofs.Common.{◌≡◌, ℕ, zero, suc, ◌<◌, ◌==◌, ◌||◌, not, if◌then◌else◌, Bool, true, false, List, [], ◌∷◌, length, slice_get, Option, Some, None, IfSome, refl, sym, ◌∙◌, ap, subst, arith}
use Rattle.std.proofs.lemmas.Bool.{and_from, and_parts, eqb-true, or_left, or_right}
use Rattle.bt_frame.proofs.OneNumber.{same_edition}
use Rattle.bt_frame.specs.declared.numbers.EditionNo.{EditionNo}
use Rattle.bt_frame.specs.declared.numbers.Mark.{Mark}
use Rattle.bt_demand.specs.declared.plan.Plan.{Plan}
use Rattle.bt_air.specs.declared.message.Message.TheVariants as message
use Rattle.bt_air.specs.declared.order.Status.{Status}
use Rattle.bt_air.specs.declared.sent.Aired.{Aired}
use Rattle.bt_air.specs.declared.sent.Aired.TheVariants as sends
use Rattle.bt_machines.specs.declared.standby.Noticed.{Noticed}
use Rattle.bt_machines.specs.declared.standby.Noticed.TheVariants.{Noted, WrongMark}
use Rattle.bt_machines.specs.Standby.{is_wrong, named}
use Rattle.bt_machines.specs.Says.{carried}
use Rattle.bt_site.specs.World.{is_told, tells}
use Rattle.bt_sites.specs.Sites.{standby_with}
use Rattle.bt_sites.proofs.Follows.{WasSent}
use Rattle.bt_sites.proofs.Knows.{is-itself}

-- a status that was sent tells what it has in front
tells-itself : (status : Status) → tells status.mark.0 status.fore (sends.Status status) ≡ true
tells-itself status = and_from (status.mark.0 == status.mark.0) (status.fore.0 == status.fore.0) (is-itself status.mark.0) (is-itself status.fore.0)

pub some-same : {A : Type 0} (x y : A) → Some x ≡ Some y → x ≡ y
some-same x y e = cc

told-at : (sent : List Aired) (number : ℕ) (status : Status) → slice_get sent number ≡ Some (sends.Status status) → is_told sent status.mark.0 status.fore ≡ true
told-at [] number status e = cc
told-at (x ∷ xs) zero status e =
    or_left (tells status.mark.0 status.fore x) (is_told xs status.mark.0 status.fore)
    (subst (λ (one : Aired). tells status.mark.0 status.fore one ≡ true) (sym (some-same x (sends.Status status) e)) (tells-itself status))
told-at (x ∷ xs) (suc number) status e =
    or_right (tells status.mark.0 status.fore x) (is_told xs status.mark.0 status.fore) (told-at xs number status e)

-- what is kept after a status
kept-by : (sent : List Aired) (kept : Option Status) (status : Status) (wrong : Bool) → WasSent kept sent → WasSent (Some status) sent
    → (let row : Noticed × Option Status = if wrong then (WrongMark, kept) else (Noted, Some status) in WasSent row.1 sent)
kept-by sent kept status true old new = old
kept-by sent kept status false old new = new

pub kept-hears : (sent : List Aired) (number : ℕ) (all : List Plan) (one : Aired) (kept : Option Status) (mark : Mark) → slice_get sent number ≡ Some one → WasSent kept sent
    → WasSent (standby_with kept mark (Some (carried all one))) sent
kept-hears sent number all (sends.Status status) kept mark there was = kept-by sent kept status (is_wrong mark status) was (told-at sent number status there)
kept-hears sent number all (sends.Load command edition) kept mark there was = was
kept-hears sent number all (sends.Arm command edition due) kept mark there was = was
kept-hears sent number all (sends.PlanFor to load edition) kept mark there was = was
kept-hears sent number all (sends.Confirm from load edition) kept mark there was = was
kept-hears sent number all (sends.Reference superframe in_force next) kept mark there was = was
kept-hears sent number all (sends.Lost from) kept mark there was = was

-- what it names was told in this superframe
told-if : (sent : List Aired) (status : Status) (now : ℕ) (test : Bool) → (status.mark.0 == now) ≡ test → is_told sent status.mark.0 status.fore ≡ true
    → IfSome (if test then Some status.fore else None) (λ (edition : EditionNo). is_told sent now edition ≡ true)
told-if sent status now true e told = subst (λ (n : ℕ). is_told sent n status.fore ≡ true) (eqb-true _ _ e) told
told-if sent status now false e told = tt

pub named-told : (sent : List Aired) (kept : Option Status) (mark : Mark) → WasSent kept sent → IfSome (named kept mark) (λ (edition : EditionNo). is_told sent mark.0 edition ≡ true)
named-told sent None mark was = tt
named-told sent (Some status) mark was = told-if sent status mark.0 (status.mark.0 == mark.0) refl was

-- the status that told an edition
pub record Teller (sent : List Aired) (now : ℕ) (edition : EditionNo) : Type 0 where
  pub number : ℕ
  pub within : number < length sent
  pub status : Status
  pub there : slice_get sent number ≡ Some (sends.Status status)
  pub present : (status.mark.0 == now) ≡ true
  pub fore : status.fore ≡ edition

first-teller : (x : Aired) (xs : List Aired) (now : ℕ) (edition : EditionNo) → tells now edition x ≡ true → Teller (x ∷ xs) now edition
first-teller (sends.Status status) xs now edition e =
    let both = and_parts (status.mark.0 == now) (status.fore.0 == edition.0) e in
    record { number = zero; within = omega arith; status = status; there = refl; present = both.0; fore = same_edition status.fore edition (eqb-true _ _ both.1) }
first-teller (sends.Load command other) xs now edition e = cc
first-teller (sends.Arm command other due) xs now edition e = cc
first-teller (sends.PlanFor to load other) xs now edition e = cc
first-teller (sends.Confirm from load other) xs now edition e = cc
first-teller (sends.Reference superframe in_force next) xs now edition e = cc
first-teller (sends.Lost from) xs now edition e = cc

rest-teller : (x : Aired) (xs : List Aired) (now : ℕ) (edition : EditionNo) → Teller xs now edition → Teller (x ∷ xs) now edition
rest-teller x xs now edition t = record { number = suc t.number; within = omega (arith, t.within); status = t.status; there = t.there; present = t.present; fore = t.fore }

or-not : (a b : Bool) → (a || b) ≡ true → a ≡ false → b ≡ true
or-not true b e f = cc
or-not false b e f = e

teller-if : (x : Aired) (xs : List Aired) (now : ℕ) (edition : EditionNo) (test : Bool) → tells now edition x ≡ test → (is_told xs now edition ≡ true → Teller xs now edition)
    → is_told (x ∷ xs) now edition ≡ true → Teller (x ∷ xs) now edition
teller-if x xs now edition true e rest told = first-teller x xs now edition e
teller-if x xs now edition false e rest told = rest-teller x xs now edition (rest (or-not (tells now edition x) (is_told xs now edition) told e))

pub teller : (sent : List Aired) (now : ℕ) (edition : EditionNo) → is_told sent now edition ≡ true → Teller sent now edition
teller [] now edition told = cc
teller (x ∷ xs) now edition told = teller-if x xs now edition (tells now edition x) refl (teller xs now edition) told

-- who hears a status of the present superframe names what it has in front
noted : (kept : Option Status) (status : Status) (wrong : Bool) → wrong ≡ false
    → (let row : Noticed × Option Status = if wrong then (WrongMark, kept) else (Noted, Some status) in row.1 ≡ Some status)
noted kept status true e = cc
noted kept status false e = refl

names-by : (status : Status) (test : Bool) → test ≡ true → (if test then Some status.fore else None) ≡ Some status.fore
names-by status true e = refl
names-by status false e = cc

pub names-heard : (kept : Option Status) (mark : Mark) (status : Status) → (status.mark.0 == mark.0) ≡ true → named (standby_with kept mark (Some (message.Status status))) mark ≡ Some status.fore
names-heard kept mark status e =
    ap (λ (k : Option Status). named k mark) (noted kept status (is_wrong mark status) (ap (λ (test : Bool). not test) e)) ∙ names-by status (status.mark.0 == mark.0) e
