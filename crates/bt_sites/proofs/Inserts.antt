-- A step of one site, put in behind later steps of others.
use Rattle.std.proofs.Common.{◌≡◌, ◌⊎◌, inl, inr, ℕ, ◌+◌, ◌<◌, ◌≤◌, ◌==◌, nat_lt, Bool, true, false, List, [], ◌∷◌, ◌++◌, refl, sym, ap, subst, arith}
use Rattle.std.proofs.lemmas.Bool.Decides.{nat_tests}
use Rattle.std.proofs.lemmas.Bool.{eqb-true}
use Rattle.bt_frame.specs.declared.numbers.TermNo.{TermNo}
use Rattle.bt_sites.specs.Step.{Site, Satellite, Centre, Terminal, Standby, Step}
use Rattle.bt_machines.specs.Satellite.{State as Onboard}
use Rattle.bt_site.specs.Event.{Opening}
use Rattle.bt_site.specs.World.{greatest_due}
use Rattle.bt_sites.specs.Fits.{AreSites, MayStep, WasSaid}
use Rattle.bt_sites.specs.Late.{now_of, site_of}
use Rattle.bt_sites.specs.Sites.{said, said_with}
use Rattle.bt_sites.proofs.Marks.{now-next}
use Rattle.bt_sites.proofs.Same.{SameFor, may-still, same-next, same-other, same-said, same-self, same-sym, same-trans, same-number}

-- the number of a terminal
abbrev number_of : Site → ℕ
number_of (Terminal number) = number.0
number_of site = 0

not-same : (x y : ℕ) → (x == y) ≡ false → x ≡ y → ⊥
not-same x y e same = grind (arith, nat_tests)

by-number : (a b : TermNo) (test : Bool) → (a.0 == b.0) ≡ test → (Terminal a ≡ Terminal b) ⊎ (Terminal a ≡ Terminal b → ⊥)
by-number a b true e = inl (ap (λ (n : TermNo). Terminal n) (same-number a b (eqb-true _ _ e)))
by-number a b false e = inr (λ same. not-same a.0 b.0 e (ap (λ (place : Site). number_of place) same))

-- which kind of site
abbrev kind_of : Site → ℕ
kind_of Satellite = 0
kind_of Centre = 1
kind_of (Terminal number) = 2
kind_of Standby = 3

differ : (x y : ℕ) → x ≡ y → (x == y) ≡ false → ⊥
differ x y same e = not-same x y e same

-- terminals, the centre and the standby are not on board
pub ground-terminal : (number : TermNo) → Terminal number ≡ Satellite → ⊥
ground-terminal number e = differ 2 0 (ap kind_of e) refl

pub ground-centre : Centre ≡ Satellite → ⊥
ground-centre e = differ 1 0 (ap kind_of e) refl

pub ground-standby : Standby ≡ Satellite → ⊥
ground-standby e = differ 3 0 (ap kind_of e) refl

-- two sites are one, or not
pub same-site : (a b : Site) → (a ≡ b) ⊎ (a ≡ b → ⊥)
same-site Satellite Satellite = inl refl
same-site Satellite Centre = inr (λ e. differ 0 1 (ap kind_of e) refl)
same-site Satellite (Terminal number) = inr (λ e. differ 0 2 (ap kind_of e) refl)
same-site Centre Satellite = inr (λ e. differ 1 0 (ap kind_of e) refl)
same-site Centre Centre = inl refl
same-site Centre (Terminal number) = inr (λ e. differ 1 2 (ap kind_of e) refl)
same-site (Terminal number) Satellite = inr (λ e. differ 2 0 (ap kind_of e) refl)
same-site (Terminal number) Centre = inr (λ e. differ 2 1 (ap kind_of e) refl)
same-site (Terminal a) (Terminal b) = by-number a b (a.0 == b.0) refl
same-site Satellite Standby = inr (λ e. differ 0 3 (ap kind_of e) refl)
same-site Centre Standby = inr (λ e. differ 1 3 (ap kind_of e) refl)
same-site (Terminal number) Standby = inr (λ e. differ 2 3 (ap kind_of e) refl)
same-site Standby Satellite = inr (λ e. differ 3 0 (ap kind_of e) refl)
same-site Standby Centre = inr (λ e. differ 3 1 (ap kind_of e) refl)
same-site Standby (Terminal number) = inr (λ e. differ 3 2 (ap kind_of e) refl)
same-site Standby Standby = inl refl

-- what was said
pub was-left : (a b : List (List ℕ)) (bytes : List ℕ) → WasSaid a bytes → WasSaid (a ++ b) bytes
was-left [] b bytes was = absurd was
was-left (x ∷ xs) b bytes (inl same) = inl same
was-left (x ∷ xs) b bytes (inr was) = inr (was-left xs b bytes was)

pub was-right : (a b : List (List ℕ)) (bytes : List ℕ) → WasSaid b bytes → WasSaid (a ++ b) bytes
was-right [] b bytes was = was
was-right (x ∷ xs) b bytes was = inr (was-right xs b bytes was)

pub was-either : (a b : List (List ℕ)) (bytes : List ℕ) → WasSaid (a ++ b) bytes → WasSaid a bytes ⊎ WasSaid b bytes
was-either [] b bytes was = inr was
was-either (x ∷ xs) b bytes (inl same) = inl (inl same)
was-either (x ∷ xs) b bytes (inr was) = elim (was-either xs b bytes was) [
  | inl left ↦ inl (inr left)
  | inr right ↦ inr right
]

-- none of these steps is of the site
abbrev pub AllOther : Site → List Step → Type 0
AllOther site [] = Unit {0}
AllOther site (step ∷ rest) = (site_of step ≡ site → ⊥) × AllOther site rest

-- with these steps behind it, the satellite was past a superframe at each of those
abbrev pub AllAfter : Opening → ℕ → List Step → List Step → Type 0
AllAfter o mark [] earlier = Unit {0}
AllAfter o mark (step ∷ later) earlier = (mark < now_of o (step ∷ (later ++ earlier))) × AllAfter o mark later earlier

-- each step of the site was made by a superframe
abbrev pub IsBefore : Opening → Site → ℕ → List Step → Type 0
IsBefore o site mark [] = Unit {0}
IsBefore o site mark (step ∷ before) = (site_of step ≡ site → now_of o (step ∷ before) ≤ mark) × IsBefore o site mark before

-- the bytes were said by a superframe
abbrev pub SaidBy : Opening → ℕ → List Step → List ℕ → Type 0
SaidBy o mark [] bytes = ⊥
SaidBy o mark (step ∷ before) bytes = SaidBy o mark before bytes ⊎ ((now_of o (step ∷ before) ≤ mark) × WasSaid (said_with o before step) bytes)

-- the steps up to the end of a superframe, and those behind it
pub record Cut (o : Opening) (mark : ℕ) (all : List Step) : Type 0 where
  pub later : List Step
  pub earlier : List Step
  pub is : later ++ earlier ≡ all
  pub at : now_of o earlier ≡ mark
  pub after : AllAfter o mark later earlier

below : (x y : ℕ) → nat_lt x y ≡ true → x < y
below x y e = grind (arith, nat_tests)

not-below : (x y : ℕ) → nat_lt x y ≡ false → y ≤ x
not-below x y e = grind (arith, nat_tests)

both-ways : (x y : ℕ) → x ≤ y → y ≤ x → x ≡ y
both-ways x y le ge = omega (arith, le, ge)

under-next : (m n now : ℕ) → m < now → now ≤ n + 1 → m ≤ n
under-next m n now lt le = omega (arith, lt, le)

pub past-both : (m n : ℕ) → m < n → n ≤ m → ⊥
past-both m n lt le = omega (arith, lt, le)

cut-if : (o : Opening) (mark : ℕ) (step : Step) (before : List Step) → (mark < now_of o (step ∷ before) → Cut o mark before) → mark ≤ now_of o (step ∷ before)
    → (test : Bool) → nat_lt mark (now_of o (step ∷ before)) ≡ test → Cut o mark (step ∷ before)
cut-if o mark step before rest begun true e =
    let under = below mark (now_of o (step ∷ before)) e in
    let c = rest under in
    record {
      later = step ∷ c.later;
      earlier = c.earlier;
      is = ap (λ (list : List Step). step ∷ list) c.is;
      at = c.at;
      after = (subst (λ (list : List Step). mark < now_of o (step ∷ list)) (sym c.is) under, c.after);
    }
cut-if o mark step before rest begun false e =
    record { later = []; earlier = step ∷ before; is = refl; at = both-ways (now_of o (step ∷ before)) mark (not-below mark (now_of o (step ∷ before)) e) begun; after = tt }

pub cut-at : (o : Opening) (mark : ℕ) (all : List Step) → greatest_due o.orders ≤ mark → mark ≤ now_of o all → Cut o mark all
cut-at o mark [] opened begun = record { later = []; earlier = []; is = refl; at = both-ways (greatest_due o.orders) mark opened begun; after = tt }
cut-at o mark (step ∷ before) opened begun =
    cut-if o mark step before (λ under. cut-at o mark before opened (under-next mark (now_of o before) (now_of o (step ∷ before)) under (now-next o before step))) begun _ refl

-- no other site changes
pub same-put : (o : Opening) (later earlier : List Step) (step : Step) (site : Site) → (site_of step ≡ site → ⊥) → SameFor o site (later ++ earlier) (later ++ (step ∷ earlier))
same-put o [] earlier step site differ = same-sym o site (step ∷ earlier) earlier (same-other o site earlier step differ)
same-put o (x ∷ later) earlier step site differ = same-next o site (later ++ earlier) (later ++ (step ∷ earlier)) x (same-put o later earlier step site differ)

-- steps of others change nothing
pub same-behind : (o : Opening) (later earlier : List Step) (site : Site) → AllOther site later → SameFor o site (later ++ earlier) earlier
same-behind o [] earlier site others = same-self o site earlier
same-behind o (x ∷ later) earlier site others =
    same-trans o site (x ∷ (later ++ earlier)) (later ++ earlier) earlier (same-other o site (later ++ earlier) x others.0) (same-behind o later earlier site others.1)

-- each site is as if the step were the last
pub same-last : (o : Opening) (later earlier : List Step) (step : Step) (site : Site) → AllOther (site_of step) later → SameFor o site (later ++ (step ∷ earlier)) (step ∷ (later ++ earlier))
same-last o later earlier step site others = elim (same-site (site_of step) site) [
  | inl is ↦ subst (λ (place : Site). SameFor o place (later ++ (step ∷ earlier)) (step ∷ (later ++ earlier))) is
      (same-trans o (site_of step) (later ++ (step ∷ earlier)) (step ∷ earlier) (step ∷ (later ++ earlier)) (same-behind o later (step ∷ earlier) (site_of step) others)
      (same-next o (site_of step) earlier (later ++ earlier) step (same-sym o (site_of step) (later ++ earlier) earlier (same-behind o later earlier (site_of step) others))))
  | inr differ ↦ same-trans o site (later ++ (step ∷ earlier)) (later ++ earlier) (step ∷ (later ++ earlier))
      (same-sym o site (later ++ earlier) (later ++ (step ∷ earlier)) (same-put o later earlier step site differ))
      (same-sym o site (step ∷ (later ++ earlier)) (later ++ earlier) (same-other o site (later ++ earlier) step differ))
]

-- the satellite's superframe
pub now-put : (o : Opening) (later earlier : List Step) (step : Step) → (site_of step ≡ Satellite → ⊥) → now_of o (later ++ earlier) ≡ now_of o (later ++ (step ∷ earlier))
now-put o later earlier step ground = ap (λ (s : Onboard). s.mark.0) (same-put o later earlier step Satellite ground)

-- all that was said is said, and what the step says besides
pub said-put : (o : Opening) (later earlier : List Step) (step : Step) → AllOther (site_of step) later → (bytes : List ℕ) → WasSaid (said o (later ++ earlier)) bytes → WasSaid (said o (later ++ (step ∷ earlier))) bytes
said-put o [] earlier step others bytes was = was-left (said o earlier) (said_with o earlier step) bytes was
said-put o (x ∷ later) earlier step others bytes was = elim (was-either (said o (later ++ earlier)) (said_with o (later ++ earlier) x) bytes was) [
  | inl left ↦ was-left (said o (later ++ (step ∷ earlier))) (said_with o (later ++ (step ∷ earlier)) x) bytes (said-put o later earlier step others.1 bytes left)
  | inr right ↦ was-right (said o (later ++ (step ∷ earlier))) (said_with o (later ++ (step ∷ earlier)) x) bytes
      (subst (λ (list : List (List ℕ)). WasSaid list bytes)
      (same-said o (later ++ earlier) (later ++ (step ∷ earlier)) x (same-put o later earlier step (site_of x) (λ e. others.0 (sym e)))) right)
]

pub said-new : (o : Opening) (later earlier : List Step) (step : Step) (bytes : List ℕ) → WasSaid (said_with o earlier step) bytes → WasSaid (said o (later ++ (step ∷ earlier))) bytes
said-new o [] earlier step bytes was = was-right (said o earlier) (said_with o earlier step) bytes was
said-new o (x ∷ later) earlier step bytes was =
    was-left (said o (later ++ (step ∷ earlier))) (said_with o (later ++ (step ∷ earlier)) x) bytes (said-new o later earlier step bytes was)

-- the steps are still a run of sites
pub sites-put : (o : Opening) (later earlier : List Step) (step : Step) → (site_of step ≡ Satellite → ⊥) → AllOther (site_of step) later → MayStep o earlier step → AreSites o (later ++ earlier)
    → AreSites o (later ++ (step ∷ earlier))
sites-put o [] earlier step ground others may sites = (may, sites)
sites-put o (x ∷ later) earlier step ground others may sites = (
  may-still o (later ++ earlier) (later ++ (step ∷ earlier)) x (same-put o later earlier step (site_of x) (λ e. others.0 (sym e)))
      (same-put o later earlier step Satellite ground) (said-put o later earlier step others.1) sites.0,
  sites-put o later earlier step ground others.1 may sites.1,
)

-- what was said by a superframe
pub by-said : (o : Opening) (mark : ℕ) (all : List Step) (bytes : List ℕ) → SaidBy o mark all bytes → WasSaid (said o all) bytes
by-said o mark [] bytes was = absurd was
by-said o mark (step ∷ before) bytes (inl earlier) = was-left (said o before) (said_with o before step) bytes (by-said o mark before bytes earlier)
by-said o mark (step ∷ before) bytes (inr now) = was-right (said o before) (said_with o before step) bytes now.1

pub by-earlier : (o : Opening) (mark : ℕ) (later earlier : List Step) (bytes : List ℕ) → AllAfter o mark later earlier → SaidBy o mark (later ++ earlier) bytes → WasSaid (said o earlier) bytes
by-earlier o mark [] earlier bytes after was = by-said o mark earlier bytes was
by-earlier o mark (x ∷ later) earlier bytes after (inl before) = by-earlier o mark later earlier bytes after.1 before
by-earlier o mark (x ∷ later) earlier bytes after (inr now) = absurd (past-both mark (now_of o (x ∷ (later ++ earlier))) after.0 now.0)

pub by-put : (o : Opening) (mark : ℕ) (later earlier : List Step) (step : Step) (bytes : List ℕ) → (site_of step ≡ Satellite → ⊥) → AllOther (site_of step) later
    → SaidBy o mark (later ++ earlier) bytes → SaidBy o mark (later ++ (step ∷ earlier)) bytes
by-put o mark [] earlier step bytes ground others was = inl was
by-put o mark (x ∷ later) earlier step bytes ground others (inl was) = inl (by-put o mark later earlier step bytes ground others.1 was)
by-put o mark (x ∷ later) earlier step bytes ground others (inr was) = inr (
  subst (λ (n : ℕ). n ≤ mark) (now-put o (x ∷ later) earlier step ground) was.0,
  subst (λ (list : List (List ℕ)). WasSaid list bytes)
      (same-said o (later ++ earlier) (later ++ (step ∷ earlier)) x (same-put o later earlier step (site_of x) (λ e. others.0 (sym e)))) was.1,
)

pub by-new : (o : Opening) (mark : ℕ) (later earlier : List Step) (step : Step) (bytes : List ℕ) → now_of o (step ∷ earlier) ≤ mark → WasSaid (said_with o earlier step) bytes
    → SaidBy o mark (later ++ (step ∷ earlier)) bytes
by-new o mark [] earlier step bytes begun was = inr (begun, was)
by-new o mark (x ∷ later) earlier step bytes begun was = inl (by-new o mark later earlier step bytes begun was)

-- the steps of a site were made by a superframe
pub before-put : (o : Opening) (site : Site) (mark : ℕ) (later earlier : List Step) (step : Step) → (site_of step ≡ Satellite → ⊥) → (site_of step ≡ site → now_of o (step ∷ earlier) ≤ mark)
    → IsBefore o site mark (later ++ earlier) → IsBefore o site mark (later ++ (step ∷ earlier))
before-put o site mark [] earlier step ground begun before = (begun, before)
before-put o site mark (x ∷ later) earlier step ground begun before = (
  λ e. subst (λ (n : ℕ). n ≤ mark) (now-put o (x ∷ later) earlier step ground) (before.0 e),
  before-put o site mark later earlier step ground begun before.1,
)

-- steps behind that superframe are of others
pub others-later : (o : Opening) (site : Site) (mark : ℕ) (later earlier : List Step) → IsBefore o site mark (later ++ earlier) → AllAfter o mark later earlier → AllOther site later
others-later o site mark [] earlier before after = tt
others-later o site mark (x ∷ later) earlier before after = (
  λ e. past-both mark (now_of o (x ∷ (later ++ earlier))) after.0 (before.0 e),
  others-later o site mark later earlier before.1 after.1,
)
