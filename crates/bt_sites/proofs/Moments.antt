-- What a site is at a moment of a late run it is at an end of a superframe of the run in order.
use Rattle.std.proofs.Common.{◌≡◌, ℕ, ◌<◌, ◌≤◌, List, [], ◌∷◌, ◌++◌, refl, sym, ◌∙◌, ap, subst, append_assoc}
use Rattle.bt_sites.specs.Step.{Site, Satellite, Step}
use Rattle.bt_site.specs.Event.{Opening}
use Rattle.bt_sites.specs.Late.{HasBegun, Late, now_of, site_of, steps_of}
use Rattle.bt_sites.proofs.Inserts.{AllAfter, IsBefore, cut-at, now-put, others-later, past-both, same-behind, same-put}
use Rattle.bt_sites.proofs.Same.{SameFor, same-sym, same-trans}

-- the steps up to the end of a superframe, after which a site is what it is after those
pub record Moment (o : Opening) (all : List Step) (site : Site) (mark : ℕ) (done : List Late) : Type 0 where
  pub later : List Step
  pub earlier : List Step
  pub is : later ++ earlier ≡ all
  pub at : now_of o earlier ≡ mark
  pub same : SameFor o site earlier (steps_of done)

-- of two parts of one list the one goes on from the other
pub data Goes (a b c d : List Step) : Type 0 where
  Before : (k : List Step) → d ≡ k ++ b → Goes a b c d
  Behind : (x : Step) (k : List Step) → b ≡ (x ∷ k) ++ d → c ≡ a ++ (x ∷ k) → Goes a b c d

goes-more : (x y : Step) (a b c d : List Step) → x ≡ y → Goes a b c d → Goes (x ∷ a) b (y ∷ c) d
goes-more x y a b c d same (Before k e) = Before k e
goes-more x y a b c d same (Behind z k e f) = Behind z k e (ap (λ (list : List Step). y ∷ list) f ∙ ap (λ (one : Step). one ∷ (a ++ (z ∷ k))) (sym same))

abbrev first_of : Step → List Step → Step
first_of other [] = other
first_of other (one ∷ before) = one

abbrev rest_of : List Step → List Step
rest_of [] = []
rest_of (one ∷ before) = before

first-same : (x y : Step) (a b : List Step) → x ∷ a ≡ y ∷ b → x ≡ y
first-same x y a b e = ap (λ (list : List Step). first_of x list) e

rest-same : (x y : Step) (a b : List Step) → x ∷ a ≡ y ∷ b → a ≡ b
rest-same x y a b e = ap (λ (list : List Step). rest_of list) e

pub goes : (a b c d : List Step) → a ++ b ≡ c ++ d → Goes a b c d
goes [] b [] d e = Before [] (sym e)
goes [] b (x ∷ c) d e = Behind x c e refl
goes (x ∷ a) b [] d e = Before (x ∷ a) (sym e)
goes (x ∷ a) b (y ∷ c) d e = goes-more x y a b c d (first-same x y (a ++ b) (c ++ d) e) (goes a b c d (rest-same x y (a ++ b) (c ++ d) e))

-- the moment of all that was done
pub moment-now : (o : Opening) (late : List Late) (all : List Step) (site : Site) (mark : ℕ) → now_of o (steps_of late) ≡ now_of o all → SameFor o site all (steps_of late)
    → IsBefore o site mark all → HasBegun o late mark → Moment o all site mark late
moment-now o late all site mark now same before has =
    let cut = cut-at o mark all has.opened (subst (λ (n : ℕ). mark ≤ n) now has.begun) in
    let others = others-later o site mark cut.later cut.earlier (subst (λ (list : List Step). IsBefore o site mark list) (sym cut.is) before) cut.after in
    let whole = subst (λ (list : List Step). SameFor o site list (steps_of late)) (sym cut.is) same in
    record {
      later = cut.later;
      earlier = cut.earlier;
      is = cut.is;
      at = cut.at;
      same = same-trans o site cut.earlier (cut.later ++ cut.earlier) (steps_of late) (same-sym o site (cut.later ++ cut.earlier) cut.earlier (same-behind o cut.later cut.earlier site others)) whole;
    }

-- a step of the satellite behind it
pub moment-last : (o : Opening) (all : List Step) (site : Site) (mark : ℕ) (done : List Late) (step : Step) → Moment o all site mark done → Moment o (step ∷ all) site mark done
moment-last o all site mark done step m =
    record { later = step ∷ m.later; earlier = m.earlier; is = ap (λ (list : List Step). step ∷ list) m.is; at = m.at; same = m.same }

-- the superframe was past where steps stand behind
past-at : (o : Opening) (mark : ℕ) (a : List Step) (x : Step) (k earlier : List Step) → AllAfter o mark (a ++ (x ∷ k)) earlier → mark < now_of o ((x ∷ k) ++ earlier)
past-at o mark [] x k earlier after = after.0
past-at o mark (y ∷ a) x k earlier after = past-at o mark a x k earlier after.1

put-by : (o : Opening) (later earlier : List Step) (site : Site) (mark : ℕ) (done : List Late) (put : ℕ) (step : Step) → (site_of step ≡ Satellite → ⊥) → AllAfter o put later earlier
    → (site_of step ≡ site → mark ≤ put) → (m : Moment o (later ++ earlier) site mark done) → Goes m.later m.earlier later earlier → Moment o (later ++ (step ∷ earlier)) site mark done
put-by o later earlier site mark done put step ground after from m (Before k e) = record {
  later = later ++ (step ∷ k);
  earlier = m.earlier;
  is = append_assoc later (step ∷ k) m.earlier ∙ ap (λ (list : List Step). later ++ (step ∷ list)) (sym e);
  at = m.at;
  same = m.same;
}
put-by o later earlier site mark done put step ground after from m (Behind x k e f) =
    let past : put < now_of o ((x ∷ k) ++ earlier) = past-at o put m.later x k earlier (subst (λ (list : List Step). AllAfter o put list earlier) f after) in
    let here : now_of o ((x ∷ k) ++ earlier) ≡ mark = ap (λ (list : List Step). now_of o list) (sym e) ∙ m.at in
    let other : site_of step ≡ site → ⊥ = λ is. past-both put mark (subst (λ (n : ℕ). put < n) here past) (from is) in
    record {
      later = m.later;
      earlier = (x ∷ k) ++ (step ∷ earlier);
      is = sym (append_assoc m.later (x ∷ k) (step ∷ earlier)) ∙ ap (λ (list : List Step). list ++ (step ∷ earlier)) (sym f);
      at = sym (now-put o (x ∷ k) earlier step ground) ∙ here;
      same = same-trans o site ((x ∷ k) ++ (step ∷ earlier)) ((x ∷ k) ++ earlier) (steps_of done)
          (same-sym o site ((x ∷ k) ++ earlier) ((x ∷ k) ++ (step ∷ earlier)) (same-put o (x ∷ k) earlier step site other))
          (subst (λ (list : List Step). SameFor o site list (steps_of done)) e m.same);
    }

-- a step of another site put in
pub moment-put : (o : Opening) (later earlier : List Step) (site : Site) (mark : ℕ) (done : List Late) (put : ℕ) (step : Step) → (site_of step ≡ Satellite → ⊥) → AllAfter o put later earlier
    → (site_of step ≡ site → mark ≤ put) → Moment o (later ++ earlier) site mark done → Moment o (later ++ (step ∷ earlier)) site mark done
moment-put o later earlier site mark done put step ground after from m = put-by o later earlier site mark done put step ground after from m (goes m.later m.earlier later earlier m.is)
