-- What holds of the centre of sites apart stays.
use Rattle.std.proofs.Common.{◌≡◌, ℕ, ◌<◌, if◌then◌else◌, Bool, true, false, List, [], ◌∷◌, ◌++◌, length, reverse, All, Option, Some, None, IfSome, refl, sym, ◌∙◌, ap, subst, arith}
use Rattle.std.specs.Option.{is_some}
use Rattle.std.proofs.lemmas.List.{reverse-append}
use Rattle.std.proofs.lemmas.List.Elements.{All-cons}
use Rattle.bt_frame.specs.declared.numbers.EditionNo.{EditionNo}
use Rattle.bt_net.specs.Network.{IsSound}
use Rattle.bt_demand.specs.declared.plan.Plan.{Plan}
use Rattle.bt_demand.specs.Flyable.{IsFlyable}
use Rattle.bt_air.specs.Range.{IsMark}
use Rattle.bt_machines.specs.CentreSteps.{needed_by}
use Rattle.bt_machines.specs.Last.{last_order}
use Rattle.bt_machines.specs.Plans.{IsStored, StartsEmpty, newest_of, plan_of}
use Rattle.bt_site.specs.Event.{Opening}
use Rattle.bt_site.specs.Fits.{IsOpening}
use Rattle.bt_site.specs.World.{terminals}
use Rattle.bt_site.proofs.Counted.{due-in_time}
use Rattle.bt_apart.specs.Apart.{ApartAir, IsInstalled, apart_at_start}
use Rattle.bt_apart.specs.Back.{if_installed, older_last}
use Rattle.bt_apart.specs.Inside.{IsApart, IsReady}
use Rattle.bt_apart.proofs.Ready.{back-still, begun-ready, installed-ready, starts-more}

-- the edition to which it goes back at its start has a plan
installed-if : (plans : List Plan) (edition : EditionNo) (planned : Bool) → is_some (plan_of plans edition) ≡ planned → IfSome (if planned then Some edition else None) (IsInstalled plans)
installed-if plans edition true is = is
installed-if plans edition false is = tt

lasting-installed : (plans : List Plan) (older : Option EditionNo) → IfSome (if_installed plans older) (IsInstalled plans)
lasting-installed plans None = tt
lasting-installed plans (Some edition) = installed-if plans edition (is_some (plan_of plans edition)) refl

-- at the start
pub begun : (o : Opening) → IsSound o.net → IsOpening o → All IsStored o.plans → IsApart (apart_at_start o) (length o.net.terminals) (reverse o.plans)
begun o sound is stored = record {
  sound = sound;
  opening = is;
  opened = stored;
  terminals = refl;
  listed = refl;
  starts = is.starts;
  flyable = is.fit;
  stored = stored;
  ready = begun-ready o.plans o.orders (needed_by (terminals o) o.plans (last_order o.orders)) is.numbered is.in_time is.planned;
  mark = (omega arith, due-in_time o.orders is.in_time);
  back = lasting-installed o.plans (older_last o.orders);
}

-- by whichever names it goes
pub as-apart : (a b : ApartAir) (n m : ℕ) (listed kept : List Plan) → a ≡ b → n ≡ m → listed ≡ kept → IsApart b m kept → IsApart a n listed
as-apart a b n m listed kept same count plans is =
    subst (λ (x : ApartAir). IsApart x n listed) (sym same) (subst (λ (x : ℕ). IsApart b x listed) (sym count) (subst (λ (x : List Plan). IsApart b m x) (sym plans) is))

-- where the opening and the plans stay, and the rest is as it must be
pub still-apart : (a b : ApartAir) (n m : ℕ) (listed kept : List Plan) → IsApart a n listed → b.opening ≡ a.opening → b.plans ≡ a.plans → m ≡ n → kept ≡ listed
    → IsReady a.plans b.centre → IsMark b.mark → IfSome b.back (IsInstalled a.plans) → IsApart b m kept
still-apart a b n m listed kept is opening plans count same ready mark back = record {
  sound = subst (λ (o : Opening). IsSound o.net) (sym opening) is.sound;
  opening = subst IsOpening (sym opening) is.opening;
  opened = subst (λ (o : Opening). All IsStored o.plans) (sym opening) is.opened;
  terminals = count ∙ is.terminals ∙ ap (λ (o : Opening). length o.net.terminals) (sym opening);
  listed = same ∙ is.listed ∙ ap (λ (all : List Plan). reverse all) (sym plans);
  starts = subst (λ (all : List Plan). StartsEmpty all) (sym plans) is.starts;
  flyable = subst (λ (o : Opening). All (IsFlyable o.net) b.plans) (sym opening) (subst (λ (all : List Plan). All (IsFlyable a.opening.net) all) (sym plans) is.flyable);
  stored = subst (λ (all : List Plan). All IsStored all) (sym plans) is.stored;
  ready = subst (λ (all : List Plan). IsReady all b.centre) (sym plans) ready;
  mark = mark;
  back = subst (λ (all : List Plan). IfSome b.back (IsInstalled all)) (sym plans) back;
}

-- a plan more
pub more-apart : (a b : ApartAir) (plan : Plan) (n m : ℕ) (listed kept : List Plan) → IsApart a n listed → b.opening ≡ a.opening → b.plans ≡ plan ∷ a.plans → m ≡ n
    → kept ≡ listed ++ plan ∷ [] → b.centre ≡ a.centre → b.mark ≡ a.mark → b.back ≡ a.back → (newest_of a.plans).0 < plan.edition.0 → IsFlyable a.opening.net plan → IsStored plan
    → IsApart b m kept
more-apart a b plan n m listed kept is opening plans count more centre mark back newer flies stored =
    let with : IsApart (record a { plans = plan ∷ a.plans }) n kept = record {
      sound = is.sound;
      opening = is.opening;
      opened = is.opened;
      terminals = is.terminals;
      listed = more ∙ ap (λ (all : List Plan). all ++ plan ∷ []) is.listed ∙ sym (reverse-append (plan ∷ []) a.plans);
      starts = starts-more a.plans plan is.starts newer;
      flyable = All-cons (IsFlyable a.opening.net) plan a.plans flies is.flyable;
      stored = All-cons IsStored plan a.plans stored is.stored;
      ready = installed-ready a.plans plan a.centre is.ready;
      mark = is.mark;
      back = back-still a.plans plan a.back is.back;
    } in
    let ready : IsReady (plan ∷ a.plans) b.centre = rw centre with.ready in
    let marked : IsMark b.mark = rw mark with.mark in
    let goes : IfSome b.back (IsInstalled (plan ∷ a.plans)) = rw back with.back in
    still-apart (record a { plans = plan ∷ a.plans }) b n m kept kept with opening plans count refl ready marked goes
