-- Each plan that was installed is good for the demand of its edition, also once more changes were made.
use Rattle.std.proofs.Common.{◌≡◌, List, [], ◌∷◌, ◌++◌, All, refl, ap, ◌∙◌, subst, append_assoc}
use Rattle.std.specs.List.{filter_map}
use Rattle.std.proofs.lemmas.List.Elements.{All-nil, All-cons}
use Rattle.bt_net.specs.Network.{Net}
use Rattle.bt_demand.specs.declared.plan.Plan.{Plan}
use Rattle.bt_journal.specs.declared.call.Change.{Change}
use Rattle.bt_journal.specs.declared.call.Change.TheVariants as change
use Rattle.bt_history.specs.Changes.{plan_in}
use Rattle.bt_history.specs.Causes.{Follows, FollowFrom, IsGoodInstall, IsGoodForItsEdition}

-- a plan that was good to install is good for its edition, whatever came after
good_later : (net : Net) (before more : List Change) (plan : Plan) → IsGoodInstall net before plan → IsGoodForItsEdition net (before ++ more) plan
good_later net before more plan good =
    let at = good.2.demand in
    record {
      links = good.2.links;
      demand = record {
        before = at.before;
        after = at.after ++ more;
        parts = ap (λ (c : List Change). c ++ more) at.parts ∙ append_assoc at.before at.after more;
        counted = at.counted;
        demand = at.demand;
      };
      good = good.2.checked;
    }

installs_good : (net : Net) (before changes whole : List Change) → before ++ changes ≡ whole → FollowFrom net before changes → All (IsGoodForItsEdition net whole) (filter_map plan_in changes)
installs_good net before [] whole is more = All-nil (IsGoodForItsEdition net whole)
installs_good net before (change.Edit edit ∷ rest) whole is more =
    installs_good net (before ++ change.Edit edit ∷ []) rest whole (append_assoc before (change.Edit edit ∷ []) rest ∙ is) more.2
installs_good net before (change.Install plan ∷ rest) whole is more =
    All-cons (IsGoodForItsEdition net whole) plan (filter_map plan_in rest)
    (subst (λ (c : List Change). IsGoodForItsEdition net c plan) is (good_later net before (change.Install plan ∷ rest) plan more.1))
    (installs_good net (before ++ change.Install plan ∷ []) rest whole (append_assoc before (change.Install plan ∷ []) rest ∙ is) more.2)
installs_good net before (change.Order order ∷ rest) whole is more =
    installs_good net (before ++ change.Order order ∷ []) rest whole (append_assoc before (change.Order order ∷ []) rest ∙ is) more.2

pub plans_good : (net : Net) (changes : List Change) → Follows net changes → All (IsGoodForItsEdition net changes) (filter_map plan_in changes)
plans_good net changes follow = installs_good net [] changes changes refl follow
