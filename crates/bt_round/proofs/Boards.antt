-- The board of a round: how the plans that changes install stand in what was posted.
use Rattle.std.proofs.Common.{◌≡◌, ◌+◌, ◌-◌, List, [], ◌∷◌, ◌++◌, length, get_or, All, Some, refl, sym, ap, ◌∙◌, subst, append_assoc, length-append, arith}
use Rattle.std.specs.List.{Contains}
use Rattle.std.proofs.Math.Seq.{get_or-append_seam}
use Rattle.std.proofs.lemmas.List.{append-nil}
use Rattle.std.proofs.lemmas.List.Elements.{All-cons, All-contains, All-contains_itself, All-weaker, Contains-append_right}
use mathlib.Core.List.{IsPrefix}
use Rattle.bt_net.specs.Network.{Net}
use Rattle.bt_demand.specs.declared.plan.Plan.{Plan}
use Rattle.bt_journal.specs.declared.call.Change.{Change}
use Rattle.bt_shared.specs.Plans.{last_after, last_of, next_edition, next_of}
use Rattle.bt_history.specs.Causes.{Follows}
use Rattle.bt_demand.specs.Plan.{empty_plan}
use Rattle.bt_history.specs.Changes.{installs, newest, plans}
use Rattle.bt_round.specs.Lent.{IsLent}
use Rattle.bt_round.specs.Boards.{IsShownBetween}
use Rattle.bt_round.proofs.Lent.{contained_on}
use Rattle.bt_round.proofs.Installed.{installed_is_no_newer, newest_is_installed, plans-append, stays_installed}

last_grows : (list : List Plan) (plan : Plan) (more : List Plan) → plan ≡ get_or list (length list - 1) empty_plan
    → last_after (Some plan) more ≡ Some (get_or (list ++ more) (length (list ++ more) - 1) empty_plan)
last_grows list plan [] is = ap Some (is ∙ ap (λ (l : List Plan). get_or l (length l - 1) empty_plan) (sym (append-nil list)))
last_grows list plan (next ∷ more) is =
    let place : length (list ++ next ∷ []) - 1 ≡ length list = omega (arith, length-append list (next ∷ [])) in
    let there : next ≡ get_or (list ++ next ∷ []) (length (list ++ next ∷ []) - 1) empty_plan =
    sym (ap (λ k. get_or (list ++ next ∷ []) k empty_plan) place ∙ get_or-append_seam list next [] empty_plan) in
    last_grows (list ++ next ∷ []) next more there ∙ ap (λ (l : List Plan). Some (get_or l (length l - 1) empty_plan)) (append_assoc list (next ∷ []) more)

-- the newest plan when the board was made and each that was installed since: the last of them is the newest
pub last_posted : (opening since : List Change) → last_of (newest opening ∷ installs since) ≡ Some (newest (opening ++ since))
last_posted opening since =
    last_grows (plans opening) (newest opening) (installs since) refl ∙ ap (λ (l : List Plan). Some (get_or l (length l - 1) empty_plan)) (sym (plans-append opening since))

-- and all of them are installed
pub posted_is_installed : (opening since : List Change) (plan : Plan) → Contains (newest opening ∷ installs since) plan → Contains (plans (opening ++ since)) plan
posted_is_installed opening since plan there =
    let all : List Plan = plans (opening ++ since) in
    let behind : All (Contains all) (installs since) =
    All-weaker (Contains (installs since)) (Contains all)
    (λ (p : Plan) (one : Contains (installs since) p). subst (λ (l : List Plan). Contains l p) (sym (plans-append opening since)) (Contains-append_right (plans opening) (installs since) p one))
    (installs since) (All-contains_itself (installs since)) in
    All-contains (Contains all) (newest opening ∷ installs since) plan
    (All-cons (Contains all) (newest opening) (installs since) (stays_installed opening since (newest opening) (newest_is_installed opening)) behind) there

-- a plan that a reader lent is one that was shown between two moments of the book
pub lent_between : (net : Net) (opening since more : List Change) (before over last : List Plan) (plan : Plan) → Follows net (opening ++ (since ++ more))
    → before ≡ newest opening ∷ installs since → last ≡ newest opening ∷ installs (since ++ more) → IsPrefix over last → IsLent before over plan
    → IsShownBetween (opening ++ since) (opening ++ (since ++ more)) plan
lent_between net opening since more before over last plan follow first then begins so =
    let installed : Contains (plans (opening ++ (since ++ more))) plan =
    posted_is_installed opening (since ++ more) plan (subst (λ (l : List Plan). Contains l plan) then (contained_on over last plan begins so.seen)) in
    record {
      installed = installed;
      fresh = omega (arith, so.fresh, ap next_edition first, ap next_of (last_posted opening since));
      last = installed_is_no_newer net (opening ++ (since ++ more)) plan follow installed;
    }

-- the last edition that was posted is that of the newest plan
pub last_edition : (opening since : List Change) (posted : List Plan) → posted ≡ newest opening ∷ installs since → next_edition posted ≡ (newest (opening ++ since)).edition.0 + 1
last_edition opening since posted is = ap next_edition is ∙ ap next_of (last_posted opening since)
