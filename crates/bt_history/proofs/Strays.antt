-- A change with a cause of a refusal is not good.
use Rattle.std.proofs.Common.{◌≡◌, ℕ, ◌+◌, List, [], ◌∷◌, ◌++◌, sum_by, ◌↔◌, Bool, true, false, not, IsTrue, Option, Some, None, is_some, refl, sym, ap, ◌∙◌, subst, arith}
use Rattle.std.proofs.lemmas.List.Sums.{sum_by-cons}
use Rattle.bt_frame.specs.declared.numbers.EditionNo.{EditionNo}
use Rattle.bt_frame.specs.declared.numbers.TermNo.{TermNo}
use Rattle.bt_net.specs.Network.{Net}
use Rattle.bt_demand.specs.declared.demand.Link.{Link}
use Rattle.bt_demand.specs.declared.plan.Plan.{Plan}
use Rattle.bt_demand.specs.Demand.{units_where}
use Rattle.bt_demand.proofs.SameDemand.{same_demands}
use Rattle.bt_air.specs.declared.order.Order.{Order}
use Rattle.bt_demand.specs.declared.verdict.Verdict.{Verdict}
use Rattle.bt_demand.specs.declared.verdict.Verdict.TheVariants.{Good}
use Rattle.bt_demand.specs.PlanVerdict.{IsPlanVerdict}
use Rattle.bt_demand.proofs.OnePlanVerdict.{the_same}
use Rattle.bt_journal.specs.declared.call.Edit.{Edit}
use Rattle.bt_journal.specs.declared.call.Edit.TheVariants.{Add, Drop, Move}
use Rattle.bt_journal.specs.declared.call.Change.{Change}
use Rattle.bt_journal.specs.declared.call.Change.TheVariants as change
use Rattle.bt_journal.specs.declared.reply.Reply.{Reply}
use Rattle.bt_journal.specs.declared.reply.Reply.TheVariants.{SameTerminal, NotThere, RowFull, ColumnFull, NotNewer, NoSuchEdition, NotGood, OutOfTurn, NotInstalled}
use Rattle.bt_journal.specs.JournalLines.{edits_in}
use Rattle.bt_history.specs.Changes.{edition, given, taken_from, IsDemandAt}
use Rattle.bt_history.specs.Causes.{GetsVerdict, IsCause, IsGood, IsGoodInstall, IsGoodOrder}
use Rattle.bt_history.specs.EditCauses.{IsGoodEdit}
use Rattle.bt_history.specs.Records.{IsFirstCause}
use Rattle.bt_history.specs.Recovery.{IsNext, IsNumbered}
use Rattle.bt_history.proofs.After.{given-other, taken-other}

no_edits : (f : Change → ℕ) (changes : List Change) → ((one : Change) → edits_in one ≡ 0 → f one ≡ 0) → edition changes ≡ 0 → sum_by f changes ≡ 0
no_edits f [] none is = refl
no_edits f (first ∷ rest) none is =
    let parts = sum_by-cons edits_in first rest in
    omega (arith, sum_by-cons f first rest, none first (omega (arith, is, parts)), no_edits f rest none (omega (arith, is, parts)))

-- what only edits give is the same in two first parts of a list with as many edits
same_sum : (f : Change → ℕ) (a b x y : List Change) → ((one : Change) → edits_in one ≡ 0 → f one ≡ 0) → a ++ x ≡ b ++ y → edition a ≡ edition b → sum_by f a ≡ sum_by f b
same_sum f [] b x y none is count = sym (no_edits f b none (sym count))
same_sum f (one ∷ a) [] x y none is count = no_edits f (one ∷ a) none count
same_sum f (one ∷ a) (other ∷ b) x y none is count =
    let first : one ≡ other = cc in
    let rest : a ++ x ≡ b ++ y = cc in
    let same_edits = ap edits_in first in
    let more = same_sum f a b x y none rest (omega (arith, count, same_edits, sum_by-cons edits_in one a, sum_by-cons edits_in other b)) in
    omega (arith, more, ap f first, sum_by-cons f one a, sum_by-cons f other b)

-- so the demand of an edition is one
pub same_links : (changes : List Change) (number : ℕ) (a b : List Link) → IsDemandAt changes number a → IsDemandAt changes number b → a ≡ b
same_links changes number a b is also =
    let parts : is.before ++ is.after ≡ also.before ++ also.after = sym is.parts ∙ also.parts in
    let count : edition is.before ≡ edition also.before = is.counted ∙ sym also.counted in
    let same : (test : TermNo → TermNo → Bool) → units_where test a ≡ units_where test b =
    λ test. omega (
      arith,
      is.demand.slots test,
      also.demand.slots test,
      same_sum (given test) is.before also.before is.after also.after (given-other test) parts count,
      same_sum (taken_from test) is.before also.before is.after also.after (taken-other test) parts count,
    ) in
    same_demands a b is.demand.demand also.demand.demand (λ e. same _)

-- and so is the verdict on a plan
same_verdict : (net : Net) (changes : List Change) (plan : Plan) (a b : Verdict) → GetsVerdict net changes plan a → GetsVerdict net changes plan b → a ≡ b
same_verdict net changes plan a b is also =
    let links = same_links changes plan.edition.0 is.links also.links is.demand also.demand in
    the_same net also.links plan a b also.demand.demand.demand (subst (λ (l : List Link). IsPlanVerdict net l plan a) links is.checked) also.checked

edit_strays : (net : Net) (changes : List Change) (edit : Edit) (reply : Reply) → IsCause net changes (change.Edit edit) reply → IsGoodEdit net changes edit → ⊥
edit_strays net changes edit SameTerminal is good = good.0 is
edit_strays net changes (Add from to units) (NotThere held) is good = absurd is.1
edit_strays net changes (Drop from to units) (NotThere held) is good = omega (arith, is.1.0, is.1.1, good.1)
edit_strays net changes (Move from to new_from new_to units) (NotThere held) is good = omega (arith, is.1.0, is.1.1, good.1)
edit_strays net changes edit (RowFull beam sum) is good = omega (arith, is.2.number, is.2.over, good.2 beam is.2.gains)
edit_strays net changes edit (ColumnFull beam sum) is good = omega (arith, is.3.number, is.3.over, good.3 beam is.3.gains)
edit_strays net changes edit _ is good = absurd is

install_strays : (net : Net) (changes : List Change) (plan : Plan) (reply : Reply) → IsCause net changes (change.Install plan) reply → IsGoodInstall net changes plan → ⊥
install_strays net changes plan (NotNewer number) is good = omega (arith, ap (λ (e : EditionNo). e.0) is.0, is.1, good.0)
install_strays net changes plan (NoSuchEdition last) is good = omega (arith, is.1, is.2, good.1)
install_strays net changes plan (NotGood verdict) is good = is.2 (same_verdict net changes plan verdict Good is.3 good.2)
install_strays net changes plan _ is good = absurd is

order_strays : (net : Net) (changes : List Change) (order : Order) (reply : Reply) → IsCause net changes (change.Order order) reply → IsGoodOrder changes order → ⊥
order_strays net changes order (OutOfTurn last) is good = is.1 (good.0 ∙ ap (λ c. c.0 + 1) (sym is.0))
order_strays net changes order (NotInstalled number) is good = absurd cc
order_strays net changes order _ is good = absurd is

-- a change with a cause of a refusal is not good
pub cause_strays : (net : Net) (changes : List Change) (one : Change) (reply : Reply) → IsCause net changes one reply → IsGood net changes one → ⊥
cause_strays net changes (change.Edit edit) reply is good = edit_strays net changes edit reply is good
cause_strays net changes (change.Install plan) reply is good = install_strays net changes plan reply is good
cause_strays net changes (change.Order order) reply is good = order_strays net changes order reply is good

not_false : (b : Bool) → not b ≡ false → b ≡ true
not_false true is = refl
not_false false is = absurd cc

-- so a change is the next where no cause was found
pub next_if : (net : Net) (changes : List Change) (number : ℕ) (one : Change) (cause : Option Reply) (none : Bool) → IsNumbered changes number one → IsFirstCause net changes one cause
    → is_some cause ≡ not none → IsTrue none ↔ IsNext net changes number one
next_if net changes number one None none numbered first is = (λ _. (numbered, first), λ _. not_false none (sym is))
next_if net changes number one (Some reply) none numbered first is =
    (λ yes. absurd cc, λ next. absurd (cause_strays net changes one reply first.1 next.1))
