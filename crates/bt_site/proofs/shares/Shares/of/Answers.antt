use Rattle.std.proofs.Common.{◌≡◌, ℕ, ◌+◌, ◌<◌, ◌≤◌, List, Vec, Global, length, get_or, take, sym, ap, ◌∙◌, subst, rules}
use Rattle.std.proofs.lemmas.List.{take_all}
use Rattle.bt_demand.specs.declared.burst.Burst.{Burst}
use Rattle.bt_site.specs.Shares.{shares_of}
use Rattle.bt_site.proofs.Shared.{bursts_in, bursts_in-none, shared_more, shared_same}
use Rattle.bt_site.proofs.shares.Shares.of.Goals as goal
use Rattle.bt_site.proofs.shares.Shares.of.Goals.{then-from-len+in_ok-push, else-from-len}

-- no burst is in a share yet
pub loop-burst-init : goal.loop-burst-init
loop-burst-init c = bursts_in-none c.args.terminals c.in_ok-shares.shares.items c.in_ok-shares.ensures.count c.in_ok-shares.ensures.none

-- one burst more is in the share of its terminal, if it has one
pub loop-burst-preserved : goal.loop-burst-preserved
loop-burst-preserved c =
    let n = c.args.terminals in
    let bursts = c.args.bursts.now in
    let i : ℕ = c.loop-burst.burst-index in
    let burst : Burst = get_or bursts i (record { from = record { 0 = 0 }; to = record { 0 = 0 }; start = 0; length = 0 }) in
    let from : c.from-from.result ≡ burst.from.0 = c.from-from.ensures in
    let kept = λ (shares : Vec (Vec Burst Global) Global). bursts_in shares.items ≡ shares_of n (take (i + 1) bursts) in
    elim c.if-from-len.branch [
      | then-from-len+in_ok-push w ↦
          let inside : c.from-from.result < length c.loop-burst.shares.items = search rules in
          subst kept (sym w.shares-is)
          (shared_more n c.loop-burst.shares.items bursts i c.from-from.result burst w.index_mut.result.now w.push.new.self c.loop-burst-test.true (search rules) from inside
          w.index_mut.ensures.value w.in_ok-push.ensures.items c.loop-burst.invariant)
      | else-from-len w ↦
          let outside : length c.loop-burst.shares.items ≤ burst.from.0 = search rules in
          subst kept (sym w.shares-is) (shared_same n c.loop-burst.shares.items bursts i burst c.loop-burst-test.true (search rules) outside c.loop-burst.invariant)
    ]

-- all bursts are shared out
pub returns : goal.returns
returns c =
    let whole = take_all c.loop-burst.burst-index c.args.bursts.now (search rules) in
    c.loop-burst.invariant ∙ ap (λ (bursts : List Burst). shares_of c.args.terminals bursts) whole
