use Rattle.std.proofs.Common.{◌≡◌, ℕ, List, length, slice_get, IfSome, ◌∙◌, sym, ap, subst}
use Rattle.std.specs.Option.{option_copied}
use Rattle.std.proofs.lemmas.Result.{IfOk-weaker}
use Rattle.bt_demand.specs.declared.plan.Plan.{Plan}
use Rattle.bt_air.specs.Range.{IsInRange}
use Rattle.bt_air.specs.declared.message.Message.{Message}
use Rattle.bt_air.specs.declared.sent.Aired.{Aired}
use Rattle.bt_machines.specs.Says.{carried}
use Rattle.bt_site.specs.World.{plans, sent}
use Rattle.bt_site.specs.Address.{IsAddressed, IsLoaded}
use Rattle.bt_world.specs.Life.{Life, past_of}
use Rattle.bt_world.proofs.Addressed.{all-addressed}
use Rattle.bt_world.proofs.Kept.{kept-as}
use Rattle.bt_world.proofs.Messages.{of-number, the-number, number-in-range}
use Rattle.bt_world.proofs.world.WorldOver.message.Goals as goal

pub message-requires-clause-addressed : goal.message-requires-clause-addressed
message-requires-clause-addressed g c =
    let view : Life = c.args.self.now in
    let is = kept-as _ _ _ c.self.view_is c.self.invariant in
    subst (λ (one : Aired). IsAddressed c.self.inside.centre.terminals one) (sym c.aired-said.ensures)
    (subst (λ (n : ℕ). IsAddressed n c.index.result.now) (sym is.terminal_count)
    (of-number (IsAddressed (length view.opening.net.terminals)) view _ c.args.number c.index.result.now is c.index.ensures c.requires (all-addressed view.opening (past_of view))))

pub message-requires-clause-in_range : goal.message-requires-clause-in_range
message-requires-clause-in_range g c =
    let is = kept-as _ _ _ c.self.view_is c.self.invariant in
    subst (λ (one : Aired). IsInRange (carried c.self.inside.centre.plans one)) (sym c.aired-said.ensures)
    (subst (λ (all : List Plan). IsInRange (carried all c.index.result.now)) (sym is.plans)
    (number-in-range c.messages_are_in_range.ensures.in_range _ _ c.args.number c.index.result.now is c.index.ensures c.requires))

pub message-requires-clause-loaded : goal.message-requires-clause-loaded
message-requires-clause-loaded g c =
    let is = kept-as _ _ _ c.self.view_is c.self.invariant in
    subst (λ (all : List Plan). IsLoaded all c.aired-said.result (option_copied c.loaded.result)) (sym is.plans) c.loaded.ensures

pub received-requires : goal.received-requires
received-requires g c =
    let is = kept-as _ _ _ c.self.view_is c.self.invariant in
    let made = c.in_ok-message.ensures.carried ∙ ap (λ (one : Aired). carried c.self.inside.centre.plans one) c.aired-said.ensures ∙ ap (λ (all : List Plan). carried all c.index.result.now) is.plans in
    subst IsInRange (sym made) (number-in-range c.messages_are_in_range.ensures.in_range _ _ c.args.number c.index.result.now is c.index.ensures c.requires)

pub returns-clause-same : goal.returns-clause-same
returns-clause-same g c =
    let view : Life = c.args.self.now in
    let is = kept-as _ _ _ c.self.view_is c.self.invariant in
    let found = the-number view _ c.args.number c.index.result.now is c.index.ensures c.requires in
    let made = c.in_ok-message.ensures.carried ∙ ap (λ (one : Aired). carried c.self.inside.centre.plans one) c.aired-said.ensures ∙ ap (λ (all : List Plan). carried all c.index.result.now) is.plans in
    IfOk-weaker c.received.result (λ (m : Message). m ≡ c.in_ok-message.message)
    (λ (m : Message). IfSome (slice_get (sent view.opening (past_of view)) c.args.number) (λ one. m ≡ carried (plans view.opening (past_of view)) one))
    (λ m same. rw found (same ∙ made)) c.received.ensures

pub returns-clause-in_range : goal.returns-clause-in_range
returns-clause-in_range g c =
    let is = kept-as _ _ _ c.self.view_is c.self.invariant in
    let made = c.in_ok-message.ensures.carried ∙ ap (λ (one : Aired). carried c.self.inside.centre.plans one) c.aired-said.ensures ∙ ap (λ (all : List Plan). carried all c.index.result.now) is.plans in
    let fits = number-in-range c.messages_are_in_range.ensures.in_range _ _ c.args.number c.index.result.now is c.index.ensures c.requires in
    IfOk-weaker c.received.result (λ (m : Message). m ≡ c.in_ok-message.message) IsInRange (λ m same. subst IsInRange (sym (same ∙ made)) fits) c.received.ensures
