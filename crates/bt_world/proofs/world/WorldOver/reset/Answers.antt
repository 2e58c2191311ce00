use Rattle.std.proofs.Common.{◌≡◌, ◌++◌, ◌∷◌, [], List, length, slice_set, get_or, refl, sym, subst, ap, ◌∙◌, arith}
use Rattle.bt_air.specs.declared.sent.Aired.{Aired}
use Rattle.bt_site.specs.Event.{ResetTerminal}
use Rattle.bt_world.specs.Life.{Life, MayCome, having_had, life_of}
use Rattle.bt_world.proofs.Resets.{reset-kept, terminals-count}
use Rattle.bt_world.proofs.world.WorldOver.reset.Goals as goal

pub index_mut-requires : goal.index_mut-requires
index_mut-requires g c =
    let may = subst (λ (life : Life). MayCome life (ResetTerminal c.args.terminal)) (sym c.self.view_is) c.requires in
    let count : length c.self.inside.terminals.items ≡ length c.self.inside.net.terminals = terminals-count _ _ c.self.invariant in
    omega (arith, count, may.meets, c.from.ensures)

pub invariant_of-self-2 : goal.invariant_of-self-2
invariant_of-self-2 g c =
    let may = subst (λ (life : Life). MayCome life (ResetTerminal c.args.terminal)) (sym c.self.view_is) c.requires in
    let opening = c.push.ensures.opening ∙ c.reserve.ensures.opening in
    let events = c.push.ensures.events in
    let room = c.reserve.ensures.events in
    let now : life_of c.self.inside.net c.self.inside.orders.items c.push.new.self ≡ having_had (life_of c.self.inside.net c.self.inside.orders.items c.self.inside.log) (ResetTerminal c.args.terminal) = cc in
    let told = c.post.ensures.items ∙ ap (λ (list : List Aired). list ++ c.restart-lost.result ∷ []) c.reserve-2.ensures.items ∙ ap (λ (one : Aired). c.self.inside.sent.items ++ one ∷ []) c.restart-lost.ensures.said in
    reset-kept c.terminals_are_said.ensures.agrees _ _ c.args.terminal c.index_mut.result.now c.restart-lost.new.self _ _ c.self.invariant may now (c.index_mut.ensures.value ∙ ap (λ n. get_or c.self.inside.terminals.items n c.index_mut.result.now) c.from.ensures) c.restart-lost.ensures.state refl refl told refl
    (ap (λ n. slice_set c.self.inside.terminals.items n c.restart-lost.new.self) c.from.ensures) refl refl
