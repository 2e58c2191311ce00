use Rattle.std.proofs.Common.{[], ◌∷◌, ◌++◌, refl, sym, ap, ◌∙◌, subst}
use Rattle.bt_journal.specs.declared.call.Call.{Call}
use Rattle.bt_history.specs.Book.{book_steps}
use Rattle.bt_shared.specs.Legal.{entry_of}
use Rattle.bt_shared.specs.Passes.{Gains, seen_at}
use Rattle.bt_round.specs.Callers.{Calling, IsAnswered, IsSameCaller, own_in, own_of}
use Rattle.bt_round.proofs.Asking.{answered_by_step, calling_at, calls_on_unseen, made, own_gained}
use Rattle.bt_round.proofs.caller.Caller.ask.Goals as goal

pub invariant_of-self : goal.invariant_of-self
invariant_of-self g c =
    let shared = c.self.inside.line.now.table.shared in
    calls_on_unseen shared.table_id shared.key.value c.self.inside.pass.place c.call.new.pass.place c.self.invariant c.in_err-reply.ensures.same c.in_err-reply.ensures.call

pub returns-clause-answered : goal.returns-clause-answered
returns-clause-answered g c =
    let shared = c.self.inside.line.now.table.shared in
    let entry = made c.call.new.pass.number c.in_ok-asked.asked c.in_ok-reply.reply in
    let caller : Calling = calling_at shared.table_id shared.key.value c.self.inside.pass.place in
    subst (λ (caller : Calling). IsAnswered c.args.net.now caller entry) c.self.view_is
    (answered_by_step c.locked_calls_are_steps.ensures.step c.args.net.now caller (seen_at c.call.new.pass.place) c.args.call entry
    (ap (λ (caller : Calling). caller.start.net) c.self.view_is ∙ c.requires.network)
    c.self.invariant.begins c.in_ok-asked.ensures.same (subst (λ n. Gains book_steps shared.key.value (seen_at c.self.inside.pass.place) (entry_of n c.args.call c.in_ok-reply.reply) (seen_at c.call.new.pass.place)) (sym c.self.inside.pass.numbered) c.in_ok-reply.ensures.call))

pub returns-clause-same : goal.returns-clause-same
returns-clause-same g c =
    let shared = c.self.inside.line.now.table.shared in
    subst (λ (old : Calling). IsSameCaller old (calling_at shared.table_id shared.key.value c.call.new.pass.place)) c.self.view_is (record { table = refl; start = refl; place = c.in_ok-reply.ensures.same })

pub returns-clause-kept : goal.returns-clause-kept
returns-clause-kept g c =
    let start = c.self.inside.line.now.table.shared.key.value in
    let old = c.self.inside.pass in
    let new = c.call.new.pass in
    let reply = c.in_ok-reply.reply in
    let same = c.in_ok-reply.ensures.same in
    let gains = subst (λ n. Gains book_steps start (seen_at old.place) (entry_of n c.args.call reply) (seen_at new.place)) (sym old.numbered) c.in_ok-reply.ensures.call in
    ap (λ n. own_in n (seen_at new.place)) same.number_is
    ∙ own_gained start (seen_at old.place) (seen_at new.place) old.place.me.0.number c.args.call reply gains
    ∙ ap (λ n. own_in old.place.me.0.number (seen_at old.place) ++ made n c.args.call reply ∷ []) (sym same.number_is ∙ new.numbered)
    ∙ ap (λ (call : Call). own_in old.place.me.0.number (seen_at old.place) ++ made new.number call reply ∷ []) (sym c.in_ok-asked.ensures.same)
    ∙ ap (λ (caller : Calling). own_of caller ++ made new.number c.in_ok-asked.asked reply ∷ []) c.self.view_is
