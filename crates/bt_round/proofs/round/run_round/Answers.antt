-- the line is closed, and its history is that of the workers
use Rattle.std.proofs.Common.{◌≡◌, ◌+◌, ◌++◌, List, map, get_or, sym, ap, ◌∙◌, subst, arith}
use Rattle.bt_shared.specs.Passes.{IsPass}
use Rattle.bt_shared.specs.Plans.{next_edition}
use Rattle.bt_journal.specs.declared.call.Call.{Call}
use Rattle.bt_journal.specs.declared.call.Change.{Change}
use Rattle.bt_journal.specs.declared.reply.Reply.{Reply}
use Rattle.bt_journal.specs.Journal.{changes_of}
use Rattle.bt_net.specs.Network.{Net}
use Rattle.bt_history.specs.Book.{Books, journal_entry}
use Rattle.bt_history.specs.Causes.{Follows}
use Rattle.bt_history.specs.Changes.{newest}
use Rattle.bt_history.specs.Machine.{state_from}
use Rattle.bt_round.specs.declared.seats.TheConstants.{SEATS}
use Rattle.bt_round.specs.Rounds.{BookRan}
use Rattle.bt_round.proofs.Boards.{last_edition}
use Rattle.bt_round.proofs.Closing.{Laws, comes_back, ran_nothing, seen_through}
use Rattle.bt_round.proofs.OnOk.{on_ok, on_three}
use Rattle.bt_round.proofs.Rounds.{changes_over, posted_over, round_over, stored_entries}
use Rattle.bt_round.proofs.round.run_round.Goals as goal

pub run_on-crew-requires-clause-passes : goal.run_on-crew-requires-clause-passes
run_on-crew-requires-clause-passes g c = λ κs bounds i d within.
    let line = c.in-Ok.line in
    subst (λ (o : Books). IsPass {C = Call} {R = Reply} line.table.shared.table_id o SEATS i (get_or c.in-Ok.passes.items i d).place) (sym c.in-Ok.ensures.start)
    (c.in-Ok.ensures.passes i d (omega (arith, within, c.in-Ok.passes.ok.0)))

pub run_on-crew-requires-clause-posted : goal.run_on-crew-requires-clause-posted
run_on-crew-requires-clause-posted g c = λ κs bounds.
    let board = c.requires.published in
    let edition : next_edition c.args.station.publisher.plans ≡ (newest c.args.station.book.state.changes).edition.0 + 1 =
    last_edition board.opening board.since c.args.station.publisher.plans board.posted ∙ ap (λ (made : List Change). (newest made).edition.0 + 1) (sym board.parts) in
    omega (arith, edition, ap (λ (b : Books). (newest b.state.changes).edition.0) c.in-Ok.ensures.start)

-- the book comes back with the changes of the round, and what the workers left is that of a round over its history
pub returns-in-Ok : goal.returns-in-Ok
returns-in-Ok g c =
    let net = c.args.net.now in
    let station = c.args.station in
    let start = c.in-Ok.line.table.shared.key.value in
    let is = c.in-Ok.ensures.start in
    let h = c.close-book.ensures.history in
    let all = c.locked_books_are_legal.ensures in
    let on = c.locked_books_go_on.ensures in
    let laws : Laws = record { legal = all.legal; state = all.state; from = on.state; net = all.net; rose = all.rose; follow = on.follow; tells = on.tells; last = on.last } in
    let follow : Follows start.net start.state.changes = subst (λ (b : Books). Follows b.net b.state.changes) (sym is) (subst (λ (n : Net). Follows n station.book.state.changes) (sym c.requires.network) c.requires.follows) in
    let ran : BookRan start c.close-book.result = comes_back laws start c.close-book.result h.0 follow h.1.legal h.1.stored in
    let back : BookRan station.book c.close-book.result = subst (λ (b : Books). BookRan b c.close-book.result) is ran in
    let entries = map journal_entry h.0 in
    let board = c.requires.published in
    let kept = stored_entries start.history c.close-book.result.history h.0 h.1.stored ∙ ap (λ (b : Books). b.history ++ entries) is in
    let from = laws.from start c.close-book.result h.0 h.1.legal ∙ ap (λ (b : Books). state_from b.state entries) is in
    let last = c.run_on-crew.result.0.publisher in
    let over = c.run_on-crew.result.0.centre in
    let passes = c.run_on-crew.result.0.passes in
    let seen = seen_through passes.items (λ pass. pass.place) h.0 (λ i d within. h.2 i d (omega (arith, within, passes.ok.0))) (λ n past. h.3 n (omega (arith, past, passes.ok.0))) in
    record {
      network = back.net ∙ c.requires.network;
      opening = c.run_on-crew.ensures.opening;
      done = on_ok c.run_on-crew.result.1 c.run_on-crew.ensures.done (λ worked.
          round_over net c.args.round.now station.publisher last station.centre over entries worked.texts station.book c.close-book.result board.opening board.since
          c.args.text.now.items c.run_on-crew.new.text.items c.as_slice-desks.ensures.desks (worked.done h.0 seen) kept from board.parts
          (subst (λ (n : Net). Follows n c.close-book.result.state.changes) c.requires.network back.follows) board.posted worked.printed);
      published = on_three c.run_on-crew.result.1 c.run_on-crew.ensures.done c.run_on-crew.ensures.desks c.run_on-crew.ensures.met (λ worked desks met. record {
        opening = board.opening;
        since = board.since ++ changes_of entries;
        parts = changes_over station.book c.close-book.result entries board.opening board.since from board.parts;
        posted = posted_over net c.args.round.now station.publisher last station.centre over entries worked.texts board.opening board.since (worked.done h.0 seen) board.posted;
        desks = desks;
        met = met;
      });
      ran = back;
    }

pub returns-in-Err-clause-ran : goal.returns-in-Err-clause-ran
returns-in-Err-clause-ran g c =
    let station = c.args.station in
    let follow : Follows station.book.net station.book.state.changes = subst (λ (n : Net). Follows n station.book.state.changes) (sym c.requires.network) c.requires.follows in
    subst (λ (b : Books). BookRan station.book b) (sym c.in-Err.ensures.err) (ran_nothing station.book follow)
