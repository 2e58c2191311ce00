-- one reader more
use Rattle.std.proofs.Common.{◌≡◌, ◌<◌, get_or, length, length-set, sym, ap, ◌∙◌, subst, arith}
use Rattle.std.proofs.lemmas.List.{get_or_default, get_or-set_other}
use mathlib.Core.List.{IsPrefix}
use Rattle.bt_shared.specs.Posted.{Posted}
use Rattle.bt_round.proofs.Seating.{turned}
use Rattle.bt_round.proofs.round.meet_all.Goals as goal

pub meet-requires : goal.meet-requires
meet-requires g c =
    let index = c.loop-reader.reader-index in
    let items = c.loop-reader.reader-items in
    let within : index < length items = omega (arith, c.loop-reader-test.true, c.loop-reader.invariant.count) in
    record {
      same = ap (λ (p : Posted). p.board) (c.loop-reader.invariant.left index c.reader-item.result (omega arith))
          ∙ c.requires.same index c.reader-item.result (omega (arith, within, c.loop-reader.invariant.count))
          ∙ ap (λ (p : Posted). p.board) (sym c.loop-reader.invariant.kept);
    }

pub loop-reader-preserved : goal.loop-reader-preserved
loop-reader-preserved g c =
    let index = c.loop-reader.reader-index in
    let items = c.loop-reader.reader-items in
    let new = c.meet.new.reader in
    let publisher = c.args.publisher.now in
    let within : index < length items = omega (arith, c.loop-reader-test.true, c.loop-reader.invariant.count) in
    let met : new ≡ publisher = c.in_ok-meet.ensures.met ∙ c.loop-reader.invariant.kept in
    record {
      count = length-set items index new ∙ c.loop-reader.invariant.count;
      kept = c.meet.ensures.kept ∙ c.loop-reader.invariant.kept;
      done = turned (λ (old now : Posted). IsPrefix old.plans publisher.plans × (now ≡ publisher)) c.args.readers.now items index new within c.loop-reader.invariant.done
          (λ d. (
            subst (λ (p : Posted). IsPrefix p.plans publisher.plans) (get_or_default items index c.reader-item.result d within ∙ c.loop-reader.invariant.left index d (omega arith))
                (subst (λ (p : Posted). IsPrefix (get_or items index c.reader-item.result).plans p.plans) met c.meet.ensures.begins),
            met,
          ));
      left = λ i d past. get_or-set_other items index i new d (λ same. absurd (omega (arith, same, past))) ∙ c.loop-reader.invariant.left i d (omega (arith, past));
    }

pub returns-clause-begins : goal.returns-clause-begins
returns-clause-begins g c = λ k d within. (c.loop-reader.invariant.done k d (omega (arith, within, c.loop-reader-test.false, c.loop-reader.invariant.count))).0
