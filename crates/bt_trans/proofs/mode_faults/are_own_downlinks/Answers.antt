use Rattle.std.proofs.Common.{rules, ◌≡◌, ◌⊎◌, ℕ, ◌<◌, ◌≤◌, length, All, get_or, true, true≢false, inl, inr, refl, sym, subst, ◌∙◌, arith, length-set}
use Rattle.std.proofs.lemmas.List.{take_all, take_more}
use Rattle.std.proofs.lemmas.List.Elements.{All-push}
use Rattle.bt_demand.proofs.Seen.{IsSeen-none, IsSeen-push, unmarked}
use Rattle.bt_trans.proofs.OwnDownlinks.{AreOwn, IsSeen-silent, own-silent, own-new, had_twice}
use Rattle.bt_trans.proofs.mode_faults.are_own_downlinks.Goals as goal
use Rattle.bt_trans.proofs.mode_faults.are_own_downlinks.Goals.{then-from-size-via-then-from-size, then-from-size-via-else-from-size+then-seen-down, then-down+else-from-size+else-seen-down, else-down}

-- no beam was looked at yet
pub loop-down-init : goal.loop-down-init
loop-down-init c = record {
  wide = search rules;
  in_range = search rules;
  own = search rules;
  marked = IsSeen-none;
}

-- a beam that is none, or was met before
pub returns-then-from-size : goal.returns-then-from-size
returns-then-from-size c =
    let columns = c.args.columns.now in
    let i = c.loop-down.down-index in
    let down : ℕ = get_or columns i 0 in
    let inside : i < length columns = search rules in (
      (λ yes. absurd (true≢false (sym yes))),
      (λ holds. absurd (elim c.then-from-size.branch [
        | then-from-size-via-then-from-size w ↦ elim (holds.0 i 0 inside) [
          | inl silent ↦ c.if-down.true silent
          | inr below ↦ omega (arith, below, w.if-from-size.true, c.from.ensures)
        ]
        | then-from-size-via-else-from-size+then-seen-down w ↦
            had_twice columns i down c.loop-down.seen inside refl (omega (arith, w.if-from-size.false, c.from.ensures, c.requires)) c.if-down.true c.loop-down.invariant.marked w.if-seen-down.true holds.1
      ])),
    )

-- one more beam, or one more that is silent
pub loop-down-preserved : goal.loop-down-preserved
loop-down-preserved c =
    let columns = c.args.columns.now in
    let i = c.loop-down.down-index in
    let down : ℕ = get_or columns i 0 in
    let inside : i < length columns = search rules in
    let so_far = c.loop-down.invariant in
    elim c.if-down.branch [
      | then-down+else-from-size+else-seen-down w ↦
          let below : down < c.args.size = omega (arith, w.if-from-size.false, w.from.ensures) in
          let small : down < 32 = omega (arith, below, c.requires) in
          let within : down < length c.loop-down.seen = omega (arith, small, so_far.wide) in
          rw (w.seen-is, take_more columns i 0 inside) (record {
            wide = length-set c.loop-down.seen down true ∙ so_far.wide;
            in_range = All-push (λ (d : ℕ). (d ≡ 255) ⊎ (d < c.args.size)) _ down so_far.in_range (inr below);
            own = own-new _ down so_far.own (unmarked _ _ down small so_far.marked w.if-seen-down.false);
            marked = IsSeen-push _ _ down within so_far.marked;
          })
      | else-down w ↦
          let silent : down ≡ 255 = w.if-down.false in
          rw (w.seen-is, take_more columns i 0 inside) (record {
            wide = so_far.wide;
            in_range = All-push (λ (d : ℕ). (d ≡ 255) ⊎ (d < c.args.size)) _ down so_far.in_range (inl silent);
            own = own-silent _ down silent so_far.own;
            marked = IsSeen-silent _ _ down silent so_far.marked;
          })
    ]

-- all beams were looked at
pub returns : goal.returns
returns c =
    let done : length c.args.columns.now ≤ c.loop-down.down-index = search rules in
    let whole = take_all c.loop-down.down-index c.args.columns.now done in
    ((λ _. (subst (All (λ (down : ℕ). (down ≡ 255) ⊎ (down < c.args.size))) whole c.loop-down.invariant.in_range, subst AreOwn whole c.loop-down.invariant.own)), λ _. search rules)
