-- the place of a terminal has its delay
use Rattle.std.proofs.Common.{◌<◌, length, None, sym, ap, subst, arith}
use Rattle.std.proofs.lemmas.List.{get_or_read}
use Rattle.bt_timing.specs.DelayTable.{IsKnownDelay}
use Rattle.bt_timing.specs.DelayText.{SoFar}
use Rattle.bt_timing.proofs.delay_table.DelayTable.known.Goals as goal

pub returns-clause-delay : goal.returns-clause-delay
returns-clause-delay c =
    let delays = c.self.inside.delays.items in
    let within : c.args.terminal.0 < length delays = omega (arith, ap (λ (s : SoFar). length s.known) c.self.view_is) in
    let is = get_or_read delays _ _ within c.index.ensures None in
    subst IsKnownDelay (sym is) (c.self.invariant.each c.args.terminal.0 None within)
