use Rattle.std.proofs.Common.{eq-eqb, slice_index}
use Rattle.std.proofs.lemmas.Bool.{eqb-true}
use Rattle.bt_demand.proofs.Begins.{connects_beams}
use Rattle.bt_demand.proofs.holding.connects.Goals as goal

pub returns : goal.returns
returns c =
    let both = connects_beams c.args.net.now c.args.mode.now c.args.burst.from c.args.burst.to c.beam_of-up.result c.beam_of-down.result c.beam_of-up.ensures.beam c.beam_of-down.ensures.beam in
    rw c.as_slice.ensures.same (
      (λ same. both.0 (eqb-true (slice_index c.args.mode.now.perm c.beam_of-up.result.0) c.beam_of-down.result.0 same)),
      (λ connects. eq-eqb (slice_index c.args.mode.now.perm c.beam_of-up.result.0) c.beam_of-down.result.0 (both.1 connects)),
    )
