-- no delay yet
use Rattle.std.proofs.Common.{refl}
use Rattle.std.proofs.lemmas.List.Elements.{All-nil}
use Rattle.bt_timing.specs.Times.{IsDelay}
use Rattle.bt_timing.proofs.KnownDelays.{with_rest-begin}
use Rattle.bt_timing.proofs.delay_table.all_of.Goals as goal

pub loop-entry-init : goal.loop-entry-init
loop-entry-init c = record {
  reading = rw c.new-delays.ensures.items (with_rest-begin c.args.known.now);
  each = rw c.new-delays.ensures.items (All-nil IsDelay);
  count = rw c.new-delays.ensures.items refl;
}
