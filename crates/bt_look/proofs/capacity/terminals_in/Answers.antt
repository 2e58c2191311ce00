use Rattle.std.proofs.Common.{◌<◌, length, sym, ◌∙◌, arith}
use Rattle.bt_look.proofs.Ends.{counted_no, counted_yes}
use Rattle.bt_look.proofs.capacity.terminals_in.Goals as goal
use Rattle.bt_look.proofs.capacity.terminals_in.Goals.{then-eq, else-eq}

-- one terminal more
pub loop-terminal-preserved : goal.loop-terminal-preserved
loop-terminal-preserved c =
    let k = c.loop-terminal.terminal in
    let within : k < length c.args.net.now.terminals = omega arith in
    elim c.if-eq.branch [
      | then-eq w ↦ record {
        so_far = w.count-is ∙ counted_yes c.args.net.now.terminals k c.loop-terminal.count c.args.beam c.beam_of.result within c.beam_of.ensures.beam (sym c.eq.ensures ∙ w.if-eq.true) c.loop-terminal.invariant.so_far;
        few = omega (arith, w.count-is);
      }
      | else-eq w ↦ record {
        so_far = w.count-is ∙ counted_no c.args.net.now.terminals k c.loop-terminal.count c.args.beam c.beam_of.result within c.beam_of.ensures.beam (sym c.eq.ensures ∙ w.if-eq.false) c.loop-terminal.invariant.so_far;
        few = omega (arith, w.count-is);
      }
    ]
