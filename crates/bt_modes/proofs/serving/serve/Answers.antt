use Rattle.std.proofs.Common.{◌∙◌, sym, arith}
use Rattle.bt_modes.proofs.Few.{IsFewTo-mode, few_modes}
use Rattle.bt_modes.proofs.Served.{IsServedTo-mode, ServesMatrix-all}
use Rattle.bt_modes.proofs.serving.serve.Goals as goal

-- one mode more
pub loop-left-preserved : goal.loop-left-preserved
loop-left-preserved c =
    rw c.in_ok-push.ensures.items (record {
      so_far = IsServedTo-mode c.args.matrix.now c.loop-left.rest c.serve_mode.new.rest c.loop-left.modes.items c.in_ok-mode.mode c.loop-left.left c.args.slots
          c.loop-left.invariant.so_far c.in_ok-mode.ensures.served;
      few = IsFewTo-mode c.args.matrix.now c.loop-left.rest c.serve_mode.new.rest c.loop-left.modes.items c.in_ok-mode.mode c.loop-left.left c.args.slots
          c.loop-left.invariant.few c.loop-left.invariant.so_far.size (omega arith) c.in_ok-mode.ensures.served;
      past = rw c.in_ok-mode.ensures.served.size c.search-perm.ensures.past;
      size = c.search-perm.ensures.size ∙ sym c.in_ok-mode.ensures.served.size;
    })

-- no slots are left
pub returns-clause-served : goal.returns-clause-served
returns-clause-served c =
    ServesMatrix-all c.args.matrix.now c.loop-left.rest c.loop-left.modes.items c.loop-left.left c.args.slots c.loop-left.invariant.so_far (omega arith)

pub returns-clause-few : goal.returns-clause-few
returns-clause-few c =
    let few = few_modes c.args.matrix.now c.loop-left.rest c.loop-left.modes.items c.loop-left.left c.args.slots c.loop-left.invariant.few c.requires.greatest in
    omega (arith, few, c.loop-left.modes.ok.0)
