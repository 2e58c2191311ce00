use Rattle.std.proofs.Common.{arith}
use Rattle.std.proofs.lemmas.List.{length-set}
use Rattle.bt_modes.proofs.Holders.{AreHoldersTo-some, AreHoldersTo-none}
use Rattle.bt_modes.proofs.matching.holders_of.Goals.{in-Some, in_default}
use Rattle.bt_modes.proofs.matching.holders_of.Goals as goal

pub loop-row-preserved : goal.loop-row-preserved
loop-row-preserved c =
    let columns = c.args.columns.now in
    let holders = c.loop-row.holders in
    let row = c.loop-row.row in
    elim c.match-column.branch [
      | in-Some w ↦
          let below = c.requires.below_size row w.in-Some.down w.in-Some.is in
          record {
            so_far = rw w.holders-is (AreHoldersTo-some columns holders row w.in-Some.down c.requires.own_columns (omega (arith, below, c.requires.few_rows, c.loop-row.invariant.room)) w.in-Some.is c.loop-row.invariant.so_far);
            room = rw (w.holders-is, length-set) c.loop-row.invariant.room;
          }
      | in_default w ↦ record {
        so_far = rw w.holders-is (AreHoldersTo-none columns holders row w.in_default.is c.loop-row.invariant.so_far);
        room = rw w.holders-is c.loop-row.invariant.room;
      }
    ]
