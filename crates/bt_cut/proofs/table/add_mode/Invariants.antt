use Rattle.std.proofs.Common.{◌≡◌, ℕ, ◌<◌, List, length, vec_len}
use Rattle.std.specs.List.{HoldsAt}
use Rattle.bt_frame.specs.declared.mode.Mode.{Mode}
use Rattle.bt_demand.specs.Plan.{begin_of}
use Rattle.bt_cut.specs.Serving.{IsTable}
use Rattle.bt_cut.proofs.Tables.{IsPartTable}
use Rattle.bt_cut.proofs.table.add_mode.Given as goal

-- the rows so far have their slots of the mode
abbrev pub invariant-loop-up : goal.invariant-loop-up
invariant-loop-up l = record {
  count : vec_len l.table ≡ 1024;
  so_far : (modes : List Mode) (place : ℕ) → place < length modes → HoldsAt (λ m. m ≡ l.mode) modes place → l.start ≡ begin_of modes place
      → IsTable modes l.beams place (λ _ _. 0) l.fn.table.items → IsPartTable modes l.beams place l.up l.table.items;
}
