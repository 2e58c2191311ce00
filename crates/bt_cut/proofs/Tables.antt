-- A table to which a mode is added row by row, and from which links take slots.
use Rattle.std.proofs.Common.{◌≡◌, ℕ, ◌+◌, ◌*◌, ◌<◌, ◌≤◌, List, length, get_or, slice_index, slice_set, refl, sym, ap, ◌∙◌, inl, inr, arith, get_or-set_same, get_or-set_other}
use Rattle.std.specs.List.{HoldsAt}
use Rattle.std.proofs.lemmas.Bool.{cases_eq}
use Rattle.bt_frame.specs.declared.mode.Mode.{Mode}
use Rattle.bt_matrix.specs.Good.{IsPermutation, slots_in}
use Rattle.bt_demand.specs.Plan.{begin_of}
use Rattle.bt_modes.proofs.Takes.{slots_in-served, slots_in-other}
use Rattle.bt_cut.specs.declared.connection.Connection.{Connection}
use Rattle.bt_cut.specs.Serving.{number_at, IsGivenBy, HasSlots}
use Rattle.bt_cut.proofs.Numbers.{number_next}

-- The rows before one have the slots of one mode more than the others.
pub record IsPartTable (modes : List Mode) (beams place rows : ℕ) (table : List Connection) : Type 0 where
  pub before : (up down : ℕ) (other : Connection) → up < rows → up < beams → down < beams → HasSlots modes up down (place + 1) 0 (get_or table (up * 32 + down) other)
  pub after : (up down : ℕ) (other : Connection) → rows ≤ up → up < beams → down < beams → HasSlots modes up down place 0 (get_or table (up * 32 + down) other)

-- a connection that the mode does not make has no more slots
HasSlots-beside : (modes : List Mode) (up down place : ℕ) (connection : Connection) → number_at modes up down (place + 1) ≡ number_at modes up down place
    → HasSlots modes up down place 0 connection → HasSlots modes up down (place + 1) 0 connection
HasSlots-beside modes up down place connection same has = record {
  turns = has.turns;
  all = has.all ∙ sym same;
  ready = has.ready;
  so_many = has.so_many;
}

-- one row more
pub IsPartTable-more : (modes : List Mode) (beams place row : ℕ) (mode : Mode) (table : List Connection) (old new : Connection) (start : ℕ)
    → beams ≤ 32 → row < beams → length table ≡ 1024 → place < length modes → HoldsAt (λ m. m ≡ mode) modes place → start ≡ begin_of modes place
    → IsPermutation beams mode.perm → 0 < mode.duration → start + mode.duration ≤ 4096
    → ((up down at taken : ℕ) → IsGivenBy modes up down at (record { start = start; length = mode.duration })
    → HasSlots modes up down at taken (get_or table (row * 32 + slice_index mode.perm row) old) → HasSlots modes up down (at + 1) taken new)
    → IsPartTable modes beams place row table → IsPartTable modes beams place (row + 1) (slice_set table (row * 32 + slice_index mode.perm row) new)
IsPartTable-more modes beams place row mode table old new start few inside count within is begins permutes lasts small gains part =
    let to = slice_index mode.perm row in
    let to_inside : to < beams = permutes.in_range row 0 (omega (arith, permutes.count)) in
    let at = row * 32 + to in
    let next = λ (up down : ℕ). number_next modes up down place mode within ∙ ap (λ (m : Mode). number_at modes up down place + slots_in up down m) (is mode) in
    record {
      before = λ up down other less in_rows in_columns.
          elim (cases_eq up row) [
            | inl same ↦
                elim (cases_eq down to) [
                  | inl here ↦
                      rw (same, here, get_or-set_same table at new other (omega arith))
                      (gains row to place 0
                      (record {
                        in_range = within;
                        some = lasts;
                        small = small;
                        begins = begins;
                        behind = next row to ∙ ap (λ (n : ℕ). number_at modes row to place + n) (slots_in-served mode row to refl);
                      })
                      (part.after row to old (omega arith) inside to_inside))
                  | inr beside ↦
                      rw (same, get_or-set_other table at (row * 32 + down) new other (λ equal. beside (omega arith)))
                      (HasSlots-beside modes row down place (get_or table (row * 32 + down) other)
                      (omega (arith, next row down, slots_in-other mode row down (λ equal. beside (sym equal))))
                      (part.after row down other (omega arith) inside in_columns))
                ]
            | inr apart ↦
                rw (get_or-set_other table at (up * 32 + down) new other (λ equal. apart (omega arith)))
                (part.before up down other (omega arith) in_rows in_columns)
          ];
      after = λ up down other later in_rows in_columns.
          rw (get_or-set_other table at (up * 32 + down) new other (λ equal. absurd (omega arith)))
          (part.after up down other (omega arith) in_rows in_columns);
    }
