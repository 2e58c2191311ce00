use Rattle.std.proofs.Common.{length, sym, arith}
use Rattle.bt_modes.proofs.Tables.{IsWithin-table}
use Rattle.bt_modes.proofs.matching.match_by_table.Goals as goal

-- the matrix itself has positive entries only where the table has
pub match_free_rows-requires-clause-support : goal.match_free_rows-requires-clause-support
match_free_rows-requires-clause-support g c = record {
  rows = g.M.Rows.rows c.args.matrix.now;
  traffic = c.fill_table.ensures.traffic;
  count = sym c.requires.size;
  equal = c.requires.equal;
  inside = λ up down some. omega (arith, c.fill_table.ensures.entries up down);
}

pub match_free_rows-requires-clause-within : goal.match_free_rows-requires-clause-within
match_free_rows-requires-clause-within g c =
    IsWithin-table (g.M.Rows.rows c.args.matrix.now) c.fill_table.new.table (length c.args.columns.now) c.fill_table.ensures.entries c.fill_table.ensures.traffic c.requires.size
