use Rattle.std.proofs.Common.{◌-◌, ◌<◌, length, arith}
use Rattle.bt_book.proofs.Named.{kept_edit_named}
use Rattle.bt_book.proofs.machine.Machine.edit.Goals as goal

-- an edit that is kept is one of those that were made
pub returns-clause-terminals : goal.returns-clause-terminals
returns-clause-terminals c =
    let past = c.self.inside.kept.past in
    let within : c.args.number.0 - 1 < length past.items = omega (arith, c.if-number-eq0.false, c.if-len-number.false, c.len.ensures) in
    kept_edit_named _ c.args.self.now past.items (c.args.number.0 - 1) c.index.result.now c.self.view_is c.self.invariant.past c.self.invariant.keeps.follows within c.index.ensures
