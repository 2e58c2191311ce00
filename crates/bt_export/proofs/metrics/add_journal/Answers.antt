use Rattle.std.proofs.Common.{◌≡◌, ◌-◌, List, ℕ, codes, ap, ◌∙◌, arith}
use Rattle.bt_net.specs.Network.{Net}
use Rattle.bt_history.specs.Machine.{bytes_of}
use Rattle.bt_export.specs.Metrics.{gauge_lines}
use Rattle.bt_export.proofs.Gauges.{behind, same_gauge, same_gauge_ok}
use Rattle.bt_export.proofs.metrics.add_journal.Goals as goal

-- the bytes of the changes, and behind them those that are left
pub returns : goal.returns
returns g c =
    let net = c.args.net.now in
    let changes = c.args.book.now.state.changes in
    let last = c.add_gauge-2.result in
    let o : List ℕ = c.args.out.now.items in
    let n1 : List ℕ = c.add_gauge.new.out.items in
    let end : List ℕ = c.add_gauge-2.new.out.items in
    let bytes_name : List ℕ = codes "nozgurt_journal_bytes" in
    let bytes_help : List ℕ = codes "Bytes of the lines of changes." in
    let room_name : List ℕ = codes "nozgurt_journal_room_bytes" in
    let room_help : List ℕ = codes "Bytes that the network leaves for further lines." in
    let taken : c.line_bytes-bytes.result ≡ bytes_of net changes = c.line_bytes-bytes.ensures.bytes ∙ ap (λ (n : Net). bytes_of n changes) c.requires.network in
    let left : c.from-2.result ≡ net.journal - bytes_of net changes = omega (arith, c.from-2.ensures, c.saturating_sub-room.ensures, c.journal.ensures.same, taken) in
    behind last o n1 end (gauge_lines bytes_name bytes_help (bytes_of net changes)) (gauge_lines room_name room_help (net.journal - bytes_of net changes))
    (same_gauge o n1 bytes_name bytes_help c.from.result (bytes_of net changes) (c.from.ensures ∙ taken) c.in_ok-add_gauge.ensures)
    (same_gauge_ok last n1 end room_name room_help c.from-2.result (net.journal - bytes_of net changes) left c.add_gauge-2.ensures)
