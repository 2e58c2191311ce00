use Rattle.std.proofs.Common.{map, arith}
use Rattle.std.specs.String.{string_bytes}
use Rattle.bt_chart.specs.Choosing.{is_named}
use Rattle.bt_chart.proofs.Naming.{table_of}
use Rattle.bt_chart.proofs.choosing.named_beams.Goals as goal

pub returns : goal.returns
returns c = table_of (is_named c.args.net.now (map string_bytes c.args.words.now)) c.loop-beam.beams c.loop-beam.invariant.wide (λ beam within. c.loop-beam.invariant.so_far beam (omega (arith, within, c.loop-beam-test.false)))
