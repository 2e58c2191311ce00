-- of each beam so far it is known whether a word names it
use Rattle.std.proofs.Common.{◌≡◌, ℕ, ◌<◌, false, get_or, length, map}
use Rattle.std.specs.String.{string_bytes}
use Rattle.bt_chart.specs.Choosing.{is_named}
use Rattle.bt_chart.proofs.choosing.named_beams.Given as goal

abbrev pub invariant-loop-beam : goal.invariant-loop-beam
invariant-loop-beam l = record {
  wide : length l.beams ≡ 32;
  so_far : (beam : ℕ) → beam < l.beam → get_or l.beams beam false ≡ is_named l.net (map string_bytes l.words) beam;
}
