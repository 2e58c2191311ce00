use Rattle.std.proofs.Common.{arith, ◌≡◌, ◌+◌, ◌-◌, ◌*◌, ◌≤◌, ℕ, List, length, map, subst, ap, ◌∙◌}
use Rattle.std.proofs.lemmas.List.{length-map}
use Rattle.bt_modes.proofs.Parts.{modes-le-duration}
use Rattle.bt_trans.specs.declared.part.PartMode.{PartMode}
use Rattle.bt_trans.specs.declared.part.PartSchedule.{PartSchedule}
use Rattle.bt_trans.specs.Border.{clip, IsBordered}
use Rattle.bt_trans.proofs.Goods.{IsGoodPart-clips}
use Rattle.bt_trans.proofs.Totals.{count-le, positive_entries-le}
use Rattle.bt_matrix.specs.Walk.{positive_entries}
use Rattle.bt_trans.proofs.planning.part_schedule.Goals as goal

-- there are no more modes than slots
pub of-requires : goal.of-requires
of-requires c =
    let parts = c.in_ok-parts.parts in
    let modes = c.in_ok-modes.modes in
    let items : parts.items ≡ map (clip c.size-size.result) modes.items = c.in_ok-parts.ensures.parts ∙ ap (map (clip c.size-size.result)) c.as_slice.ensures.value in
    let count : length parts.items ≡ length modes.items = ap length items ∙ length-map modes.items (clip c.size-size.result) in
    record { few = omega (arith, parts.ok.0, count, modes-le-duration modes.items c.in_ok-modes.ensures.modes.durations, c.in_ok-modes.ensures.filled, c.in_ok-padded.ensures.sum, c.least_length-length.ensures.limit c.requires.total) }

pub returns : goal.returns
returns c =
    let rows = c.args.matrix.now in
    let modes = c.in_ok-modes.modes.items in
    let size = c.size-size.result in
    let slots = c.least_length-length.result.0 in
    let bound = c.least_length-length.result.1 in
    let items : c.in_ok-parts.parts.items ≡ map (clip size) modes = c.in_ok-parts.ensures.parts ∙ ap (map (clip size)) c.as_slice.ensures.value in
    let all : c.of.result ≡ map (clip (length rows)) modes = c.of.ensures.same ∙ (items ∙ ap (λ (n : ℕ). map (clip n) modes) c.size-size.ensures.size) in
    let schedule = λ (ms : List PartMode). let s : PartSchedule = record { length = slots; bound = bound; modes = ms } in s in
    let bordered = subst (λ (s : ℕ). IsBordered rows c.in_ok-padded.padded.matrix.rows c.args.k s) c.in_ok-padded.ensures.sum c.in_ok-padded.ensures.bordered in
    let bordering = c.in_ok-padded.padded.matrix.rows in
    let traffic = c.size-lines.ensures.traffic in
    let lines : length bordering ≡ length rows + length rows - c.args.k = omega (arith, bordered.size, c.requires.most) in
    let some = c.in_ok-modes.ensures.few in
    let none = c.in_ok-modes.ensures.none in
    let below : length modes ≤ positive_entries bordering = count-le c.in_ok-padded.padded.sum (length modes) (length bordering) (positive_entries bordering) traffic.some_beams
    (λ asked. omega (arith, c.in_ok-modes.modes.ok.0, some asked)) (λ silent. ap length (none silent)) in
    let entries : length modes ≤ length bordering * length bordering = omega (arith, below, positive_entries-le bordering traffic) in
    let count : length c.of.result ≡ length modes = ap length all ∙ length-map modes (clip (length rows)) in
    record {
      good = IsGoodPart-clips rows c.in_ok-padded.padded.matrix.rows c.args.k slots bound modes (schedule c.of.result) (omega (arith, c.size-size.ensures.traffic.few_beams)) c.requires.most
          bordered c.in_ok-modes.ensures.modes (c.in_ok-modes.ensures.filled ∙ c.in_ok-padded.ensures.sum) c.least_length-length.ensures.least (ap schedule all);
      named = c.least_length-length.ensures.named;
      few_modes = subst (λ (n : ℕ). length c.of.result ≤ n * n) lines (omega (arith, count, entries));
    }
