use Rattle.std.proofs.Common.{Option, Some, ap, sym, ◌∙◌, option_map, option_and_then}
use Rattle.serde_json.specs.Data.{Data}
use Rattle.serde_json.specs.Find.{as_array}
use Rattle.bt_net.specs.Reading.{entries_of}
use Rattle.bt_net.proofs.Json.{entries_of-items_view}
use Rattle.bt_net.proofs.reading.array_at.Goals as goal

pub returns : goal.returns
returns c =
    rw c.as_slice.ensures.value
    (ap Some (sym (entries_of-items_view c.in_ok-entries.entries.now.items)) ∙ ap (option_map entries_of) c.in_ok-entries.ensures
    ∙ ap (λ (found : Option Data). option_map entries_of (option_and_then as_array found)) c.in_ok-get.ensures)
