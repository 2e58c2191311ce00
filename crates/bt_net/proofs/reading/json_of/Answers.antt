use Rattle.std.proofs.Common.{Option, ap, inl, inr}
use Rattle.std.specs.Option.{ok_or}
use Rattle.serde_json.specs.Data.{Data}
use Rattle.serde_json.specs.View.{view}
use Rattle.bt_net.specs.declared.fault.NetFault.TheVariants.{N1}
use Rattle.bt_net.proofs.Json.{json_found, json_none}
use Rattle.bt_net.proofs.reading.json_of.Goals as goal

pub returns-in-Ok : goal.returns-in-Ok
returns-in-Ok c =
    ap (λ (found : Option Data). ok_or found N1) (json_found c.args.bytes.now (view c.in-Ok.value) c.in-Ok.ensures.ok.0 c.in-Ok.ensures.ok.1)

pub returns-in-Err : goal.returns-in-Err
returns-in-Err c =
    elim c.fault_of.ensures [
      | inl memory ↦ rw memory.1 tt
      | inr other ↦ rw other.1 (ap (λ (found : Option Data). ok_or found N1) (json_none c.args.bytes.now (c.in-Err.ensures.err other.0)))
    ]
