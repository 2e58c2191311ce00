-- What a walk over a network file comes to, and whether it goes on at a name.
use Rattle.std.specs.Prelude.{◌≡◌, Bool, Result, Ok, Err, if◌then◌else◌, ⊤}
use Rattle.bt_net.specs.declared.fault.NetFault.{NetFault}
use Rattle.bt_net.specs.declared.fault.NetFault.TheVariants.{N4, N5, OutOfMemory}
use Rattle.bt_net.specs.declared.fault.Path.{Path}

-- a call ended with this fault: the walk has it, unless memory ran out
abbrev pub Fails : {A : Type 0} → NetFault → Result A NetFault → Type 0
Fails OutOfMemory walk = Unit {0}
Fails fault walk = walk ≡ Err fault

-- a call gives what the walk gives, seen by view, unless memory ran out
abbrev pub Gives : {A B : Type 0} → (A → B) → Result A NetFault → Result B NetFault → Type 0
Gives view (Ok x) walk = walk ≡ Ok (view x)
Gives view (Err fault) walk = Fails fault walk

-- a name is good, and no earlier entry has it
unfoldable pub checked : Path → Bool → Bool → Result ⊤ NetFault
checked place is_good is_taken = if is_good then (if is_taken then Err (N5 place) else Ok tt) else Err (N4 place)
