use Rattle.std.proofs.Common.{◌≡◌, ◌+◌, ◌++◌, map, take}
use Rattle.std.specs.List.{flat_map}
use Rattle.bt_round.specs.Seats.{text_at}
use Rattle.bt_round.proofs.round.add_desk_texts.Given as goal

-- the texts of the desks so far stand behind the text
abbrev pub invariant-loop-desk : goal.invariant-loop-desk
invariant-loop-desk g l =
    l.text.items ≡ l.fn.text.items ++ flat_map (λ desk. text_at (desk.0 + 1) (map (λ worker. worker.text.items) l.workers)) (take l.desk-index l.desks)
