-- A plan more changes no bytes of what was sent.
use Rattle.std.proofs.Common.{◌≡◌, ℕ, List, [], ◌∷◌, map, All, refl, ◌∙◌, ap}
use Rattle.std.proofs.lemmas.List.Elements.{All-head, All-tail}
use Rattle.bt_demand.specs.declared.plan.Plan.{Plan}
use Rattle.bt_air.specs.declared.message.Message.{Message}
use Rattle.bt_air.specs.declared.sent.Aired.{Aired}
use Rattle.bt_air.specs.Spelling.{message_bytes}
use Rattle.bt_site.specs.Laws.{IsCarriedAlike}
use Rattle.bt_sites.specs.Sites.{bytes_of}

pub bytes-stay : (more all : List Plan) (sent : List Aired) → All (IsCarriedAlike more all) sent → map (λ (one : Aired). bytes_of more one) sent ≡ map (λ (one : Aired). bytes_of all one) sent
bytes-stay more all [] each = refl
bytes-stay more all (x ∷ xs) each =
    ap (λ (message : Message). message_bytes message ∷ map (λ (one : Aired). bytes_of more one) xs) (All-head (IsCarriedAlike more all) x xs each)
    ∙ ap (λ (rest : List (List ℕ)). bytes_of all x ∷ rest) (bytes-stay more all xs (All-tail (IsCarriedAlike more all) x xs each))
