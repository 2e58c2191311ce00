-- The demand of an edition is one, whichever first changes have so many edits.
use Rattle.std.proofs.Common.{◌≡◌, ◌<◌, List, Option, Some, None, IsSomeAnd, sym, ap, ◌∙◌, arith}
use Rattle.std.proofs.lemmas.List.Sums.{sum_by-append}
use Rattle.bt_frame.specs.declared.numbers.EditionNo.{EditionNo}
use Rattle.bt_demand.specs.declared.demand.Link.{Link}
use Rattle.bt_demand.proofs.SameDemand.{same_demands}
use Rattle.bt_journal.specs.declared.call.Change.{Change}
use Rattle.bt_journal.specs.JournalLines.{edits_in}
use Rattle.bt_history.specs.Changes.{edition}
use Rattle.bt_history.proofs.Strays.{same_links}
use Rattle.bt_look.specs.Look.{IsDemandOf}

-- the demand that is asked for is one
pub one_demand : (changes : List Change) (asked : Option EditionNo) (a b : List Link) → IsDemandOf changes asked a → IsDemandOf changes asked b → a ≡ b
one_demand changes None a b is also = same_demands a b is.demand also.demand (λ e. is.slots _ ∙ sym (also.slots _))
one_demand changes (Some number) a b is also = same_links changes number.0 a b is also

-- and there is none behind the last edition
pub none_behind : (changes : List Change) (asked : Option EditionNo) (links : List Link) → IsDemandOf changes asked links → IsSomeAnd asked (λ number. edition changes < number.0) → ⊥
none_behind changes None links is behind = behind
none_behind changes (Some number) links is behind =
    absurd (omega (arith, behind, is.counted, ap edition is.parts, sum_by-append edits_in is.before is.after))
