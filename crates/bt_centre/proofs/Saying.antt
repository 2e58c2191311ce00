-- What is said has nothing to do with what a clock tells.
use Rattle.std.proofs.Common.{ℕ, List, None, Result, Ok, Err, inl, inr}
use Rattle.std.specs.Result.{OnErr}
use Rattle.bt_history.specs.declared.fault.RecoverFault.{RecoverFault}
use Rattle.bt_centre.specs.Answering.{SaysNamed}
use Rattle.bt_centre.specs.Talked.{Says, SaysOrNot, Talked}

-- the talk, where nothing is told of a clock
abbrev pub untimed : Talked → Talked
untimed talk = record talk { moments_before = None; moments_after = None }

pub says_at : (talk : Talked) (piece : List ℕ) (wanted status : ℕ) → Says (untimed talk) piece wanted status → Says talk piece wanted status
says_at talk piece wanted status (inl (all, same)) = inl (record { wrote = all.wrote; turn = all.turn }, same)
says_at talk piece wanted status (inr (part, same)) = inr (record { failed = part.failed; wrote = part.wrote; turn = part.turn }, same)

pub says_or_not_at : (talk : Talked) (piece : List ℕ) (wanted status : ℕ) → SaysOrNot (untimed talk) piece wanted status → SaysOrNot talk piece wanted status
says_or_not_at talk piece wanted status (inl early) = inl early
says_or_not_at talk piece wanted status (inr told) = inr (says_at talk piece wanted status told)

pub says_named_at : (talk : Talked) (text : List ℕ) (fault : RecoverFault) (status : ℕ) → SaysNamed (untimed talk) text fault status → SaysNamed talk text fault status
says_named_at talk text fault status (inl early) = inl early
says_named_at talk text fault status (inr (named, told)) = inr (named, says_at talk _ _ status told)

-- what holds in any case holds where there is an error
pub on_err : {T E P : Type 0} (result : Result T E) → P → OnErr result P
on_err (Ok value) holds = tt
on_err (Err fault) holds = holds
