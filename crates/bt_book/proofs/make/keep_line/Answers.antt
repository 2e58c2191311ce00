use Rattle.std.proofs.Common.{Err, ap, refl}
use Rattle.bt_outside.specs.declared.keeper.KeepFault.{KeepFault}
use Rattle.bt_frame.proofs.Results.{if_not_ok, not_ok, on_err}
use Rattle.bt_book.proofs.make.keep_line.Goals as goal

-- where there is no room the store is not asked
pub returns-in_err-reserve : goal.returns-in_err-reserve
returns-in_err-reserve g c =
    let failed = c.from_residual.ensures.0 in
    let result = c.from_residual.result in record {
      told = if_not_ok _ result failed;
      later = if_not_ok _ result failed;
      prefix = if_not_ok _ result failed;
      rose = if_not_ok _ result failed;
      history = c.reserve.ensures.items;
      room = not_ok _ result failed;
      err_told = on_err result refl;
      err_faults = on_err result refl;
      endures = if_not_ok _ result failed;
      err_crashes = on_err result refl;
    }

-- the entries are as before in each case
pub returns-in-Ok-clause-history : goal.returns-in-Ok-clause-history
returns-in-Ok-clause-history g c = c.reserve.ensures.items

pub returns-in-Err-Failed-clause-history : goal.returns-in-Err-Failed-clause-history
returns-in-Err-Failed-clause-history g c = c.reserve.ensures.items

pub returns-in-Err-OutOfMemory-clause-history : goal.returns-in-Err-OutOfMemory-clause-history
returns-in-Err-OutOfMemory-clause-history g c = c.reserve.ensures.items

-- and much is said of a value alone, or of an error
pub returns-in-Ok-clause-err_told : goal.returns-in-Ok-clause-err_told
returns-in-Ok-clause-err_told g c = tt

pub returns-in-Ok-clause-err_faults : goal.returns-in-Ok-clause-err_faults
returns-in-Ok-clause-err_faults g c = tt

pub returns-in-Err-Failed-clause-err_told : goal.returns-in-Err-Failed-clause-err_told
returns-in-Err-Failed-clause-err_told g c = tt

pub returns-in-Err-Failed-clause-err_faults : goal.returns-in-Err-Failed-clause-err_faults
returns-in-Err-Failed-clause-err_faults g c = tt

pub returns-in-Err-OutOfMemory-clause-told : goal.returns-in-Err-OutOfMemory-clause-told
returns-in-Err-OutOfMemory-clause-told g c = tt

pub returns-in-Err-OutOfMemory-clause-later : goal.returns-in-Err-OutOfMemory-clause-later
returns-in-Err-OutOfMemory-clause-later g c = tt

pub returns-in-Err-OutOfMemory-clause-prefix : goal.returns-in-Err-OutOfMemory-clause-prefix
returns-in-Err-OutOfMemory-clause-prefix g c = tt

pub returns-in-Err-OutOfMemory-clause-rose : goal.returns-in-Err-OutOfMemory-clause-rose
returns-in-Err-OutOfMemory-clause-rose g c = tt

pub returns-in-Err-OutOfMemory-clause-room : goal.returns-in-Err-OutOfMemory-clause-room
returns-in-Err-OutOfMemory-clause-room g c = tt

-- the store keeps the line, or a first part of it
pub returns-in-Ok-clause-endures : goal.returns-in-Ok-clause-endures
returns-in-Ok-clause-endures g c = record {
  time = c.append.ensures.time;
  crash = c.append.ensures.crash c.requires;
  settled = λ _. c.in-Ok.ensures.settled;
}

pub returns-in-Err-Failed-clause-endures : goal.returns-in-Err-Failed-clause-endures
returns-in-Err-Failed-clause-endures g c = record {
  time = c.append.ensures.time;
  crash = c.append.ensures.crash c.requires;
  settled = λ kept. absurd cc;
}

-- and at want of memory no time goes by
pub returns-in-Err-OutOfMemory-clause-err_crashes : goal.returns-in-Err-OutOfMemory-clause-err_crashes
returns-in-Err-OutOfMemory-clause-err_crashes g c = c.in-Err-OutOfMemory.ensures.no_moment (ap (λ (fault : KeepFault). Err fault) c.in-Err-OutOfMemory.field-0-is) c.requires

pub returns-in-Ok-clause-err_crashes : goal.returns-in-Ok-clause-err_crashes
returns-in-Ok-clause-err_crashes g c = tt

pub returns-in-Err-Failed-clause-err_crashes : goal.returns-in-Err-Failed-clause-err_crashes
returns-in-Err-Failed-clause-err_crashes g c = tt

pub returns-in-Err-OutOfMemory-clause-endures : goal.returns-in-Err-OutOfMemory-clause-endures
returns-in-Err-OutOfMemory-clause-endures g c = tt
