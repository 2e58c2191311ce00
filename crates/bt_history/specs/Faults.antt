-- What a fault of the store makes of a recovery.
use Rattle.bt_outside.specs.declared.keeper.KeepFault.{KeepFault}
use Rattle.bt_outside.specs.declared.keeper.KeepFault.TheVariants as keep
use Rattle.bt_history.specs.declared.fault.RecoverFault.{RecoverFault}
use Rattle.bt_history.specs.declared.fault.RecoverFault.TheVariants.{StoreFault, TooLong, OutOfMemory}

-- the fault of a recovery at which the store answered this
abbrev pub recover_fault : KeepFault → RecoverFault
recover_fault keep.Failed = StoreFault
recover_fault keep.TooLong = TooLong
recover_fault keep.OutOfMemory = OutOfMemory
