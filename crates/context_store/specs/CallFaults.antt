-- Why a call over a store comes to nothing, in the words of the definitions.
use Rattle.std.specs.Prelude.{Option, Some, None}
use Rattle.spec_exchange.specs.Outside.{Cause, Own, Outside}
use Rattle.spec_exchange.specs.Outside as outside
use Rattle.context_store.specs.declared.faults.OpenFault.{OpenFault}
use Rattle.context_store.specs.declared.faults.OpenFault.TheVariants as opening
use Rattle.context_store.specs.declared.call_faults.CheckFault.{CheckFault}
use Rattle.context_store.specs.declared.call_faults.CheckFault.TheVariants as checking
use Rattle.context_store.specs.declared.call_faults.CallFault.{CallFault}
use Rattle.context_store.specs.declared.call_faults.CallFault.TheVariants as calling

-- the refusal that is told, where memory sufficed
abbrev pub told_by : {F R : Type 0} → (F → R) → CheckFault F → Option R
told_by view (checking.Refused fault) = Some (view fault)
told_by view checking.NoMemory = None

abbrev pub cause_by : {F R : Type 0} → (F → R) → CallFault F → Option (Cause R)
cause_by view (calling.Refused fault) = Some (Own (view fault))
cause_by view (calling.Journal number) = Some (Outside (outside.Journal number))
cause_by view calling.Keeper = Some (Outside outside.Keeper)
cause_by view calling.NoMemory = None

-- a fault of the checks, as one of the call
abbrev pub of_check : {F : Type 0} → CheckFault F → CallFault F
of_check (checking.Refused fault) = calling.Refused fault
of_check checking.NoMemory = calling.NoMemory

-- a store that isn't read
abbrev pub of_opening : {F : Type 0} → OpenFault → CallFault F
of_opening (opening.Journal number) = calling.Journal number
of_opening opening.Keeper = calling.Keeper
of_opening opening.NoMemory = calling.NoMemory
