-- The cause that a fault tells.
use Rattle.spec_documents.specs.Place.{Cause, no_place, bad_index, test_failed, into_itself, too_deep}
use Rattle.json_ptr.specs.declared.FindFault.{FindFault}
use Rattle.json_ptr.specs.declared.FindFault.TheVariants as find
use Rattle.json_patch6902.specs.declared.fault.PatchFault.{PatchFault}
use Rattle.json_patch6902.specs.declared.fault.PatchFault.TheVariants.{NoPlace, BadIndex, TestFailed, IntoItself, TooDeep}
use Rattle.json_patch6902.specs.declared.fault.EditFault.{EditFault}
use Rattle.json_patch6902.specs.declared.fault.EditFault.TheVariants as edit

abbrev pub cause_view : PatchFault → Cause
cause_view NoPlace = no_place
cause_view BadIndex = bad_index
cause_view TestFailed = test_failed
cause_view IntoItself = into_itself
cause_view TooDeep = too_deep

abbrev pub fault_of : FindFault → PatchFault
fault_of find.NoPlace = NoPlace
fault_of find.BadIndex = BadIndex

abbrev pub fault_for : FindFault → EditFault
fault_for fault = edit.Cause (fault_of fault)
