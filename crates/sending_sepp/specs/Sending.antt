-- What the program answers in place of a document, in the words of the definitions.
use Rattle.std.specs.Prelude.{Option}
use Rattle.block_forms.specs.Faults.{limit_view}
use Rattle.context_store.specs.CallFaults.{told_by, cause_by}
use Rattle.context_store.specs.declared.call_faults.CheckFault.{CheckFault}
use Rattle.context_store.specs.declared.call_faults.CallFault.{CallFault}
use Rattle.spec_exchange.specs.SendingRefusals as spec
use Rattle.spec_exchange.specs.Outside.{Cause}
use Rattle.sending_sepp.specs.declared.fault.SendFault.{SendFault}
use Rattle.sending_sepp.specs.declared.fault.SendFault.TheVariants as faults

abbrev pub refusal_view : SendFault → spec.Refusal
refusal_view faults.ContextNotFound = spec.ContextNotFound
refusal_view faults.NoKeys = spec.NoKeys
refusal_view faults.NoRequest = spec.NoRequest
refusal_view faults.Answered = spec.Answered
refusal_view faults.SeqSpent = spec.SeqSpent
refusal_view (faults.Limit name) = spec.Beyond (limit_view name)

-- the refusal that is told, where memory sufficed
abbrev pub told : CheckFault SendFault → Option spec.Refusal
told fault = told_by refusal_view fault

abbrev pub told_cause : CallFault SendFault → Option (Cause spec.Refusal)
told_cause fault = cause_by refusal_view fault
