-- What the program answers in place of a result, in the words of the definitions.
use Rattle.std.specs.Prelude.{Option}
use Rattle.context_store.specs.CallFaults.{told_by, cause_by}
use Rattle.context_store.specs.declared.call_faults.CheckFault.{CheckFault}
use Rattle.context_store.specs.declared.call_faults.CheckFault.TheVariants as checking
use Rattle.context_store.specs.declared.call_faults.CallFault.{CallFault}
use Rattle.spec_messages.specs.Limits.{many_records}
use Rattle.spec_exchange.specs.Outside.{Cause}
use Rattle.spec_handshake.specs.Differences.{AtMapping, InTypes}
use Rattle.spec_handshake.specs.Refusals as spec
use Rattle.n32c_handshake.specs.declared.read.DocumentRead.{DocumentRead}
use Rattle.n32c_handshake.specs.declared.read.DocumentRead.TheVariants as reading
use Rattle.n32c_handshake.specs.declared.refusal.HandRefusal.{HandRefusal}
use Rattle.n32c_handshake.specs.declared.refusal.HandRefusal.TheVariants as refusals
use Rattle.n32c_handshake.specs.Members.{member_name}

abbrev pub refusal_view : HandRefusal → spec.Refusal
refusal_view (refusals.Form member) = spec.BadForm (member_name member)
refusal_view refusals.NotExpected = spec.NotExpected
refusal_view refusals.NoCommonCapability = spec.NoCommonCapability
refusal_view refusals.NoCommonSuite = spec.NoCommonSuite
refusal_view (refusals.MappingDiffers number own other) = spec.PolicyDiffers (AtMapping number own other)
refusal_view refusals.TypesDiffer = spec.PolicyDiffers InTypes
refusal_view refusals.ContextUsed = spec.ContextUsed
refusal_view refusals.ContextNotFound = spec.ContextNotFound
refusal_view refusals.Limit = spec.Beyond many_records

-- the refusal that the checks tell, where memory sufficed
abbrev pub told : CheckFault HandRefusal → Option spec.Refusal
told fault = told_by refusal_view fault

abbrev pub told_cause : CallFault HandRefusal → Option (Cause spec.Refusal)
told_cause fault = cause_by refusal_view fault

-- a document that isn't read, as a fault of the checks
abbrev pub of_read : DocumentRead → CheckFault HandRefusal
of_read (reading.Member member) = checking.Refused (refusals.Form member)
of_read reading.NoMemory = checking.NoMemory
