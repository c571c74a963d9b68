-- What the program answers in place of a message.
use Rattle.std.specs.Prelude.{Option}
use Rattle.context_store.specs.CallFaults.{told_by, cause_by}
use Rattle.context_store.specs.declared.call_faults.CheckFault.{CheckFault}
use Rattle.context_store.specs.declared.call_faults.CallFault.{CallFault}
use Rattle.spec_exchange.specs.AcceptRefusals as spec
use Rattle.spec_exchange.specs.Outside.{Cause}
use Rattle.receiving_sepp.specs.declared.refused.Refused.{Refused}
use Rattle.receiving_sepp.specs.Views.{refused_view}

-- the refusal that is told, where memory sufficed
abbrev pub told : CheckFault Refused → Option spec.Refusal
told fault = told_by refused_view fault

abbrev pub told_cause : CallFault Refused → Option (Cause spec.Refusal)
told_cause fault = cause_by refused_view fault
