-- Faults of the store and of the calls of a SEPP, as they are told of an event.
use Rattle.std.specs.Prelude.{◌≡◌, ◌⊎◌}
use Rattle.spec_documents.specs.Tree.{Tree}
use Rattle.spec_script.specs.Reports.{report_on}
use Rattle.receiving_sepp.specs.Views.{refused_view}
use Rattle.ipx_node.specs.declared.passing.PassFault.{PassFault}
use Rattle.ipx_node.specs.declared.passing.PassFault.TheVariants as passing
use Rattle.block_forms.specs.declared.fault.LimitName.TheVariants as limits
use Rattle.context_store.specs.declared.faults.AddFault.{AddFault}
use Rattle.context_store.specs.declared.faults.AddFault.TheVariants as adding
use Rattle.context_store.specs.declared.faults.OpenFault.{OpenFault}
use Rattle.context_store.specs.declared.faults.OpenFault.TheVariants as opening
use Rattle.context_store.specs.declared.call_faults.CallFault.{CallFault}
use Rattle.context_store.specs.declared.call_faults.CallFault.TheVariants as calling
use Rattle.n32c_handshake.specs.declared.refusal.HandRefusal.{HandRefusal}
use Rattle.sending_sepp.specs.declared.fault.SendFault.{SendFault}
use Rattle.receiving_sepp.specs.declared.refused.Refused.{Refused}
use Rattle.script_lines.specs.declared.refusal.Refusal.{Refusal}
use Rattle.script_lines.specs.declared.refusal.Refusal.TheVariants as refusals
use Rattle.script_lines.specs.declared.unanswered.Unanswered.{Unanswered}
use Rattle.script_lines.specs.declared.unanswered.Unanswered.TheVariants as unanswered

abbrev pub of_opening : OpenFault → Unanswered
of_opening (opening.Journal number) = unanswered.Refused (refusals.Journal number)
of_opening opening.Keeper = unanswered.Refused refusals.Keeper
of_opening opening.NoMemory = unanswered.NoMemory

abbrev pub of_adding : AddFault → Unanswered
of_adding adding.Limit = unanswered.Refused (refusals.Limit limits.Records)
of_adding adding.Keeper = unanswered.Refused refusals.Keeper
of_adding adding.NoMemory = unanswered.NoMemory

-- a fault of a call, whose refusal is told so
abbrev pub of_call : {F : Type 0} → (F → Refusal) → CallFault F → Unanswered
of_call refusal (calling.Refused fault) = unanswered.Refused (refusal fault)
of_call refusal (calling.Journal number) = unanswered.Refused (refusals.Journal number)
of_call refusal calling.Keeper = unanswered.Refused refusals.Keeper
of_call refusal calling.NoMemory = unanswered.NoMemory

abbrev pub of_sending : CallFault SendFault → Unanswered
of_sending fault = of_call (λ refusal. refusals.Sending refusal) fault

abbrev pub of_hand : CallFault HandRefusal → Unanswered
of_hand fault = of_call (λ refusal. refusals.Handshake refusal) fault

abbrev pub of_passing : PassFault → Unanswered
of_passing (passing.Form part) = unanswered.Refused (refusals.Form part)
of_passing passing.Signer = unanswered.Refused refusals.Signer
of_passing passing.NoMemory = unanswered.NoMemory

-- of the document t, with its report
abbrev pub of_receiving : Tree → CallFault Refused → Unanswered
of_receiving t fault = of_call (λ refusal. refusals.Receiving refusal (report_on t (refused_view refusal))) fault

-- so, or memory was refused
abbrev pub Undelivers : Tree → CallFault Refused → Unanswered → Type 0
Undelivers t fault why = (why ≡ of_receiving t fault) ⊎ (why ≡ unanswered.NoMemory)
