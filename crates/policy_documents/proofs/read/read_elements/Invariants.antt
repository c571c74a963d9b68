use Rattle.std.proofs.Common.{◌≡◌, map, drop}
use Rattle.spec_messages.specs.PolicyDocument.{each_read, element_of}
use Rattle.policy_documents.specs.View.{element_view}
use Rattle.policy_documents.proofs.Lists.{onto}
use Rattle.policy_documents.proofs.read.read_elements.Given as goal

abbrev pub invariant-loop-i : goal.invariant-loop-i
invariant-loop-i l = onto (map element_view l.elements) (each_read (element_of l.k) (drop l.i l.list)) ≡ each_read (element_of l.k) l.list
