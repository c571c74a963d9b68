use Rattle.std.proofs.Common.{◌≡◌, map, drop}
use Rattle.spec_messages.specs.Policy.{mapping_from, mapping_of}
use Rattle.http_message.specs.Reading.{request_line}
use Rattle.policy_documents.specs.View.{mapping_view}
use Rattle.policy_tables.proofs.mapping.mapping_of.Given as goal

abbrev pub invariant-loop-i : goal.invariant-loop-i
invariant-loop-i l = mapping_from l.i (map mapping_view (drop l.i l.mappings)) (request_line l.request) ≡ mapping_of l.policy (request_line l.request)
