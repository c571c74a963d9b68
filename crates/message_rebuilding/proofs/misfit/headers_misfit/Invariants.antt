use Rattle.std.proofs.Common.{◌≡◌, map, drop}
use Rattle.spec_documents.specs.Text.{is_header_value}
use Rattle.spec_messages.specs.Rebuilt.{lesser, least, misfit}
use Rattle.http_message.specs.Reading.{header_view}
use Rattle.message_rebuilding.proofs.misfit.headers_misfit.Given as goal

abbrev pub invariant-loop-i : goal.invariant-loop-i
invariant-loop-i l = lesser l.least (least (map (λ h. misfit is_header_value l.values h.value) (map header_view (drop l.i l.headers)))) ≡ least (map (λ h. misfit is_header_value l.values h.value) (map header_view l.headers))
