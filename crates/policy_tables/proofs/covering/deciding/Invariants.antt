use Rattle.std.proofs.Common.{◌≡◌, ◌≤◌, map, drop, option_map, length}
use Rattle.spec_messages.specs.Policy.{deciding}
use Rattle.http_message.specs.Reading.{kind_view}
use Rattle.policy_documents.specs.View.{element_view}
use Rattle.policy_tables.specs.View.{site_view}
use Rattle.policy_tables.proofs.covering.deciding.Given as goal

abbrev pub invariant-backwards : goal.invariant-backwards
invariant-backwards l = record { best : option_map (λ e. element_view e.now) l.found ≡ deciding (kind_view l.kind) (map element_view (drop l.i l.elements)) (site_view l.site); within : l.i ≤ length l.elements }

abbrev pub decreases-backwards : goal.decreases-backwards
decreases-backwards l = l.i
