use Rattle.std.proofs.Common.{◌≡◌, map, filter, drop}
use Rattle.std.specs.List.{list_any}
use Rattle.spec_messages.specs.Policy.{covers, is_sensitive}
use Rattle.http_message.specs.Reading.{kind_view}
use Rattle.policy_documents.specs.View.{element_view}
use Rattle.policy_tables.specs.View.{site_view}
use Rattle.policy_tables.proofs.covering.any_covers.Given as goal

abbrev pub invariant-loop-i : goal.invariant-loop-i
invariant-loop-i l = list_any (covers (kind_view l.kind) (site_view l.site)) (filter (is_sensitive l.policy) (map element_view (drop l.i l.elements))) ≡ list_any (covers (kind_view l.kind) (site_view l.site)) (filter (is_sensitive l.policy) (map element_view l.elements))
