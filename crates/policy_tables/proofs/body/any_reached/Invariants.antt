use Rattle.std.proofs.Common.{◌≡◌, map, filter, drop}
use Rattle.std.specs.List.{list_any}
use Rattle.spec_messages.specs.Policy.{is_sensitive}
use Rattle.http_message.specs.Reading.{kind_view}
use Rattle.n32_values.specs.View.{tree_of}
use Rattle.policy_documents.specs.View.{element_view}
use Rattle.policy_tables.specs.Secrecy.{reached}
use Rattle.policy_tables.proofs.body.any_reached.Given as goal

abbrev pub invariant-loop-i : goal.invariant-loop-i
invariant-loop-i l = list_any (reached (kind_view l.kind) (tree_of l.body) l.pointer) (filter (is_sensitive l.policy) (map element_view (drop l.i l.elements))) ≡ list_any (reached (kind_view l.kind) (tree_of l.body) l.pointer) (filter (is_sensitive l.policy) (map element_view l.elements))
