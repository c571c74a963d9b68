-- The policy of the definitions that the program's lists are.
use Rattle.std.specs.Prelude.{List, map}
use Rattle.spec_messages.specs.Policy as spec
use Rattle.policy_documents.specs.declared.words.IeType.{IeType}
use Rattle.policy_documents.specs.declared.policy.Element.{Element}
use Rattle.policy_documents.specs.declared.policy.Pattern.{Pattern}
use Rattle.policy_documents.specs.declared.policy.Pattern.TheVariants.{Fixed, Variable}
use Rattle.policy_documents.specs.declared.policy.Mapping.{Mapping}
use Rattle.policy_documents.specs.Words.{sort_view}
use Rattle.policy_documents.specs.Target.{target_view}

abbrev pub element_view : Element → spec.Element
element_view e = record {
  place = (target_view e.target).place;
  sort = sort_view e.sort;
  in_request = (target_view e.target).in_request;
  in_response = (target_view e.target).in_response;
  modifiable = e.modifiable;
  by_ipx = e.by_ipx;
}

abbrev pub pattern_view : Pattern → spec.Pattern
pattern_view (Fixed s) = spec.fixed s
pattern_view (Variable x) = spec.variable x

abbrev pub mapping_view : Mapping → spec.Mapping
mapping_view g = record { method = g.method; patterns = map pattern_view g.patterns; elements = map element_view g.elements }

abbrev pub policy_view : List Mapping → List IeType → spec.Policy
policy_view gs ts = record { mappings = map mapping_view gs; sorts = map sort_view ts }
