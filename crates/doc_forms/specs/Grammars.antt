-- The test that each grammar of the program stands for.
use Rattle.std.specs.Prelude.{ℕ, List, Bool}
use Rattle.spec_documents.specs.Text.{is_segment, is_query_name, is_query_value, is_scheme, is_authority, is_version, is_header_name, is_header_value, is_identity, is_node_name, is_id}
use Rattle.spec_messages.specs.Message.{any_text}
use Rattle.doc_forms.specs.declared.grammar.Grammar.{Grammar}
use Rattle.doc_forms.specs.declared.grammar.Grammar.TheVariants as grammar

abbrev pub test_of : Grammar → List ℕ → Bool
test_of grammar.Any = any_text
test_of grammar.Segment = is_segment
test_of grammar.QueryName = is_query_name
test_of grammar.QueryValue = is_query_value
test_of grammar.Scheme = is_scheme
test_of grammar.Authority = is_authority
test_of grammar.Version = is_version
test_of grammar.HeaderName = is_header_name
test_of grammar.HeaderValue = is_header_value
test_of grammar.Identity = is_identity
test_of grammar.NodeName = is_node_name
test_of grammar.Id = is_id
