-- The place and the names of the definitions that the program's are.
use Rattle.std.specs.Prelude.{ℕ, List, Option, option_map}
use Rattle.spec_documents.specs.Place.{Pointer, pointer_text}
use Rattle.spec_messages.specs.Policy as spec
use Rattle.spec_messages.specs.PolicyDocument as document
use Rattle.policy_documents.specs.declared.policy.Target.{Target}
use Rattle.policy_documents.specs.declared.policy.Target.TheVariants.{UriParam, Header, Body, MultipartBinary}

abbrev pub pointer_name : Option Pointer → Option (List ℕ)
pointer_name = option_map pointer_text

abbrev pub target_view : Target → document.Target
target_view (UriParam n) = record { place = spec.uri_param; in_request = n.request; in_response = n.response }
target_view (Header n) = record { place = spec.header; in_request = n.request; in_response = n.response }
target_view (Body n) = record { place = spec.body; in_request = pointer_name n.request; in_response = pointer_name n.response }
target_view (MultipartBinary n) = record { place = spec.multipart_binary; in_request = n.request; in_response = n.response }
