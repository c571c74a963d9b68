-- What is found under the program's rules.
use Rattle.std.specs.Prelude.{ℕ, List, Bool, Option}
use Rattle.spec_documents.specs.Tree.{Tree}
use Rattle.spec_documents.specs.Place.{Pointer}
use Rattle.spec_messages.specs.Message.{Part, Pair, Header, Head, Message}
use Rattle.spec_messages.specs.Policy.{Address, is_secret_node}
use Rattle.n32_values.specs.View.{tree_of}
use Rattle.http_message.specs.Reading.{message_view}
use Rattle.sealing_check.specs.Found as found
use Rattle.sealing_check.specs.declared.parts.Sealed.{Sealed}
use Rattle.sealing_check.specs.declared.body.Body.{Body}

abbrev pub segment_test : Sealed → ℕ → Part → Bool
segment_test r = found.segment_clear r.rules.now.policy r.rules.now.mapping r.rules.now.kind (message_view r.holed.now)

abbrev pub segment_site : Sealed → ℕ → Part → Address
segment_site r = found.segment_site r.rules.now.policy r.rules.now.mapping

abbrev pub pair_test : Sealed → ℕ → Pair → Bool
pair_test r = found.pair_clear r.rules.now.policy r.rules.now.mapping r.rules.now.kind (message_view r.holed.now)

abbrev pub header_test : Sealed → ℕ → Header → Bool
header_test r = found.header_clear r.rules.now.policy r.rules.now.mapping r.rules.now.kind (message_view r.holed.now)

abbrev pub node_test : Body → Pointer → Tree → Bool
node_test b = is_secret_node b.rules.now.policy b.rules.now.mapping b.rules.now.kind (tree_of b.root.now)

abbrev pub line_found : Sealed → Head → Option Address
line_found r = found.clear_line r.rules.now.policy r.rules.now.mapping r.rules.now.kind (message_view r.holed.now)

abbrev pub body_found : Sealed → Option Tree → Option Address
body_found r = found.clear_body r.rules.now.policy r.rules.now.mapping r.rules.now.kind (message_view r.holed.now)

abbrev pub rest_found : Sealed → List Header → Option Tree → Option Address
rest_found r = found.clear_rest r.rules.now.policy r.rules.now.mapping r.rules.now.kind (message_view r.holed.now)

abbrev pub all_found : Sealed → Message → Option Address
all_found r = found.clear_found r.rules.now.policy r.rules.now.mapping r.rules.now.kind (message_view r.holed.now)
