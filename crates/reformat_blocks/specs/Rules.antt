-- Which parts are secret under the rules of a split.
use Rattle.std.specs.Prelude.{ℕ, Bool}
use Rattle.spec_documents.specs.Tree.{Tree}
use Rattle.spec_documents.specs.Place.{Pointer}
use Rattle.spec_messages.specs.Message.{Part, Pair, Header}
use Rattle.spec_messages.specs.Policy.{is_secret_segment, is_secret_pair, is_secret_header, is_secret_node}
use Rattle.n32_values.specs.View.{tree_of}
use Rattle.policy_tables.specs.Covered.{Asked}
use Rattle.reformat_blocks.specs.declared.body.Body.{Body}

abbrev pub segment_test : Asked → ℕ → Part → Bool
segment_test r = is_secret_segment r.policy r.mapping r.kind

abbrev pub pair_test : Asked → ℕ → Pair → Bool
pair_test r i = is_secret_pair r.policy r.mapping r.kind

abbrev pub header_test : Asked → ℕ → Header → Bool
header_test r i = is_secret_header r.policy r.mapping r.kind

abbrev pub node_test : Body → Pointer → Tree → Bool
node_test b = is_secret_node b.rules.now.policy b.rules.now.mapping b.rules.now.kind (tree_of b.root.now)
