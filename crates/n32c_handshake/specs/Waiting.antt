-- The starts that wait, and the first of them that a document is for.
use Rattle.std.specs.Prelude.{◌≡◌, ℕ, Bool, ◌&&◌, List, Some, slice_get, slice_set, find}
use Rattle.std.specs.List.{remove}
use Rattle.spec_documents.specs.Text.{is_node_name}
use Rattle.spec_records.specs.RecordDocument.{are_ipx}
use Rattle.spec_handshake.specs.Starts.{Start, goes_on, first_goes_on, without_first}

-- its node and its intermediary are in their grammar
abbrev pub is_named : Start → Bool
is_named s = is_node_name s.node && are_ipx s.offer.ipx

-- the start at this place is the first that passes
pub record IsFirst (p : Start → Bool) (starts : List Start) (i : ℕ) : Type 0 where
  pub start : Start
  pub there : slice_get starts i ≡ Some start
  pub found : find p starts ≡ Some start
  pub without : remove starts i ≡ without_first p starts
  pub going_on : slice_set starts i (goes_on start) ≡ first_goes_on p starts
