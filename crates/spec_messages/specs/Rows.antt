-- Worked examples: the texts, documents and policies that the laws by computation name.
use Rattle.std.specs.Prelude.{ℕ, zero, suc, List, [], ◌∷◌, true, Some, None, Result, codes}
use Rattle.spec_documents.specs.Tree.{Tree, null, words, members, put_member}
use Rattle.spec_documents.specs.Place.{Pointer}
use Rattle.spec_documents.specs.Patch.{Op}
use Rattle.spec_documents.specs.Text.{index_text}
use Rattle.spec_documents.specs.Examples.{list, map_of}
use Rattle.spec_messages.specs.Message.{clear, Line, request, Message}
use Rattle.spec_messages.specs.Policy.{Policy, fixed, Element, Location, body, Sort, ueid, authentication_material, key_material, nonsensitive}
use Rattle.spec_messages.specs.Split.{cleared}
use Rattle.spec_messages.specs.Entry.{OpWhy}
use Rattle.spec_messages.specs.Outcome.{operation_outcome, entry_outcome}
use Rattle.spec_messages.specs.Block.{Meta, sent_block, members_of}

abbrev pub message_three : Message
message_three = record {
  head = request (record {
    method = codes "POST";
    scheme = codes "https";
    authority = codes "ausf.example";
    version = codes "HTTP/2";
    segments = clear (codes "nausf-auth") ∷ clear (codes "v1") ∷ clear (codes "ue-authentications") ∷ [];
    query = [];
  });
  headers = record { name = codes "content-type"; value = clear (codes "application/json") } ∷ [];
  body = Some (map_of (
      (codes "resynchronizationInfo", map_of ((codes "auts", words (codes "0102")) ∷ (codes "rand", words (codes "0304")) ∷ []))
      ∷ (codes "servingNetworkName", words (codes "5G:mnc001.mcc001.3gppnetwork.org"))
      ∷ (codes "supiOrSuci", words (codes "suci-0-001-01-0-0-0-0000000001")) ∷ []));
}

abbrev pub element : Location → Sort → List ℕ → Element
element l s n = record { place = l; sort = s; in_request = Some n; in_response = None; modifiable = None; by_ipx = None }

abbrev pub policy_one : Policy
policy_one = record {
  mappings = record {
    method = codes "POST";
    patterns = fixed (codes "nausf-auth") ∷ fixed (codes "v1") ∷ fixed (codes "ue-authentications") ∷ [];
    elements = element body ueid (codes "/supiOrSuci") ∷ element body authentication_material (codes "/resynchronizationInfo/rand")
        ∷ element body authentication_material (codes "/resynchronizationInfo/auts")
        ∷ record (element body nonsensitive (codes "/servingNetworkName")) { by_ipx = Some ((codes "ipx-a", true) ∷ []) } ∷ [];
  } ∷ [];
  sorts = ueid ∷ authentication_material ∷ key_material ∷ [];
}

abbrev pub meta_one : Meta
meta_one = record { context = codes "00000000000000B1"; message = codes "0000000000000000"; ipx = codes "ipx-a" }

-- a request with a body
abbrev pub posted : Tree → Message
posted t = record message_three { body = Some t }

abbrev pub block_three : Tree
block_three = sent_block policy_one (Some 0) message_three meta_one

-- an item by its path and value, and a block of such items
abbrev pub item_at : List ℕ → Tree → Tree
item_at p v = map_of ((codes "iePath", words p) ∷ (codes "ieValueLocation", words (codes "BODY")) ∷ (codes "value", v) ∷ [])

abbrev pub with_items : List Tree → Tree
with_items ts = members (put_member (codes "payload") (list ts) (members_of block_three))

-- the line of the message
abbrev pub plain_three : Line
plain_three = record {
  method = codes "POST";
  scheme = codes "https";
  authority = codes "ausf.example";
  version = codes "HTTP/2";
  segments = clear (codes "nausf-auth") ∷ clear (codes "v1") ∷ clear (codes "ue-authentications") ∷ [];
  query = [];
}

abbrev pub three_values : List Tree
three_values = words (codes "0102") ∷ words (codes "0304") ∷ words (codes "suci-0-001-01-0-0-0-0000000001") ∷ []

-- the value of item k of a block's payload
abbrev pub value_path : ℕ → Pointer
value_path k = codes "payload" ∷ index_text k ∷ codes "value" ∷ []

-- what an intermediary's operation, and an entry, makes of the block of the message
abbrev pub outcome_three : List ℕ → Op → Result (Tree × Message) OpWhy
outcome_three ipx op = operation_outcome policy_one (Some 0) ipx 3 block_three (cleared policy_one (Some 0) message_three) op

abbrev pub entry_three : List ℕ → List Op → Result (Tree × Message) (ℕ × OpWhy)
entry_three ipx ops = entry_outcome policy_one (Some 0) ipx 3 block_three (cleared policy_one (Some 0) message_three) ops

-- n lists, one in the other
abbrev pub nested : ℕ → Tree
nested zero = null
nested (suc n) = list (nested n ∷ [])
