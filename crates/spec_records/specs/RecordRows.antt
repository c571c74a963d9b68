-- Records of worked examples.
use Rattle.std.specs.Prelude.{ℕ, List, [], ◌∷◌, Option, Some, None, codes}
use Rattle.spec_documents.specs.Tree.{Tree, null, words, members, object}
use Rattle.spec_documents.specs.Ids.{id_text}
use Rattle.spec_messages.specs.Message.{Kind, of_request, of_response}
use Rattle.spec_messages.specs.PolicyDocument.{empty_policy}
use Rattle.spec_records.specs.Records.{A128Gcm, OneKey, KeySet, Context, Record, Offered, Opened, Keyed, Sent, Delivered}

abbrev pub sixteen_bytes : List ℕ
sixteen_bytes = 0 ∷ 1 ∷ 2 ∷ 3 ∷ 4 ∷ 5 ∷ 6 ∷ 7 ∷ 8 ∷ 9 ∷ 10 ∷ 11 ∷ 12 ∷ 13 ∷ 14 ∷ 15 ∷ []

abbrev pub eight_bytes : List ℕ
eight_bytes = 160 ∷ 161 ∷ 162 ∷ 163 ∷ 164 ∷ 165 ∷ 166 ∷ 167 ∷ []

abbrev pub short_key : OneKey
short_key = record { key = sixteen_bytes; salt = eight_bytes }

-- a key of the other suite
abbrev pub long_key : OneKey
long_key = record { key = 0 ∷ 1 ∷ 2 ∷ 3 ∷ 4 ∷ 5 ∷ 6 ∷ 7 ∷ 8 ∷ 9 ∷ 10 ∷ 11 ∷ 12 ∷ 13 ∷ 14 ∷ 15 ∷ sixteen_bytes; salt = eight_bytes }

-- keys whose first number is n
abbrev pub keys_from : ℕ → KeySet
keys_from n = record { send_request = short_key; send_response = short_key; receive_request = short_key; receive_response = short_key; first = n }

abbrev pub unfit_keys : KeySet
unfit_keys = record { send_request = short_key; send_response = short_key; receive_request = short_key; receive_response = long_key; first = 0 }

abbrev pub context_with : List ℕ → Context
context_with peer_node = record { node = codes "A"; id = 161; peer_node = peer_node; peer = 177; plmn = codes "00102"; suite = A128Gcm; policy = empty_policy; own_ipx = codes "ipx-a" ∷ []; peer_ipx = [] }

abbrev pub keyed : ℕ → Record
keyed n = Keyed (codes "A") 161 (keys_from n)

abbrev pub sent : Kind → ℕ → Record
sent kind seq = Sent (codes "A") 161 kind seq seq (Some seq)

abbrev pub delivered : Kind → ℕ → Option ℕ → Record
delivered kind message mapping = Delivered (codes "A") 161 kind message mapping

-- of two openings and four sets of keys
abbrev pub opened_twice : List Record
opened_twice = keyed 1 ∷ Opened (context_with (codes "B")) ∷ Offered (codes "B") 161 ∷ Opened (context_with (codes "C")) ∷ Keyed (codes "A") 161 unfit_keys ∷ keyed 3 ∷ keyed 4 ∷ []

-- with messages both ways
abbrev pub busy : List Record
busy = Opened (context_with (codes "B")) ∷ keyed 3 ∷ sent of_request 9 ∷ sent of_request 7 ∷ sent of_response 4 ∷ delivered of_response 5 None ∷ delivered of_request 5 (Some 2) ∷ delivered of_request 5 None ∷ []

-- a document of an Offered record, with a further member
abbrev pub with_further : Tree
with_further = members (object ((codes "is", words (codes "offered")) ∷ (codes "node", words (codes "A")) ∷ (codes "id", words (id_text 161)) ∷ (codes "further", null) ∷ []))
