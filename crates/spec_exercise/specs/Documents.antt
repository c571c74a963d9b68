-- The documents of the lines of `exercise N`, and their texts (this project's own).
use Rattle.std.specs.Prelude.{ℕ, ◌+◌, ◌-◌, pos, true, List, [], ◌∷◌, ◌++◌, length, map, replicate, codes}
use Rattle.std.specs.Fmt.{decimal}
use Rattle.spec_documents.specs.Tree.{Tree, truth, whole, words, items, members, object, trees}
use Rattle.spec_documents.specs.Compact.{compact_text}
use Rattle.spec_exercise.specs.Script.{Sepp, Sender, Receiver, Line, AddNode, AddContext, AddKeys, Send, Pass, Deliver, script}

abbrev pub record_of : List (List ℕ × Tree) → Tree
record_of ms = members (object ms)

abbrev pub list_of : List Tree → Tree
list_of ts = items (trees ts)

abbrev pub number_tree : ℕ → Tree
number_tree n = whole (pos n)

-- ---- the two SEPPs

abbrev pub peer : Sepp → Sepp
peer Sender = Receiver
peer Receiver = Sender

abbrev pub name_of : Sepp → List ℕ
name_of Sender = codes "A"
name_of Receiver = codes "B"

abbrev pub plmn_of : Sepp → List ℕ
plmn_of Sender = codes "00101"
plmn_of Receiver = codes "00102"

-- the id of its context
abbrev pub context_of : Sepp → List ℕ
context_of Sender = codes "00000000000000a1"
context_of Receiver = codes "00000000000000b1"

-- its intermediary
abbrev pub ipx_of : Sepp → List ℕ
ipx_of Sender = codes "ipx-a"
ipx_of Receiver = codes "ipx-b"

abbrev pub node_tree : Sepp → Tree
node_tree sepp = record_of ((codes "do", words (codes "node")) ∷ (codes "node", words (name_of sepp)) ∷ (codes "plmn", words (plmn_of sepp)) ∷ [])

-- ---- the policy: the subscriber's id and a key are secret, and the sender's intermediary may change a number

abbrev pub element : List ℕ → List ℕ → List ℕ → List (List ℕ × Tree) → Tree
element location of_type place more = record_of ((codes "ieLoc", words location) ∷ (codes "ieType", words of_type) ∷ (codes "reqIe", words place) ∷ more)

abbrev pub grant : List ℕ × Tree
grant = (codes "isModifiableByIpx", record_of ((ipx_of Sender, truth true) ∷ []))

abbrev pub elements : Tree
elements = list_of (
    element (codes "URI_PARAM") (codes "UEID") (codes "supi") []
    ∷ element (codes "BODY") (codes "KEY_MATERIAL") (codes "/s") []
    ∷ element (codes "BODY") (codes "NONSENSITIVE") (codes "/t") (grant ∷ []) ∷ [])

abbrev pub mapping : Tree
mapping = record_of ((codes "IeList", elements) ∷ (codes "apiMethod", words (codes "POST")) ∷ (codes "apiSignature", words (codes "/n/v1/u/{supi}")) ∷ [])

abbrev pub policy : Tree
policy = record_of (
    (codes "apiIeMappingList", list_of (mapping ∷ []))
    ∷ (codes "dataTypeEncPolicy", list_of (words (codes "UEID") ∷ words (codes "KEY_MATERIAL") ∷ [])) ∷ [])

abbrev pub context_tree : Sepp → Tree
context_tree sepp = record_of (
    (codes "do", words (codes "context"))
    ∷ (codes "id", words (context_of sepp))
    ∷ (codes "node", words (name_of sepp))
    ∷ (codes "own_ipx", list_of (words (ipx_of sepp) ∷ []))
    ∷ (codes "peer", words (context_of (peer sepp)))
    ∷ (codes "peer_ipx", list_of (words (ipx_of (peer sepp)) ∷ []))
    ∷ (codes "peer_node", words (name_of (peer sepp)))
    ∷ (codes "plmn", words (plmn_of (peer sepp)))
    ∷ (codes "policy", policy)
    ∷ (codes "suite", words (codes "A128GCM")) ∷ [])

-- ---- keys

abbrev pub key_tree : List ℕ → List ℕ → Tree
key_tree key salt = record_of ((codes "key", words key) ∷ (codes "salt", words salt) ∷ [])

-- the keys that a SEPP seals with, for requests and for responses
abbrev pub sealing_keys : Sepp → Tree
sealing_keys Sender = record_of (
    (codes "request", key_tree (codes "000102030405060708090a0b0c0d0e0f") (codes "0001020304050607"))
    ∷ (codes "response", key_tree (codes "101112131415161718191a1b1c1d1e1f") (codes "1011121314151617")) ∷ [])
sealing_keys Receiver = record_of (
    (codes "request", key_tree (codes "202122232425262728292a2b2c2d2e2f") (codes "2021222324252627"))
    ∷ (codes "response", key_tree (codes "303132333435363738393a3b3c3d3e3f") (codes "3031323334353637")) ∷ [])

abbrev pub keys_tree : Sepp → Tree
keys_tree sepp = record_of (
    (codes "do", words (codes "keys"))
    ∷ (codes "id", words (context_of sepp))
    ∷ (codes "node", words (name_of sepp))
    ∷ (codes "receive", sealing_keys (peer sepp))
    ∷ (codes "send", sealing_keys sepp) ∷ [])

-- ---- a turn

-- 15 digits, with zeros in front
abbrev pub fifteen_digits : ℕ → List ℕ
fifteen_digits n = replicate (15 - length (decimal n)) 48 ++ decimal n

abbrev pub body_tree : ℕ → ℕ → Tree
body_tree turn drawn = record_of ((codes "i", number_tree turn) ∷ (codes "s", words (codes "secret " ++ decimal drawn)) ∷ (codes "t", number_tree drawn) ∷ [])

abbrev pub request_line : ℕ → Tree
request_line turn = record_of (
    (codes "authority", words (codes "x.example"))
    ∷ (codes "method", words (codes "POST"))
    ∷ (codes "path", words (codes "/n/v1/u/imsi-" ++ fifteen_digits turn))
    ∷ (codes "protocolVersion", words (codes "HTTP/2"))
    ∷ (codes "scheme", words (codes "https")) ∷ [])

abbrev pub message_tree : ℕ → ℕ → Tree
message_tree turn drawn = record_of ((codes "body", body_tree turn drawn) ∷ (codes "requestLine", request_line turn) ∷ [])

abbrev pub send_tree : ℕ → ℕ → Tree
send_tree turn drawn = record_of (
    (codes "do", words (codes "send"))
    ∷ (codes "id", words (context_of Sender))
    ∷ (codes "message", message_tree turn drawn)
    ∷ (codes "node", words (name_of Sender)) ∷ [])

-- the number stands in the block's third payload item
abbrev pub count_up : ℕ → Tree
count_up drawn = record_of ((codes "op", words (codes "replace")) ∷ (codes "path", words (codes "/payload/2/value")) ∷ (codes "value", number_tree (drawn + 1)) ∷ [])

abbrev pub pass_tree : ℕ → ℕ → Tree
pass_tree wire drawn = record_of (
    (codes "do", words (codes "pass"))
    ∷ (codes "ipx", words (ipx_of Sender))
    ∷ (codes "operations", list_of (count_up drawn ∷ []))
    ∷ (codes "wire", number_tree wire) ∷ [])

abbrev pub deliver_tree : ℕ → Tree
deliver_tree wire = record_of ((codes "do", words (codes "deliver")) ∷ (codes "node", words (name_of Receiver)) ∷ (codes "wire", number_tree wire) ∷ [])

-- ---- lines

abbrev pub line_tree : Line → Tree
line_tree (AddNode sepp) = node_tree sepp
line_tree (AddContext sepp) = context_tree sepp
line_tree (AddKeys sepp) = keys_tree sepp
line_tree (Send turn drawn) = send_tree turn drawn
line_tree (Pass wire drawn) = pass_tree wire drawn
line_tree (Deliver wire) = deliver_tree wire

abbrev pub line_text : Line → List ℕ
line_text line = compact_text (line_tree line)

-- the texts of the script's lines, without their newlines
abbrev pub lines : ℕ → List (List ℕ)
lines n = map line_text (script n)
