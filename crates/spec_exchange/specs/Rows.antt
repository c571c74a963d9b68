-- The records and messages of worked examples.
use Rattle.std.specs.Prelude.{◌≡◌, ℕ, List, [], ◌∷◌, ◌++◌, Some, None, Result, codes, true, false}
use Rattle.spec_documents.specs.Tree.{Tree}
use Rattle.spec_messages.specs.Message.{clear, request, Message, of_request, of_response}
use Rattle.spec_messages.specs.Policy.{Policy, fixed, variable, uri_param, ueid}
use Rattle.spec_messages.specs.Split.{cleared}
use Rattle.spec_messages.specs.Block.{block_of, block_tree}
use Rattle.spec_messages.specs.Rows.{element}
use Rattle.spec_records.specs.Records.{A128Gcm, OneKey, KeySet, Context, Record, Opened, Keyed, Sent, Delivered}
use Rattle.spec_records.specs.Records as records
use Rattle.spec_records.specs.RecordRows.{sixteen_bytes}
use Rattle.spec_sealing.specs.Suites.{ContentKey}
use Rattle.spec_sealing.specs.Jwe.{Jwe, misfit, opened}
use Rattle.spec_sealing.specs.Received.{Received}
use Rattle.spec_exchange.specs.AcceptRefusals.{Refusal}
use Rattle.spec_exchange.specs.Stages.{Delivery, KeyedContext, key_for}
use Rattle.spec_exchange.specs.Screens.{Passes}
use Rattle.spec_exchange.specs.EntryChecks.{Verdict, Signed, Verifying}
use Rattle.spec_exchange.specs.Accepting.{first_failed_of}
use Rattle.spec_exchange.specs.Calls.{metadata_for}

-- GET of a subscriber's slices, the subscriber's id secret
abbrev pub slices_policy : Policy
slices_policy = record {
  mappings = record {
    method = codes "GET";
    patterns = fixed (codes "nudm-sdm") ∷ fixed (codes "v2") ∷ variable (codes "supi") ∷ fixed (codes "nssai") ∷ [];
    elements = element uri_param ueid (codes "supi") ∷ [];
  } ∷ [];
  sorts = ueid ∷ [];
}

abbrev pub slices_request : Message
slices_request = record {
  head = request (record {
    method = codes "GET";
    scheme = codes "https";
    authority = codes "udm.example";
    version = codes "HTTP/2";
    segments = clear (codes "nudm-sdm") ∷ clear (codes "v2") ∷ clear (codes "imsi-001010000000001") ∷ clear (codes "nssai") ∷ [];
    query = [];
  });
  headers = record { name = codes "accept"; value = clear (codes "application/json") } ∷ [];
  body = None;
}

-- ---- two nodes, A and B, whose contexts name each other

abbrev pub one_key : OneKey
one_key = record { key = sixteen_bytes; salt = 0 ∷ 1 ∷ 2 ∷ 3 ∷ 4 ∷ 5 ∷ 6 ∷ 7 ∷ [] }

abbrev pub keys_from : ℕ → KeySet
keys_from first = record { send_request = one_key; send_response = one_key; receive_request = one_key; receive_response = one_key; first = first }

abbrev pub context_at : (node : List ℕ) (id : ℕ) (peer_node : List ℕ) (peer : ℕ) (plmn own peer_own : List ℕ) → Context
context_at node id peer_node peer plmn own peer_own =
    record { node = node; id = id; peer_node = peer_node; peer = peer; plmn = plmn; suite = A128Gcm; policy = slices_policy; own_ipx = own ∷ []; peer_ipx = peer_own ∷ [] }

abbrev pub context_a : Context
context_a = context_at (codes "A") 161 (codes "B") 177 (codes "00202") (codes "ipx-a") (codes "ipx-b")

abbrev pub context_b : Context
context_b = context_at (codes "B") 177 (codes "A") 161 (codes "00101") (codes "ipx-b") (codes "ipx-a")

abbrev pub opened_both : List Record
opened_both = Opened context_a ∷ Opened context_b ∷ []

abbrev pub keyed_both : ℕ → List Record
keyed_both first = opened_both ++ Keyed (codes "A") 161 (keys_from first) ∷ Keyed (codes "B") 177 (keys_from first) ∷ []

abbrev pub after_request : List Record
after_request = keyed_both 4294967295 ++ Sent (codes "A") 161 of_request 4294967295 4294967295 (Some 0) ∷ []

abbrev pub after_reply : List Record
after_reply = keyed_both 0 ++ Delivered (codes "B") 177 of_request 3 (Some 0) ∷ Sent (codes "B") 177 of_response 0 3 (Some 0) ∷ Delivered (codes "B") 177 of_request 4 (Some 0) ∷ []

abbrev pub after_delivery : List Record
after_delivery = keyed_both 0 ++ Delivered (codes "B") 177 of_request 3 (Some 0) ∷ []

-- ---- screens and verifiers

-- screens that pass every message, and none
abbrev pub all_pass : Passes
all_pass m plmn = true

abbrev pub none_passes : Passes
none_passes m plmn = false

-- verifiers of one verdict
abbrev pub always : Verdict → Verifying
always d number claim = d

-- ---- what B receives of A

abbrev pub held_b : KeyedContext
held_b = record { context = context_b; key_set = keys_from 0 }

-- the key under which A seals requests
abbrev pub key_b : ContentKey
key_b = key_for of_request held_b

-- request 3 of A
abbrev pub received_with : Jwe → (block : Tree) → (entries : List Tree) → Received
received_with w block entries = record { jwe = w; block = block; context = 177; message = 3; authorized = codes "ipx-a"; kind = of_request; entries = entries }

abbrev pub told_by : Passes → List Record → Jwe → (block : Tree) → List Tree → Result Delivery Refusal
told_by passes rs w block es = first_failed_of passes (always Signed) rs (codes "B") (received_with w block es)

-- without entries, where the screen passes every message
abbrev pub told_at_b : List Record → Jwe → (block : Tree) → Result Delivery Refusal
told_at_b rs w block = told_by all_pass rs w block []

-- the block of the request with the subscriber hidden, and with all in clear
abbrev pub hidden_block : Tree
hidden_block = block_tree (block_of (cleared slices_policy (Some 0) slices_request) (metadata_for context_a 3))

abbrev pub clear_block : Tree
clear_block = block_tree (block_of slices_request (metadata_for context_a 3))

-- the JWE opens to this plaintext
pub record OpensTo (w : Jwe) (plain : List ℕ) : Type 0 where
  pub fits : misfit key_b w ≡ None
  pub opens_is : opened key_b w ≡ Some plain

-- the records under which B receives request 3 for the first time
pub record AwaitsThird (rs : List Record) : Type 0 where
  pub context_is : records.open_context (codes "B") 177 rs ≡ Some context_b
  pub keys_are : records.keys (codes "B") 177 rs ≡ Some (keys_from 0)
  pub first : records.delivered_at (codes "B") 177 of_request 3 rs ≡ None
