-- The document of a record is read to this record.
use Rattle.std.proofs.Common.{◌≡◌, ℕ, ◌<◌, ◌≤◌, ◌^◌, pos, List, [], ◌∷◌, length, Bool, true, ◌||◌, ◌==◌, nat_le, Option, Some, None, Ok, refl, ap, ◌∙◌, arith, ⊎_elim, IsTrue}
use Rattle.std.proofs.lemmas.Bool.{and_parts, lt-ltb, leb-true, or_cases, eqb-true}
use Rattle.std.specs.Option.{option_or}
use Rattle.hex.specs.Hex.{encode_lower, IsBytes, lower_digits}
use Rattle.hex.proofs.HexLemmas.{decode_sized-encode_lower, decode_sized-other, length-encode_with}
use Rattle.spec_documents.specs.Tree.{words, whole}
use Rattle.spec_documents.specs.Ids.{is_plmn, plmn_of}
use Rattle.spec_documents.specs.Text.{is_identity, is_node_name}
use Rattle.spec_documents.proofs.IdLemmas.{id_of-id_text}
use Rattle.spec_messages.specs.Message.{Kind, of_request, of_response, text_if}
use Rattle.spec_messages.specs.Policy.{result_ok}
use Rattle.spec_messages.specs.PolicyDocument.{list_of}
use Rattle.spec_records.specs.Records.{Suite, A128Gcm, A256Gcm, OneKey, KeySet, Context, Record, Offered, Opened, Keyed, Sent, Delivered, Closed}
use Rattle.spec_records.specs.RecordDocument.{suite_of, suite_text, kind_named, kind_text, number_of, mapping_of, mapping_tree, ipx_in, are_ipx, bytes_of, key_of, one_key_in, key_pair_in, one_key_tree, key_pair_tree, record_of, record_tree, is_well_named, IsOneKey, IsKeySet, IsContext, IsMapping, HasRange}

-- ---- words, numbers, lists

suite_back : (s : Suite) → suite_of (suite_text s) ≡ Some s
suite_back A128Gcm = refl
suite_back A256Gcm = refl

kind_back : (k : Kind) → kind_named (kind_text k) ≡ Some k
kind_back of_request = refl
kind_back of_response = refl

number_back : (n : ℕ) → n < 2 ^ 32 → number_of (whole (pos n)) ≡ Some n
number_back n h = rw (lt-ltb n (2 ^ 32) h)

mapping_back : (p : Option ℕ) → IsMapping p → mapping_of (mapping_tree p) ≡ Some p
mapping_back None h = refl
mapping_back (Some n) h = rw (lt-ltb n (2 ^ 32) h)

passing : (test : List ℕ → Bool) (s : List ℕ) → IsTrue (test s) → text_if test (words s) ≡ Some s
passing test s h = rw h

plmn_back : (s : List ℕ) → IsTrue (is_plmn s) → plmn_of s ≡ Some s
plmn_back s h = rw h

ipx_back : (ss : List (List ℕ)) → are_ipx ss ≡ true → ipx_in (Some (list_of words ss)) ≡ Some ss
ipx_back [] h = refl
ipx_back (s ∷ []) h = let p = and_parts (is_identity s) true h in rw p.0
ipx_back (s ∷ t ∷ ss) h =
    let p = and_parts (nat_le (length (s ∷ t ∷ ss)) 1) _ h in
    let few : length (s ∷ t ∷ ss) ≤ 1 = leb-true (length (s ∷ t ∷ ss)) 1 p.0 in
    absurd (omega (arith, few))

-- ---- keys

bytes_back : (count : ℕ) (bs : List ℕ) → length bs ≡ count → IsBytes bs → bytes_of count (encode_lower bs) ≡ Some bs
bytes_back count bs e h = ap result_ok (decode_sized-encode_lower bs count e h)

not_sixteen : (bs : List ℕ) → length bs ≡ 32 → bytes_of 16 (encode_lower bs) ≡ None
not_sixteen bs e =
    let twice = length-encode_with lower_digits bs in
    ap result_ok (decode_sized-other (encode_lower bs) 16 (omega (arith, twice, e)) (λ half. omega (arith, twice, e, half)))

key_back : (bs : List ℕ) → ((length bs == 16) || (length bs == 32)) ≡ true → IsBytes bs → key_of (encode_lower bs) ≡ Some bs
key_back bs e h =
    ⊎_elim
    (λ short. ap (λ o. option_or o (bytes_of 32 (encode_lower bs))) (bytes_back 16 bs (eqb-true (length bs) 16 short) h))
    (λ long. ap (λ o. option_or o (bytes_of 32 (encode_lower bs))) (not_sixteen bs (eqb-true (length bs) 32 long)) ∙ bytes_back 32 bs (eqb-true (length bs) 32 long) h)
    (or_cases (length bs == 16) (length bs == 32) e)

one_key_back : (k : OneKey) → IsOneKey k → one_key_in (Some (one_key_tree k)) ≡ Ok k
one_key_back k h = rw (key_back k.key h.key_length h.key_bytes, bytes_back 8 k.salt h.salt_length h.salt_bytes)

key_pair_back : (q r : OneKey) → IsOneKey q → IsOneKey r → key_pair_in (Some (key_pair_tree q r)) ≡ Ok (q, r)
key_pair_back q r hq hr = rw (one_key_back q hq, one_key_back r hr)

-- ---- records

opened_back : (x : Context) → is_well_named (Opened x) ≡ true → IsContext x → record_of (record_tree (Opened x)) ≡ Ok (Opened x)
opened_back x named h =
    let a = and_parts (is_node_name x.node) _ named in
    let b = and_parts (is_node_name x.peer_node) _ a.1 in
    let c = and_parts (are_ipx x.own_ipx) _ b.1 in
    rw (a.0, id_of-id_text x.id h.id, b.0, id_of-id_text x.peer h.peer, plmn_back x.plmn h.plmn, suite_back x.suite, h.policy, ipx_back x.own_ipx c.0, ipx_back x.peer_ipx c.1)

keyed_back : (node : List ℕ) (id : ℕ) (k : KeySet) → is_node_name node ≡ true → id < 2 ^ 64 → IsKeySet k → record_of (record_tree (Keyed node id k)) ≡ Ok (Keyed node id k)
keyed_back node id k name range h =
    rw (name, id_of-id_text id range, number_back k.first h.first, key_pair_back k.send_request k.send_response h.send_request h.send_response, key_pair_back k.receive_request k.receive_response h.receive_request h.receive_response)

pub record_back : (r : Record) → is_well_named r ≡ true → HasRange r → record_of (record_tree r) ≡ Ok r
record_back (Offered node id) named h = rw (named, id_of-id_text id h)
record_back (Opened x) named h = opened_back x named h
record_back (Keyed node id k) named h = keyed_back node id k named h.0 h.1
record_back (Sent node id kind seq message mapping) named h =
    rw (named, id_of-id_text id h.0, kind_back kind, number_back seq h.1.0, id_of-id_text message h.1.1.0, mapping_back mapping h.1.1.1)
record_back (Delivered node id kind message mapping) named h =
    rw (named, id_of-id_text id h.0, kind_back kind, id_of-id_text message h.1.0, mapping_back mapping h.1.1)
record_back (Closed node id) named h = rw (named, id_of-id_text id h)
