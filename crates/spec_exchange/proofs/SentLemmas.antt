-- What a message that is sealed keeps: its ids, its block, its values and its number.
use Rattle.std.proofs.Common.{◌≡◌, ℕ, zero, suc, ◌+◌, ◌/◌, ◌%◌, ◌<◌, ◌≤◌, ◌^◌, List, ◌∷◌, length, Bool, true, false, not, ◌&&◌, Option, Some, None, Result, Ok, refl, sym, ap, ap₂, ◌∙◌, cond, subst, codes, arith}
use Rattle.std.specs.Prelude.{option_and_then, nat_lt, nat_le}
use Rattle.std.proofs.lemmas.Bool.{and_from, le-leb, ltb-false, ltb-true}
use Rattle.base64.specs.GeneralPurpose.{IsBytes}
use Rattle.spec_documents.specs.Tree.{Tree, member, get_member, depth}
use Rattle.spec_documents.specs.Ids.{id_text, hex_after, hex_digit, hex_digits}
use Rattle.spec_documents.specs.Text.{is_id, lower, lower_byte}
use Rattle.spec_documents.specs.Compact.{compact_text}
use Rattle.spec_documents.proofs.IdLemmas.{id_of-id_text}
use Rattle.spec_messages.specs.Message.{Message, wanted}
use Rattle.spec_messages.specs.Policy.{Policy, values}
use Rattle.spec_messages.specs.Split.{cleared, filled, fill_whole}
use Rattle.spec_messages.specs.Block.{Meta, Block, request_text, meta_tree, header_tree, item_tree, with_list, line_members, block_members, block_tree, sent_block, is_object, is_meta, in_limits, at_most, members_of, clear_message}
use Rattle.spec_messages.specs.Fault.{block_fault, member_fault, is_meta_node, meta_of, first_of, when, as_fault, bad_member, or_null}
use Rattle.spec_messages.specs.Rebuilt.{FillFault, fill_fault}
use Rattle.spec_messages.proofs.BlockFaults.{first_none, when_none}
use Rattle.spec_records.specs.Records.{KeySet, Context, seq_at, seq_with}
use Rattle.spec_documents.specs.Base64url.{base64url}
use Rattle.spec_documents.specs.Document.{IsDocument}
use Rattle.spec_documents.proofs.RoundTrip.{reads_back}
use Rattle.spec_exchange.specs.Chain.{or_refused}
use Rattle.spec_documents.specs.Reading.{document_of}
use Rattle.spec_sealing.specs.Received.{block_in, if_has_meta, metadata_of}
use Rattle.spec_sealing.specs.Plaintext.{values_of, plaintext}
use Rattle.spec_exchange.specs.Rebuilding.{no_values, no_block, no_fill, of_block, read_block, unless_fault, filled_with}
use Rattle.spec_exchange.specs.Calls.{metadata_for}
use Rattle.spec_messages.specs.Splitting.{split_limit}
use Rattle.spec_messages.specs.Limits.{Limit, many_headers, many_items, many_values, long_block}
use Rattle.spec_exchange.specs.ReceivingRefusals.{Reconstruction}
use Rattle.spec_exchange.specs.Stages.{rebuilt}
use Rattle.spec_exchange.specs.Untouched.{HasNames}
use Rattle.spec_documents.proofs.Below as below
use Rattle.spec_documents.proofs.Below.{same_below}
use Rattle.spec_documents.proofs.Decoding.{bytes_of-base64url, document_of-reads}
use Rattle.spec_documents.proofs.Chains.{bind_at}

-- ---- ids in lower case

digit_lower : (v : ℕ) → v < 16 → lower_byte (hex_digit v) ≡ hex_digit v
unfolding below.all_below
digit_lower v lt = same_below 16 (λ v. lower_byte (hex_digit v)) hex_digit refl v lt

digits_lower : (count n : ℕ) → lower (hex_digits count n) ≡ hex_digits count n
digits_lower zero n = refl
digits_lower (suc count) n = ap₂ (λ d ds. d ∷ ds) (digit_lower (n / 16 ^ count % 16) (omega arith)) (digits_lower count n)

id_lower : (n : ℕ) → lower (id_text n) ≡ id_text n
unfolding id_text
id_lower n = digits_lower 16 n

pub id_back : (n : ℕ) → n < 2 ^ 64 → hex_after 0 (lower (id_text n)) ≡ n
id_back n fits = ap (hex_after 0) (id_lower n) ∙ tested (is_id (id_text n)) (hex_after 0 (id_text n)) (id_of-id_text n fits)
  where
    tested : (b : Bool) (k : ℕ) → cond b (Some k) None ≡ Some n → k ≡ n
    tested true k e = cc
    tested false k e = cc

is_id-text : (n : ℕ) → n < 2 ^ 64 → is_id (id_text n) ≡ true
is_id-text n fits = tested (is_id (id_text n)) (hex_after 0 (id_text n)) (id_of-id_text n fits)
  where
    tested : (b : Bool) (k : ℕ) → cond b (Some k) None ≡ Some n → b ≡ true
    tested true k e = refl
    tested false k e = cc

pub is_meta-for : (x : Context) (seq : ℕ) → HasNames x → seq < 2 ^ 64 → is_meta (metadata_for x seq) ≡ true
is_meta-for x seq names fits = and_from _ _ (and_from _ _ (is_id-text x.peer names.peer) (is_id-text seq fits)) names.ipx

-- ---- the members of a block

meta-there : (b : Block) → get_member (codes "metaData") (block_members b) ≡ Some (meta_tree b.metadata)
meta-there b = behind b.headers
  where
    behind : (hs : Option (List (List ℕ × Tree))) → get_member (codes "metaData") (with_list (codes "headers") header_tree hs (member (codes "metaData") (meta_tree b.metadata) (with_list (codes "payload") item_tree b.payload (line_members b.line)))) ≡ Some (meta_tree b.metadata)
    behind None = refl
    behind (Some xs) = refl

pub status-absent : (b : Block) (l : _) → b.line ≡ request_text l → get_member (codes "statusLine") (block_members b) ≡ None
status-absent b l e = ap (λ t. get_member (codes "statusLine") (with_list (codes "headers") header_tree b.headers (member (codes "metaData") (meta_tree b.metadata) (with_list (codes "payload") item_tree b.payload (line_members t))))) e ∙ behind b.headers b.payload
  where
    behind : (hs ps : Option (List (List ℕ × Tree))) → get_member (codes "statusLine") (with_list (codes "headers") header_tree hs (member (codes "metaData") (meta_tree b.metadata) (with_list (codes "payload") item_tree ps (line_members (request_text l))))) ≡ None
    behind None None = refl
    behind None (Some ys) = refl
    behind (Some xs) None = refl
    behind (Some xs) (Some ys) = refl

pub meta-is : (b : Block) → metadata_of (block_tree b) ≡ b.metadata
meta-is b = ap (λ o. meta_of (members_of (or_null o))) (meta-there b)

-- ---- limits

not-false : (b : Bool) → not b ≡ false → b ≡ true
not-false true e = refl
not-false false e = cc

limits-by : (a b c d : Bool) (w x y z : Limit) → first_of (when (not a) w) (first_of (when (not b) x) (first_of (when (not c) y) (when (not d) z))) ≡ None → (a ≡ true) × (b ≡ true) × (c ≡ true)
limits-by true true true d w x y z e = (refl, refl, refl)
limits-by true true false d w x y z e = cc
limits-by true false c d w x y z e = cc
limits-by false b c d w x y z e = cc

pub split-limits : (b : Block) (n : ℕ) → split_limit b n ≡ None → in_limits b n ≡ true
split-limits b n e =
    let h = limits-by (at_most 256 b.headers) (at_most 4096 b.payload) (nat_le n 1024) (nat_le (length (compact_text (block_tree b))) 4194304) many_headers many_items many_values long_block e in
    and_from (at_most 256 b.headers && at_most 4096 b.payload) (nat_le n 1024) (and_from (at_most 256 b.headers) (at_most 4096 b.payload) h.0 h.1) h.2

-- ---- the fill

some-ok : (a m : Message) → Some a ≡ Some m → (let r : Result Message FillFault = Ok a in r) ≡ Ok m
some-ok a m e = cc

none-some : {P : Type 0} (m : Message) → (let o : Option Message = None in o) ≡ Some m → P
none-some m e = cc

pub fill-back : (vs : List Tree) (c m : Message) → filled vs c ≡ Some m → ((why : FillFault) → fill_fault vs c ≡ Some why → filled vs c ≡ None) → (fill_fault vs c ≡ None → filled vs c ≡ Some (fill_whole vs c)) → filled_with vs c ≡ Ok m
fill-back vs c m f none some = tested (fill_fault vs c) refl
  where
    tested : (o : Option FillFault) → fill_fault vs c ≡ o → unless_fault o (fill_whole vs c) ≡ Ok m
    tested None e = some-ok (fill_whole vs c) m (sym (some e) ∙ f)
    tested (Some why) e = none-some m (sym (none why e) ∙ f)

-- ---- the block, read again

-- the laws on blocks and fills that are needed of one message
pub record Stands (pol : Policy) (k : Option ℕ) (m : Message) (meta : Meta) : Type 0 where
  pub fault : block_fault (sent_block pol k m meta) (length (values pol k m)) ≡ None
  pub clear : clear_message (sent_block pol k m meta) ≡ Some (cleared pol k m)
  pub fill : filled_with (values pol k m) (cleared pol k m) ≡ Ok m

block-back : (pol : Policy) (k : Option ℕ) (m : Message) (meta : Meta) → Stands pol k m meta → read_block (sent_block pol k m meta) (length (values pol k m)) ≡ Ok (cleared pol k m)
block-back pol k m meta h = ap₂ of_block h.fault h.clear

pub rebuilt-back : (pol : Policy) (k : Option ℕ) (m : Message) (meta : Meta) → values_of (plaintext (values pol k m)) ≡ Some (values pol k m) → Stands pol k m meta
    → rebuilt (sent_block pol k m meta) (plaintext (values pol k m)) ≡ Ok (record { holed = cleared pol k m; content = m })
rebuilt-back pol k m meta listed h =
    bind_at _ _ (values pol k m) (ap (λ o. wanted o (Reconstruction no_values)) listed)
    ∙ (bind_at _ _ (cleared pol k m) (ap (or_refused (λ why. Reconstruction (no_block why))) (block-back pol k m meta h))
    ∙ bind_at _ _ m (ap (or_refused (λ why. Reconstruction (no_fill why))) h.fill))

-- a tree without a fault has its metadata
fault-meta : (j : Tree) (n : ℕ) → block_fault j n ≡ None → if_has_meta j ≡ Some j
fault-meta j n e = tested (is_object j && is_meta_node (get_member (codes "metaData") (members_of j))) (not-false _ (when_none _ _ (first_none _ _ (member-none (member_fault j) (first_none _ _ e).0)).0))
  where
    member-none : (o : Option (List ℕ)) → as_fault bad_member o ≡ None → o ≡ None
    member-none None e = refl
    member-none (Some x) e = cc

    tested : (b : Bool) → b ≡ true → cond b (Some j) None ≡ Some j
    tested true e = refl
    tested false e = cc

-- the `aad` text of a block is read to it
pub aad-back : (j : Tree) (n : ℕ) → block_fault j n ≡ None → IsDocument j → depth j ≤ 127 → IsBytes (compact_text j) → block_in (base64url (compact_text j)) ≡ Some j
aad-back j n e d shallow bytes =
    ap (λ o. option_and_then if_has_meta (option_and_then document_of o)) (bytes_of-base64url (compact_text j) bytes)
    ∙ (ap (option_and_then if_has_meta) (document_of-reads (compact_text j) j (reads_back j d shallow)) ∙ fault-meta j n e)

-- ---- what was sent

seq_at-fits : (n seq : ℕ) → seq_at n ≡ Some seq → seq < 2 ^ 32
seq_at-fits n seq e = tested (nat_lt n (2 ^ 32)) refl e
  where
    tested : (b : Bool) → nat_lt n (2 ^ 32) ≡ b → cond b (Some n) None ≡ Some seq → seq < 2 ^ 32
    tested true h f = let same : n ≡ seq = cc in subst (λ z. z < 2 ^ 32) same (ltb-true n (2 ^ 32) h)
    tested false h f = cc

pub seq-fits : (k : Option KeySet) (o : Option ℕ) (seq : ℕ) → seq_with k o ≡ Some seq → seq < 2 ^ 32
seq-fits None o seq e = cc
seq-fits (Some k) None seq e = seq_at-fits k.first seq e
seq-fits (Some k) (Some n) seq e = seq_at-fits (n + 1) seq e
