-- A request or a response that was sealed and not touched is delivered as it was.
use Rattle.std.proofs.Common.{◌≡◌, ℕ, ◌<◌, ◌≤◌, ◌^◌, List, [], length, true, Option, Some, None, Ok, refl, sym, ap, ap₂, ◌∙◌, subst, codes, arith}
use Rattle.std.specs.Prelude.{is_some, if◌then◌else◌}
use Rattle.std.proofs.lemmas.Bool.{lt-leb}
use Rattle.spec_documents.specs.Tree.{Tree, get_member, depth, member}
use Rattle.spec_documents.specs.Ids.{hex_after}
use Rattle.spec_documents.specs.Compact.{compact_text}
use Rattle.spec_documents.proofs.Chains.{bind_at}
use Rattle.spec_messages.specs.Message.{Message, Head, request, response, Kind, of_request, of_response, kind_of, kind_of_head, wanted}
use Rattle.spec_messages.specs.Policy.{Policy}
use Rattle.spec_messages.specs.HeadMapping.{mapping_of_head}
use Rattle.spec_messages.specs.Split.{cleared, hide_head, fill_whole}
use Rattle.spec_messages.specs.Block.{Meta, Block, status_text, header_tree, item_tree, with_list, meta_tree, line_members, block_members, block_tree, block_of, sent_block, head_text}
use Rattle.spec_messages.specs.Rebuilt.{fill_fault}
use Rattle.spec_records.specs.Keys.{nonce, receive_key}
use Rattle.spec_records.specs.Records.{KeySet, Context, Record, record_limit, open_context, keys}
use Rattle.spec_sealing.specs.Received.{block_in, metadata_of, kind_in, received, carrier}
use Rattle.spec_sealing.specs.Plaintext.{plaintext}
use Rattle.spec_sealing.specs.Plaintext as plaintexts
use Rattle.spec_sealing.specs.Suites.{ContentKey, content_key}
use Rattle.spec_sealing.specs.Jwe.{Jwe, misfit, opened, sealed}
use Rattle.spec_sealing.specs.Forms.{HasParts, HasTexts}
use Rattle.spec_sealing.proofs.Opening.{sealed-allowed, sealed-opens, sealed-texts}
use Rattle.spec_sealing.proofs.Written.{carried-received, values-read}
use Rattle.spec_exchange.specs.Chain.{or_refused, none_of, unless}
use Rattle.spec_exchange.specs.Rebuilding.{in_clear}
use Rattle.spec_exchange.specs.ReceivingRefusals.{Form, NoContext, NoReceiveKeys, Cipher, Integrity, Replay, InClear, NoRoom}
use Rattle.spec_exchange.specs.SendingRefusals as sending
use Rattle.spec_exchange.specs.AcceptRefusals.{Unasked}
use Rattle.spec_exchange.specs.Stages.{KeyedContext, Rebuilt}
use Rattle.spec_exchange.specs.Calls.{Outgoing, Asks, Replies, Sealed, kind_of_outgoing, message_id, metadata_for, mapping_to_send, protected}
use Rattle.spec_messages.specs.Splitting.{split_limit}
use Rattle.spec_exchange.specs.Untouched.{HasNames, Shipment, shipment, id_of, document_of, AnswersId, OwnMapping, IsSendable, AreValues, AskedIt, IsReady, delivery_of}
use Rattle.spec_exchange.specs.Asked.{MappedBy, ItsHead, ItsRequest, asked_for, mapping_by}
use Rattle.spec_exchange.specs.Screens.{Passes}
use Rattle.spec_exchange.specs.EntryChecks.{Verifying, Progress}
use Rattle.spec_exchange.specs.Accepting.{stage, sealed_values, first_failed_of, first_failed}
use Rattle.spec_exchange.specs.Untouched as shipped
use Rattle.spec_exchange.proofs.ChainLemmas.{bind_then, none_ok, wanted_ok, ok_same}
use Rattle.spec_exchange.proofs.HiddenLemmas.{all-hidden}
use Rattle.spec_exchange.proofs.SentLemmas.{Stands, id_back, status-absent, meta-is, rebuilt-back, aad-back, seq-fits}
use Rattle.spec_exchange.proofs.AcceptLemmas.{sealed_values-is, passed_by, fill-is}

-- ---- the kind of a block

status-there : (b : Block) (s : List ℕ) → b.line ≡ status_text s → is_some (get_member (codes "statusLine") (block_members b)) ≡ true
status-there b s e = ap (λ t. is_some (get_member (codes "statusLine") (with_list (codes "headers") header_tree b.headers (member (codes "metaData") (meta_tree b.metadata) (with_list (codes "payload") item_tree b.payload (line_members t)))))) e ∙ behind b.headers b.payload
  where
    behind : (hs ps : Option (List (List ℕ × Tree))) → is_some (get_member (codes "statusLine") (with_list (codes "headers") header_tree hs (member (codes "metaData") (meta_tree b.metadata) (with_list (codes "payload") item_tree ps (line_members (status_text s)))))) ≡ true
    behind None None = refl
    behind None (Some ys) = refl
    behind (Some xs) None = refl
    behind (Some xs) (Some ys) = refl

line-kind : (pol : Policy) (k : Option ℕ) (kind : Kind) (h : Head) (b : Block) → b.line ≡ head_text (hide_head pol k kind h) → kind_in (block_tree b) ≡ kind_of_head h
line-kind pol k kind (request l) b e = ap (λ o. if is_some o then of_response else of_request) (status-absent b _ e)
line-kind pol k kind (response s) b e = ap (λ z. if z then of_response else of_request) (status-there b _ e)

sent-kind : (pol : Policy) (k : Option ℕ) (m : Message) (meta : Meta) → kind_in (sent_block pol k m meta) ≡ kind_of m
sent-kind pol k m meta = line-kind pol k (kind_of m) m.head (block_of (cleared pol k m) meta) refl

-- ---- the document, read again

form-back : (w : Jwe) (j : Tree) (context message : ℕ) (kind : Kind) → HasParts w → HasTexts w → block_in w.aad ≡ Some j → hex_after 0 (metadata_of j).context ≡ context → hex_after 0 (metadata_of j).message ≡ message → kind_in j ≡ kind
    → received (carrier w) ≡ Ok (record { jwe = w; block = j; context = context; message = message; authorized = (metadata_of j).ipx; kind = kind; entries = [] })
form-back w j context message kind parts texts block id seq is =
    carried-received w j parts texts block
    ∙ (λ i. Ok (record { jwe = w; block = j; context = id i; message = seq i; authorized = (metadata_of j).ipx; kind = is i; entries = [] }))

-- ---- what it was asked for by

abbrev by_of : Outgoing → Option ℕ → MappedBy
by_of Asks mapping = ItsHead
by_of (Replies to) mapping = ItsRequest mapping

asked-back : (s : Shipment) (o : Outgoing) (node : List ℕ) (records : List Record) → AskedIt o records node s.context.peer s.mapping → asked_for records node s.context.peer (kind_of_outgoing o) (message_id o s.seq) ≡ Ok (by_of o s.mapping)
asked-back s Asks node records h = refl
asked-back s (Replies to) node records h = bind_at _ _ s.mapping (ap (λ z. wanted z Unasked) h)

mapped-back : (s : Shipment) (o : Outgoing) (policy : Policy) → policy ≡ s.context.policy → OwnMapping o s.context s.content s.mapping → mapping_by (by_of o s.mapping) policy s.content ≡ s.mapping
mapped-back s Asks policy e h = ap (λ p. mapping_of_head p s.content.head) e ∙ sym h
mapped-back s (Replies to) policy e h = refl

-- ---- what is checked of it

checked-back : (passes : Passes) (v : Verifying) (s : Shipment) (node : List ℕ) (records : List Record) (w : Jwe) (ipx : List ℕ)
    → misfit (content_key s.context.suite s.key.key) w ≡ None → opened (content_key s.context.suite s.key.key) w ≡ Some (plaintext (shipped.values_of s)) → plaintexts.values_of (plaintext (shipped.values_of s)) ≡ Some (shipped.values_of s)
    → Stands s.context.policy s.mapping s.content (metadata_for s.context (id_of s)) → IsSendable s → IsReady passes s node records
    → first_failed_of passes v records node (record { jwe = w; block = block_tree (shipped.block_of s); context = s.context.peer; message = id_of s; authorized = ipx; kind = kind_of_outgoing s.outgoing; entries = [] }) ≡ Ok (delivery_of s node)
checked-back passes v s node records w ipx fits opens listed stands sendable r =
    let x = s.context in
    let m = s.content in
    let plain = plaintext (shipped.values_of s) in
    let same : content_key r.context.suite (receive_key (kind_of_outgoing s.outgoing) r.keys).key ≡ content_key x.suite s.key.key = ap₂ content_key r.suite_is r.key_is in
    let c : KeyedContext = record { context = r.context; key_set = r.keys } in
    let m2 : Rebuilt = record { holed = cleared x.policy s.mapping m; content = m } in
    let mapped : mapping_by (by_of s.outgoing s.mapping) r.context.policy m ≡ s.mapping = mapped-back s s.outgoing r.context.policy r.policy_is sendable.mapped in
    let start : Progress = record { identities = []; block = block_tree (shipped.block_of s); holed = cleared x.policy s.mapping m } in
    let full : fill_whole (sealed_values plain) (cleared x.policy s.mapping m) ≡ m = ap (λ vs. fill_whole vs (cleared x.policy s.mapping m)) (sealed_values-is plain (shipped.values_of s) listed) ∙ fill-is (fill_fault (shipped.values_of s) (cleared x.policy s.mapping m)) (fill_whole (shipped.values_of s) (cleared x.policy s.mapping m)) m stands.fill in
    bind_at _ _ c (ap stage (bind_at _ _ r.context (ap (λ o. wanted o NoContext) r.is_open) ∙ bind_at _ _ r.keys (ap (λ o. wanted o NoReceiveKeys) r.has_keys)))
    ∙ (bind_at _ _ plain (ap stage (bind_at _ _ tt (ap (none_of (λ z. Cipher z)) (ap (λ k. misfit k w) same ∙ fits)) ∙ ap (λ o. wanted o Integrity) (ap (λ k. opened k w) same ∙ opens)))
    ∙ (bind_at _ _ tt (ap (λ o. stage (none_of (λ z. Replay z) o)) r.first)
    ∙ (bind_at _ _ (by_of s.outgoing s.mapping) (asked-back s s.outgoing node records r.asked)
    ∙ (bind_at _ _ m2 (ap stage (rebuilt-back x.policy s.mapping m (metadata_for x (id_of s)) listed stands))
    ∙ (bind_at _ _ tt (ap (λ o. stage (none_of (λ z. InClear z) o)) (ap₂ (λ p k. in_clear p k (cleared x.policy s.mapping m) m) r.policy_is mapped ∙ all-hidden x.policy s.mapping m sendable.ordered))
    ∙ (bind_at _ _ start refl
    ∙ (bind_at _ _ tt (passed_by passes r.context _ (ap (λ z. passes z r.context.plmn) full ∙ r.passed))
    ∙ (bind_at _ _ tt (ap (λ b. stage (unless b NoRoom)) (lt-leb record_limit (length records) r.room))
    ∙ ap₂ (λ z k. Ok (record { content = z; node = node; id = x.peer; kind = kind_of_outgoing s.outgoing; message = id_of s; mapping = k })) full mapped))))))))

-- ---- all of it

pub untouched : (passes : Passes) (v : Verifying) (s : Shipment) (node : List ℕ) (records : List Record)
    → Stands s.context.policy s.mapping s.content (metadata_for s.context (id_of s)) → depth (block_tree (shipped.block_of s)) ≤ 127
    → IsSendable s → HasNames s.context → AreValues s → IsReady passes s node records
    → first_failed passes v records node (document_of s) ≡ Ok (delivery_of s node)
untouched passes v s node records stands shallow sendable names are ready =
    let ck : ContentKey = content_key s.context.suite s.key.key in
    let j : Tree = block_tree (shipped.block_of s) in
    let plain : List ℕ = plaintext (shipped.values_of s) in
    let w : Jwe = sealed ck (nonce s.key s.seq) (compact_text j) plain in
    let meta : metadata_of j ≡ (shipped.block_of s).metadata = meta-is (shipped.block_of s) in
    bind_at _ _ _ (ap (λ z. stage (or_refused (λ n. Form n) z)) (form-back w j s.context.peer (id_of s) (kind_of_outgoing s.outgoing) are.parts
    (sealed-texts ck (nonce s.key s.seq) (compact_text j) plain are.block_bytes)
    (aad-back j (length (shipped.values_of s)) stands.fault are.block shallow are.block_bytes)
    (ap (λ (z : Meta). hex_after 0 z.context) meta ∙ id_back s.context.peer names.peer)
    (ap (λ (z : Meta). hex_after 0 z.message) meta ∙ id_back (id_of s) sendable.fits)
    (sent-kind s.context.policy s.mapping s.content (metadata_for s.context (id_of s)) ∙ sendable.kind)))
    ∙ checked-back passes v s node records w (metadata_of j).ipx (sealed-allowed ck (nonce s.key s.seq) (compact_text j) plain) (sealed-opens ck (nonce s.key s.seq) (compact_text j) plain) (values-read (shipped.values_of s) are.plain are.plain_depth) stands sendable ready

-- ---- what was answered

-- the mapping of what was answered is its own
own-mapping : (o : Outgoing) (x : Context) (m : Message) (records : List Record) (node : List ℕ) (id : ℕ) (mapping : Option ℕ) → mapping_to_send o x m records node id ≡ Ok mapping → OwnMapping o x m mapping
own-mapping Asks x m records node id mapping e = sym (ok_same {E = sending.Refusal} _ mapping e)
own-mapping (Replies to) x m records node id mapping e = tt

-- what stands behind an answered message
pub record IsAnswered (x : Context) (k : KeySet) (o : Outgoing) (m : Message) (y : Sealed) : Type 0 where
  pub document : y.document ≡ document_of (shipment x k o m y)
  pub limits : split_limit (shipped.block_of (shipment x k o m y)) (length (shipped.values_of (shipment x k o m y))) ≡ None
  pub mapped : OwnMapping o x m y.mapping
  pub fits : y.seq < 2 ^ 32

pub protected-answered : (records : List Record) (node : List ℕ) (id : ℕ) (o : Outgoing) (m : Message) (y : Sealed) (x : Context) (k : KeySet)
    → protected records node id o m ≡ Ok y → open_context node id records ≡ Some x → keys node id records ≡ Some k → IsAnswered x k o m y
protected-answered records node id o m y x k e is_open has_keys =
    let known = sym (bind_at _ _ x (ap (λ z. wanted z sending.ContextNotFound) is_open) ∙ bind_at _ _ k (ap (λ z. wanted z sending.NoKeys) has_keys)) ∙ e in
    bind_then _ _ y known λ mapping e_mapping e1.
    bind_then _ _ y e1 λ seq e_seq e2.
    bind_then _ _ y e2 λ u1 e_split e3.
    bind_then _ _ y e3 λ u2 e_limit e4.
    let P : Sealed → Type 0 = λ y. IsAnswered x k o m y in
    subst P (ok_same {E = sending.Refusal} _ y e4) (record {
      document = refl;
      limits = none_ok _ _ u1 e_split;
      mapped = own-mapping o x m records node id mapping e_mapping;
      fits = seq-fits (keys node id records) _ seq (wanted_ok _ _ seq e_seq);
    })

-- the id of a message has 64 bits
pub id-fits : (o : Outgoing) (seq : ℕ) → seq < 2 ^ 32 → AnswersId o → message_id o seq < 2 ^ 64
id-fits Asks seq lt h = omega arith
id-fits (Replies to) seq lt h = h
