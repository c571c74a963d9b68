-- The stages that are taken together, within the checks of a document.
use Rattle.std.proofs.Common.{◌≡◌, ℕ, List, [], length, Bool, true, false, Option, Some, None, Result, Ok, Err, refl, ap, sym, subst, ◌∙◌}
use Rattle.std.specs.Prelude.{nat_le, not, unwrap_or}
use Rattle.spec_documents.specs.Tree.{Tree, is_ordered}
use Rattle.spec_documents.specs.Chain.{◌>>=◌}
use Rattle.spec_documents.specs.Gives.{Tells}
use Rattle.spec_documents.proofs.Chains.{bind_at, tells_on, tells_past}
use Rattle.spec_messages.specs.Message.{Kind, Message, wanted}
use Rattle.spec_messages.specs.Block.{IsBlock}
use Rattle.spec_messages.specs.Steps.{InOrder}
use Rattle.spec_messages.specs.Fault.{BlockFault}
use Rattle.spec_messages.specs.Rebuilt.{FillFault}
use Rattle.spec_messages.specs.Split.{fill_whole}
use Rattle.spec_messages.specs.Policy.{Policy}
use Rattle.spec_records.specs.Records.{Context, KeySet, Record, record_limit, open_context, keys}
use Rattle.spec_sealing.specs.Plaintext.{values_of}
use Rattle.spec_sealing.specs.Jwe.{Jwe}
use Rattle.spec_sealing.specs.Received.{Received, received}
use Rattle.context_store.specs.Changes.{with_room}
use Rattle.spec_exchange.specs.Chain.{unless, or_refused}
use Rattle.spec_exchange.specs.ReceivingRefusals as receiving
use Rattle.spec_exchange.specs.ReceivingRefusals.{Form, NoContext, NoReceiveKeys, Reconstruction, NoRoom}
use Rattle.spec_exchange.specs.Rebuilding.{no_values, no_block, no_fill, read_block, filled_with}
use Rattle.spec_exchange.specs.Stages as stages
use Rattle.spec_exchange.specs.Stages.{delivery_at, is_first, is_sealed, key_for, opens, has_room}
use Rattle.spec_exchange.specs.AcceptRefusals.{Refusal, Receiving, Screened}
use Rattle.spec_exchange.specs.Asked.{MappedBy, asked_for, mapping_by}
use Rattle.spec_exchange.specs.EntryChecks.{Verifying, entries_applied}
use Rattle.spec_exchange.specs.Screens.{Passes}
use Rattle.spec_exchange.specs.Accepting.{stage, formed, sealed_values, terms_of, is_passed, first_failed, first_failed_of}
use Rattle.spec_exchange.proofs.ChainLemmas.{bind_then, ok_same, wanted_ok}
use Rattle.spec_exchange.proofs.AcceptLemmas.{stage_ok}
use Rattle.receiving_sepp.specs.Groups.{keyed, first_asked, Unsealed, unsealed, Rebuilt, rebuilt_block, Revealed, revealed, outline_of, Opened, opened, changed_in, delivery_of, ending}
use Rattle.receiving_sepp.specs.Outcome.{IsOrdered}
use Rattle.receiving_sepp.specs.Refilling.{Stands}

-- ---- chains

-- a chain with another end
bind_on : {A B E : Type 0} (r : Result A E) (f g : A → Result B E) → ((a : A) → f a ≡ g a) → (r >>= f) ≡ (r >>= g)
unfolding ◌>>=◌
bind_on (Ok a) f g h = h a
bind_on (Err e) f g h = refl

-- parts of a chain, taken together
one : {A D Z E : Type 0} (first : Result A E) (made : A → D) (rest : D → Result Z E) → ((first >>= λ a. Ok (made a)) >>= rest) ≡ (first >>= λ a. rest (made a))
unfolding ◌>>=◌
one (Ok a) made rest = refl
one (Err e) made rest = refl

two : {A B D Z E : Type 0} (first : Result A E) (second : A → Result B E) (made : A → B → D) (rest : D → Result Z E) → ((first >>= λ a. second a >>= λ b. Ok (made a b)) >>= rest) ≡ (first >>= λ a. second a >>= λ b. rest (made a b))
unfolding ◌>>=◌
two (Ok a) second made rest = one (second a) (made a) rest
two (Err e) second made rest = refl

three : {A B C D Z E : Type 0} (first : Result A E) (second : A → Result B E) (third : A → B → Result C E) (made : A → B → C → D) (rest : D → Result Z E) → ((first >>= λ a. second a >>= λ b. third a b >>= λ c. Ok (made a b c)) >>= rest) ≡ (first >>= λ a. second a >>= λ b. third a b >>= λ c. rest (made a b c))
unfolding ◌>>=◌
three (Ok a) second third made rest = two (second a) (third a) (made a) rest
three (Err e) second third made rest = refl

apart : {A B Z E : Type 0} (first : Result A E) (second : A → Result B E) (rest : B → Result Z E) → ((first >>= second) >>= rest) ≡ (first >>= λ a. second a >>= rest)
unfolding ◌>>=◌
apart (Ok a) second rest = refl
apart (Err e) second rest = refl

-- ---- context and keys

by_keys : (x : Option Context) (k : Option KeySet) → (stage (wanted x NoContext) >>= λ c. stage (wanted k NoReceiveKeys) >>= λ s. let r : Result stages.KeyedContext Refusal = Ok (record { context = c; key_set = s }) in r)
    ≡ stage (wanted x NoContext >>= λ c. wanted k NoReceiveKeys >>= λ s. let r : Result stages.KeyedContext receiving.Refusal = Ok (record { context = c; key_set = s }) in r)
unfolding ◌>>=◌
by_keys None k = refl
by_keys (Some x) None = refl
by_keys (Some x) (Some k) = refl

keyed-is : (records : List Record) (node : List ℕ) (id : ℕ) → keyed records node id ≡ stage (stages.keyed_context records node id)
keyed-is records node id = by_keys (open_context node id records) (keys node id records)

-- ---- a rebuilt message

abbrev with_block : Tree → List Tree → stages.Rebuilt → Rebuilt
with_block block vs m = record { block = block; values = vs; holed = m.holed; content = m.content }

abbrev unfilled : FillFault → receiving.Refusal
unfilled why = Reconstruction (no_fill why)

abbrev unread : BlockFault → receiving.Refusal
unread why = Reconstruction (no_block why)

module _ {Z : Type 0} (block : Tree) (rest : Rebuilt → Result Z Refusal) (then : stages.Rebuilt → Result Z Refusal) where
  by_fill : (vs : List Tree) (holed : Message) (r : Result Message FillFault) → ((m : stages.Rebuilt) → rest (with_block block vs m) ≡ then m)
      → ((stage (or_refused unfilled r) >>= λ content. let x : Result Rebuilt Refusal = Ok (record { block = block; values = vs; holed = holed; content = content }) in x) >>= rest)
      ≡ (stage (or_refused unfilled r >>= λ content. let x : Result stages.Rebuilt receiving.Refusal = Ok (record { holed = holed; content = content }) in x) >>= then)
  unfolding ◌>>=◌
  by_fill vs holed (Ok content) h = h (record { holed = holed; content = content })
  by_fill vs holed (Err why) h = refl

  by_block : (vs : List Tree) (r : Result Message BlockFault) → ((m : stages.Rebuilt) → rest (with_block block vs m) ≡ then m)
      → ((stage (or_refused unread r) >>= λ holed. stage (or_refused unfilled (filled_with vs holed)) >>= λ content. let x : Result Rebuilt Refusal = Ok (record { block = block; values = vs; holed = holed; content = content }) in x) >>= rest)
      ≡ (stage (or_refused unread r >>= λ holed. or_refused unfilled (filled_with vs holed) >>= λ content. let x : Result stages.Rebuilt receiving.Refusal = Ok (record { holed = holed; content = content }) in x) >>= then)
  unfolding ◌>>=◌
  by_block vs (Ok holed) h = by_fill vs holed (filled_with vs holed) h
  by_block vs (Err why) h = refl

  by_values : (o : Option (List Tree)) → ((m : stages.Rebuilt) → rest (with_block block (unwrap_or o []) m) ≡ then m)
      → ((stage (wanted o (Reconstruction no_values)) >>= λ vs. stage (or_refused unread (read_block block (length vs))) >>= λ holed. stage (or_refused unfilled (filled_with vs holed)) >>= λ content. let x : Result Rebuilt Refusal = Ok (record { block = block; values = vs; holed = holed; content = content }) in x) >>= rest)
      ≡ (stage (wanted o (Reconstruction no_values) >>= λ vs. or_refused unread (read_block block (length vs)) >>= λ holed. or_refused unfilled (filled_with vs holed) >>= λ content. let x : Result stages.Rebuilt receiving.Refusal = Ok (record { holed = holed; content = content }) in x) >>= then)
  unfolding ◌>>=◌
  by_values (Some vs) h = by_block vs (read_block block (length vs)) h
  by_values None h = refl

  rebuilt-is : (plain : List ℕ) → ((m : stages.Rebuilt) → rest (with_block block (sealed_values plain) m) ≡ then m) → (rebuilt_block block plain >>= rest) ≡ (stage (stages.rebuilt block plain) >>= then)
  rebuilt-is plain h = by_values (values_of plain) h

-- ---- rebuilt, and nothing secret in clear

messages : Rebuilt → stages.Rebuilt
messages m = record { holed = m.holed; content = m.content }

shown : MappedBy → Policy → Rebuilt → Revealed
shown by policy m = record { rebuilt = m; mapping = mapping_by by policy m.content }

module _ (policy : Policy) (by : MappedBy) (block : Tree) (plain : List ℕ) (m : Rebuilt) (made : rebuilt_block block plain ≡ Ok m) (mapping : Option ℕ) (mapped : mapping ≡ mapping_by by policy m.content) where
  pub sealing_refused : (told : Option Refusal) → Tells told (stage (is_sealed policy mapping (record { holed = m.holed; content = m.content }))) → Tells told (revealed policy by block plain)
  unfolding ◌>>=◌ messages shown
  sealing_refused told h =
      let here : Tells told (stage (is_sealed policy (mapping_by by policy m.content) (messages m))) = subst (λ k. Tells told (stage (is_sealed policy k (messages m)))) mapped h in
      tells_past told (rebuilt_block block plain) (λ x. stage (is_sealed policy (mapping_by by policy x.content) (messages x)) >>= λ _. Ok (shown by policy x)) m made
      (tells_on told (stage (is_sealed policy (mapping_by by policy m.content) (messages m))) (λ _. Ok (shown by policy m)) here)

  pub nothing_clear : stage (is_sealed policy mapping (record { holed = m.holed; content = m.content })) ≡ Ok tt → revealed policy by block plain ≡ Ok (record { rebuilt = m; mapping = mapping })
  unfolding ◌>>=◌ messages shown
  nothing_clear h =
      let here : stage (is_sealed policy (mapping_by by policy m.content) (messages m)) ≡ Ok tt = subst (λ k. stage (is_sealed policy k (messages m)) ≡ Ok tt) mapped h in
      subst (λ k. revealed policy by block plain ≡ Ok (record { rebuilt = m; mapping = k })) (sym mapped)
      (bind_at (rebuilt_block block plain) (λ x. stage (is_sealed policy (mapping_by by policy x.content) (messages x)) >>= λ _. Ok (shown by policy x)) m made
      ∙ bind_at (stage (is_sealed policy (mapping_by by policy m.content) (messages m))) (λ _. Ok (shown by policy m)) tt here)

-- ---- room for the record

by_room : {X : Type 0} (full : Bool) (x : X) → (unless full (Receiving NoRoom) >>= λ _. let r : Result X Refusal = Ok x in r) ≡ (stage (unless full NoRoom) >>= λ _. Ok x)
unfolding ◌>>=◌
by_room true x = refl
by_room false x = refl

-- ---- all stages

module _ (passes : Passes) (v : Verifying) (records : List Record) (node : List ℕ) where
  -- what follows the entries
  after_entries : (d : Received) (x : Context) (mapping : Option ℕ) (content : Message) → (is_passed passes x content >>= λ _. with_room (Receiving NoRoom) records (delivery_at node d mapping content))
      ≡ (is_passed passes x content >>= λ _. stage (has_room records) >>= λ _. Ok (delivery_at node d mapping content))
  after_entries d x mapping content = bind_on (is_passed passes x content) _ _ λ u. by_room (nat_le record_limit (length records)) (delivery_at node d mapping content)

  -- what follows the rebuilt message
  after_rebuilt : (d : Received) (x : Context) (by : MappedBy) (plain : List ℕ) (m : stages.Rebuilt)
      → (stage (is_sealed x.policy (mapping_by by x.policy m.content) m) >>= λ _. ending passes v records node (record { context = x; outline = outline_of d; revealed = record { rebuilt = with_block d.block (sealed_values plain) m; mapping = mapping_by by x.policy m.content } }))
      ≡ (stage (is_sealed x.policy (mapping_by by x.policy m.content) m) >>= λ _. entries_applied (terms_of x d (mapping_by by x.policy m.content) (sealed_values plain)) v d.block m.holed d.entries >>= λ p.
      is_passed passes x (fill_whole (sealed_values plain) p.holed) >>= λ _. stage (has_room records) >>= λ _. Ok (delivery_at node d (mapping_by by x.policy m.content) (fill_whole (sealed_values plain) p.holed)))
  after_rebuilt d x by plain m =
      bind_on (stage (is_sealed x.policy (mapping_by by x.policy m.content) m)) _ _ λ u.
      one (entries_applied (terms_of x d (mapping_by by x.policy m.content) (sealed_values plain)) v d.block m.holed d.entries) (λ p. fill_whole (sealed_values plain) p.holed)
      (λ content. is_passed passes x content >>= λ _. with_room (Receiving NoRoom) records (delivery_at node d (mapping_by by x.policy m.content) content))
      ∙ bind_on (entries_applied (terms_of x d (mapping_by by x.policy m.content) (sealed_values plain)) v d.block m.holed d.entries) _ _ λ p.
      after_entries d x (mapping_by by x.policy m.content) (fill_whole (sealed_values plain) p.holed)

  of_form : (d : Received) → (unsealed records node d.context d.kind d.message d.jwe >>= λ u. revealed u.context.policy u.by d.block u.plain >>= λ x. ending passes v records node (record { context = u.context; outline = outline_of d; revealed = x }))
      ≡ first_failed_of passes v records node d
  of_form d =
      three (keyed records node d.context) (λ c. stage (opens (key_for d.kind c) d.jwe)) (λ c plain. first_asked records node d.context d.kind d.message)
      (λ c plain by. let u : Unsealed = record { context = c.context; plain = plain; by = by } in u)
      (λ u. revealed u.context.policy u.by d.block u.plain >>= λ x. ending passes v records node (record { context = u.context; outline = outline_of d; revealed = x }))
      ∙ (ap (λ (r : Result stages.KeyedContext Refusal). r >>= λ c. stage (opens (key_for d.kind c) d.jwe) >>= λ plain. first_asked records node d.context d.kind d.message >>= λ by.
      revealed c.context.policy by d.block plain >>= λ x. ending passes v records node (record { context = c.context; outline = outline_of d; revealed = x })) (keyed-is records node d.context)
      ∙ bind_on (stage (stages.keyed_context records node d.context)) _ _ λ c.
      bind_on (stage (opens (key_for d.kind c) d.jwe)) _ _ λ plain.
      apart (stage (is_first records node d.context d.kind d.message)) (λ _. asked_for records node d.context d.kind d.message)
      (λ by. revealed c.context.policy by d.block plain >>= λ x. ending passes v records node (record { context = c.context; outline = outline_of d; revealed = x }))
      ∙ bind_on (stage (is_first records node d.context d.kind d.message)) _ _ λ u3.
      bind_on (asked_for records node d.context d.kind d.message) _ _ λ by.
      two (rebuilt_block d.block plain) (λ m. stage (is_sealed c.context.policy (mapping_by by c.context.policy m.content) (record { holed = m.holed; content = m.content })))
      (λ m u. let x : Revealed = record { rebuilt = m; mapping = mapping_by by c.context.policy m.content } in x)
      (λ x. ending passes v records node (record { context = c.context; outline = outline_of d; revealed = x }))
      ∙ rebuilt-is d.block _ _ plain λ m. after_rebuilt d c.context by plain m)

  pub grouped : (t : Tree) → (opened records node t >>= ending passes v records node) ≡ first_failed passes v records node t
  grouped t =
      three (formed t) (λ d. unsealed records node d.context d.kind d.message d.jwe) (λ d u. revealed u.context.policy u.by d.block u.plain)
      (λ d u x. let o : Opened = record { context = u.context; outline = outline_of d; revealed = x } in o) (ending passes v records node)
      ∙ bind_on (formed t) _ _ λ d. of_form d

  module _ (t : Tree) where
    pub opening_refused : (told : Option Refusal) → Tells told (opened records node t) → Tells told (first_failed passes v records node t)
    opening_refused told h = subst (λ r. Tells told r) (grouped t) (tells_on told (opened records node t) (ending passes v records node) h)

    module _ (o : Opened) (is : opened records node t ≡ Ok o) where
      within : first_failed passes v records node t ≡ ending passes v records node o
      within = sym (grouped t) ∙ bind_at (opened records node t) (ending passes v records node) o is

      pub changing_refused : (told : Option Refusal) → Tells told (changed_in o.context o.outline o.revealed v) → Tells told (first_failed passes v records node t)
      changing_refused told h = subst (λ r. Tells told r) (sym within) (tells_on told (changed_in o.context o.outline o.revealed v) _ h)

      module _ (content : Message) (made : changed_in o.context o.outline o.revealed v ≡ Ok content) where
        screened_is : first_failed passes v records node t ≡ (is_passed passes o.context content >>= λ _. with_room (Receiving NoRoom) records (delivery_of node o.outline o.revealed.mapping content))
        screened_is = within ∙ bind_at (changed_in o.context o.outline o.revealed v) _ content made

        pub screen_refused : (told : Option Refusal) → Tells told (is_passed passes o.context content) → Tells told (first_failed passes v records node t)
        screen_refused told h = subst (λ r. Tells told r) (sym screened_is) (tells_on told (is_passed passes o.context content) _ h)

        pub all_pass : is_passed passes o.context content ≡ Ok tt → first_failed passes v records node t ≡ with_room (Receiving NoRoom) records (delivery_of node o.outline o.revealed.mapping content)
        all_pass h = screened_is ∙ bind_at (is_passed passes o.context content) _ tt h

-- ---- entries

-- the entries of a document of the form are those that are read of it
form_is : (r : Result Received (List ℕ)) (d w : Received) → r ≡ Ok d → stage (or_refused Form r) ≡ Ok w → d ≡ w
form_is (Ok x) d w is form = cc
form_is (Err m) d w is form = cc

pub same_parts : (t : Tree) (d w : Received) → received t ≡ Ok d → formed t ≡ Ok w → d ≡ w
same_parts t d w is form = form_is (received t) d w is form

-- so those of an opened document are none where the document has none
pub opened_none : (records : List Record) (node : List ℕ) (t : Tree) (o : Opened) → opened records node t ≡ Ok o → (d : Received) → received t ≡ Ok d → d.entries ≡ [] → o.outline.entries ≡ []
opened_none records node t o e d is none =
    bind_then _ _ o e λ w e_form e1.
    bind_then _ _ o e1 λ u e_unsealed e2.
    bind_then _ _ o e2 λ x e_revealed e3.
    let P : Opened → Type 0 = λ o. o.outline.entries ≡ [] in
    subst P (ok_same {E = Refusal} _ o e3) (subst (λ (z : Received). z.entries ≡ []) (same_parts t d w is e_form) none)

-- ---- order

-- what is unsealed was opened with the keys of the context
unsealed_parts : (records : List Record) (node : List ℕ) (id : ℕ) (kind : Kind) (message : ℕ) (w : Jwe) (u : Unsealed) → unsealed records node id kind message w ≡ Ok u
    → (k : stages.KeyedContext) × (stages.keyed_context records node id ≡ Ok k) × (opens (key_for kind k) w ≡ Ok u.plain)
unsealed_parts records node id kind message w u e =
    bind_then _ _ u e λ k e_keyed e1.
    bind_then _ _ u e1 λ plain e_open e2.
    bind_then _ _ u e2 λ by e_by e3.
    let same = ok_same {E = Refusal} _ u e3 in
    let P : Unsealed → Type 0 = λ z. opens (key_for kind k) w ≡ Ok z.plain in
    (k, stage_ok (stages.keyed_context records node id) k (sym (keyed-is records node id) ∙ e_keyed), subst P same (stage_ok (opens (key_for kind k) w) plain e_open))

listed_values : (plain : List ℕ) (vs : List Tree) → values_of plain ≡ Some vs → sealed_values plain ≡ vs
listed_values plain vs e = ap (λ (o : Option (List Tree)). unwrap_or o []) e

-- the block and the values of what is rebuilt
rebuilt_parts : (block : Tree) (plain : List ℕ) (m : Rebuilt) → rebuilt_block block plain ≡ Ok m → (m.block ≡ block) × (m.values ≡ sealed_values plain)
rebuilt_parts block plain m e =
    bind_then _ _ m e λ vs e_values e1.
    bind_then _ _ m e1 λ holed e_block e2.
    bind_then _ _ m e2 λ content e_fill e3.
    let same = ok_same {E = Refusal} _ m e3 in
    let values = wanted_ok (values_of plain) (Reconstruction no_values) vs (stage_ok (wanted (values_of plain) (Reconstruction no_values)) vs e_values) in
    (sym (ap (λ (z : Rebuilt). z.block) same), sym (ap (λ (z : Rebuilt). z.values) same) ∙ sym (listed_values plain vs values))

revealed_parts : (policy : Policy) (by : MappedBy) (block : Tree) (plain : List ℕ) (x : Revealed) → revealed policy by block plain ≡ Ok x → (x.rebuilt.block ≡ block) × (x.rebuilt.values ≡ sealed_values plain)
revealed_parts policy by block plain x e =
    bind_then _ _ x e λ m e_rebuilt e1.
    bind_then _ _ x e1 λ u e_sealed e2.
    let same = ok_same {E = Refusal} _ x e2 in
    let p = rebuilt_parts block plain m e_rebuilt in
    (sym (ap (λ (z : Revealed). z.rebuilt.block) same) ∙ p.0, sym (ap (λ (z : Revealed). z.rebuilt.values) same) ∙ p.1)

same_ok : {A E : Type 0} (r : Result A E) (x y : A) → r ≡ Ok x → r ≡ Ok y → x ≡ y
same_ok {A} {E} r x y e f = ok_same {E = E} x y (sym e ∙ f)

-- a document that is opened has its names in order
pub opened_ordered : ((j : Tree) (n : ℕ) (c : Message) → IsBlock j n c → is_ordered j ≡ true) → (records : List Record) (node : List ℕ) (t : Tree) (o : Opened) → opened records node t ≡ Ok o → Stands o.revealed.rebuilt → IsOrdered records node t
opened_ordered law records node t o e stands =
    bind_then _ _ o e λ w e_form e1.
    bind_then _ _ o e1 λ u e_unsealed e2.
    bind_then _ _ o e2 λ x e_revealed e3.
    let same : x ≡ o.revealed = ap (λ (z : Opened). z.revealed) (ok_same {E = Refusal} _ o e3) in
    let here : Stands x.rebuilt = subst (λ (z : Revealed). Stands z.rebuilt) (sym same) stands in
    let p = revealed_parts u.context.policy u.by w.block u.plain x e_revealed in
    let q = unsealed_parts records node w.context w.kind w.message w.jwe u e_unsealed in
    let block : is_ordered w.block ≡ true = subst (λ (j : Tree). is_ordered j ≡ true) p.0 (law x.rebuilt.block (length x.rebuilt.values) x.rebuilt.holed here.block) in
    let values : InOrder (sealed_values u.plain) = subst InOrder p.1 here.ordered in
    record {
      block = λ d is. subst (λ (z : Received). is_ordered z.block ≡ true) (sym (same_parts t d w is e_form)) block;
      values = λ d k plain is has opened_by. by_plain w u q values d k plain (same_parts t d w is e_form) has opened_by;
    }
  where
    by_plain : (w : Received) (u : Unsealed) → ((k : stages.KeyedContext) × (stages.keyed_context records node w.context ≡ Ok k) × (opens (key_for w.kind k) w.jwe ≡ Ok u.plain)) → InOrder (sealed_values u.plain)
        → (d : Received) (k : stages.KeyedContext) (plain : List ℕ) → d ≡ w → stages.keyed_context records node d.context ≡ Ok k → opens (key_for d.kind k) d.jwe ≡ Ok plain → InOrder (sealed_values plain)
    by_plain w u q values d k plain is has opened_by =
        let there : stages.keyed_context records node w.context ≡ Ok k = subst (λ (z : Received). stages.keyed_context records node z.context ≡ Ok k) is has in
        let keys_are : k ≡ q.0 = same_ok (stages.keyed_context records node w.context) k q.0 there q.1 in
        let same_plain : opens (key_for w.kind k) w.jwe ≡ Ok plain = subst (λ (z : Received). opens (key_for z.kind k) z.jwe ≡ Ok plain) is opened_by in
        let plain_is : plain ≡ u.plain = same_ok (opens (key_for w.kind k) w.jwe) plain u.plain same_plain (subst (λ (z : stages.KeyedContext). opens (key_for w.kind z) w.jwe ≡ Ok u.plain) (sym keys_are) q.2) in
        subst (λ (ps : List ℕ). InOrder (sealed_values ps)) (sym plain_is) values

-- ---- the screen

pub not_passed : (passes : Passes) (x : Context) (m : Message) → passes m x.plmn ≡ false → is_passed passes x m ≡ Err Screened
not_passed passes x m e = ap (λ b. unless (not b) Screened) e
