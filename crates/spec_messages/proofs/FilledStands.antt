-- A filled block stands for the filled message.
use Rattle.std.proofs.Common.{◌≡◌, ℕ, zero, suc, List, [], ◌∷◌, true, ◌&&◌, Option, Some, None, option_map, Ok, refl, sym, ap, ◌∙◌, subst, codes}
use Rattle.std.proofs.lemmas.Bool.{and_parts}
use Rattle.std.specs.Prelude.{nat_le}
use Rattle.std.specs.List.{list_all}
use Rattle.spec_documents.specs.Tree.{Tree, get_member, is_ordered}
use Rattle.spec_documents.specs.Patch.{Op, edited}
use Rattle.spec_documents.specs.Hole.{value_at, fill, fill_lines, fill_all, fill_tree}
use Rattle.spec_messages.specs.Message.{Message, body_depth, head_of, headers_of}
use Rattle.spec_messages.specs.Policy.{Policy}
use Rattle.spec_messages.specs.Split.{fill_whole, head_has_texts, has_texts, filled}
use Rattle.spec_messages.specs.Block.{Block, block_tree, block_parts, Items, items_of, members_of, block_items, IsBody, is_apart, is_ordered_body, StandsFor, IsBlock}
use Rattle.spec_messages.specs.Entry.{Allowed, EntryApplied, edited_all}
use Rattle.spec_messages.specs.Changed.{Entries, ChainApplied, patched_along}
use Rattle.spec_messages.proofs.BlockLemmas.{headers-block, payload-block}
use Rattle.spec_messages.proofs.BlockFill.{fill_parts, fill-block}
use Rattle.spec_messages.proofs.BodyLemmas.{body-unique, body-grown}
use Rattle.spec_messages.proofs.BodyKept.{fill-ordered}
use Rattle.spec_messages.proofs.FillGrown.{filled_items, fill-body}
use Rattle.spec_messages.proofs.CommuteLemmas.{fill_all-block, allowed-commutes}
use Rattle.spec_messages.proofs.EntryLemmas.{guard_true, entry-filled}
use Rattle.spec_messages.proofs.ValuesStay.{guard, entry-block}
use Rattle.spec_messages.proofs.StartDepth.{chain-fills}
use Rattle.spec_messages.proofs.FilledStays.{filled-stays, filled-stays-entry, filled-stays-chain}
use Rattle.spec_messages.proofs.FilledLine.{filled_line, head_filled, fill_lines-block}
use Rattle.spec_messages.proofs.FilledParts.{headers_filled, items_filled, apart_filled}

-- the block b, filled
abbrev pub filled_block : List Tree → Block → Block
filled_block vs b = record (fill_parts vs b) { line = filled_line vs b.line }

block_filled : (vs : List Tree) (j : Tree) (n : ℕ) (c : Message) → (k : IsBlock j n c) → fill_all vs j ≡ block_tree (filled_block vs k.block)
block_filled vs j n c k =
    fill_all-block vs j n c k
    ∙ ap (λ t. fill_lines vs (fill vs t)) k.is
    ∙ ap (fill_lines vs) (fill-block vs k.block)
    ∙ fill_lines-block vs (fill_parts vs k.block)

-- the body of the filled items is the filled body
body_filled : (vs : List Tree) (is : Items) (o : Option Tree) → is_apart is ≡ true → is_ordered_body o ≡ true → IsBody is o → IsBody (filled_items vs is) (option_map (fill vs) o)
body_filled vs is o a d b =
    subst (IsBody (filled_items vs is))
    (fill-body vs is a ∙ ap (option_map (fill vs)) (sym (body-unique is o a d b)))
    (body-grown (filled_items vs is) (apart_filled vs is ∙ a))

pub filled_stands : (j : Tree) (n : ℕ) (c : Message) (vs : List Tree) → IsBlock j n c → has_texts vs c ≡ true → is_ordered_body (option_map (fill vs) c.body) ≡ true → StandsFor (fill_all vs j) (fill_whole vs c)
filled_stands j n c vs k h o =
    let t = and_parts (head_has_texts vs c.head) _ h in
    subst (λ t. StandsFor t (fill_whole vs c)) (sym (block_filled vs j n c k)) (record {
      head = head_filled vs k.block (filled_block vs k.block) c.head refl (ap (λ t. head_of block_parts (members_of t)) (sym k.is) ∙ k.stands.head) t.0;
      headers = ap (headers_of block_parts) (headers-block (filled_block vs k.block))
          ∙ headers_filled vs k.block.headers c.headers (ap (headers_of block_parts) (sym (headers-block k.block)) ∙ ap (λ t. headers_of block_parts (get_member (codes "headers") (members_of t))) (sym k.is) ∙ k.stands.headers) t.1;
      items = filled_items vs k.stands.items;
      items_are = ap items_of (payload-block (filled_block vs k.block))
          ∙ items_filled vs k.block.payload k.stands.items (ap items_of (sym (payload-block k.block)) ∙ ap block_items (sym k.is) ∙ k.stands.items_are);
      body = body_filled vs k.stands.items c.body k.apart k.stands.ordered k.stands.body;
      ordered = o;
    })

-- ---- where the fill is there

pub fill_parts_of : (c : Message) (vs : List Tree) (x : Message) → filled vs c ≡ Some x → (has_texts vs c ≡ true) × (fill_whole vs c ≡ x)
fill_parts_of c vs x e =
    let g = guard (has_texts vs c && nat_le (body_depth (fill_whole vs c).body) 64) (fill_whole vs c) x e in
    ((and_parts (has_texts vs c) _ g.0).0, g.1)

pub stands_here : (j : Tree) (n : ℕ) (c : Message) (vs : List Tree) (x : Message) → IsBlock j n c → filled vs c ≡ Some x → is_ordered_body x.body ≡ true → StandsFor (fill_all vs j) x
stands_here j n c vs x k e o =
    let g = fill_parts_of c vs x e in
    subst (StandsFor (fill_all vs j)) g.1 (filled_stands j n c vs k g.0 (ap (λ (m : Message). is_ordered_body m.body) g.1 ∙ o))

-- ---- where each value has its names in order

values_ordered : (vs : List Tree) → list_all is_ordered vs ≡ true → (n : ℕ) → is_ordered (value_at vs n) ≡ true
values_ordered [] e n = refl
values_ordered (v ∷ vs) e zero = (and_parts (is_ordered v) _ e).0
values_ordered (v ∷ vs) e (suc n) = values_ordered vs (and_parts (is_ordered v) _ e).1 n

filled_ordered : (vs : List Tree) (o : Option Tree) → list_all is_ordered vs ≡ true → is_ordered_body o ≡ true → is_ordered_body (option_map (fill vs) o) ≡ true
filled_ordered vs None h e = refl
filled_ordered vs (Some t) h e = fill-ordered vs (values_ordered vs h) t e

pub body_ordered : (j : Tree) (n : ℕ) (c : Message) (vs : List Tree) (x : Message) → IsBlock j n c → filled vs c ≡ Some x → list_all is_ordered vs ≡ true → is_ordered_body x.body ≡ true
body_ordered j n c vs x k e h =
    let g = fill_parts_of c vs x e in
    ap (λ (m : Message). is_ordered_body m.body) (sym g.1) ∙ filled_ordered vs c.body h k.stands.ordered

-- ---- along operations, entries and chains

pub stands_after : (n : ℕ) (w : Tree) (d : Message) (vs : List Tree) → IsBlock w n d → filled vs d ≡ Some (fill_whole vs d) → list_all is_ordered vs ≡ true → StandsFor (fill_all vs w) (fill_whole vs d)
stands_after n w d vs k e h = stands_here w n d vs (fill_whole vs d) k e (body_ordered w n d vs (fill_whole vs d) k e h)

chain_block : (pol : Policy) (k : Option ℕ) (n : ℕ) (es : Entries) (j : Tree) (c : Message) (w : Tree) (d : Message) → IsBlock j n c → ChainApplied pol k n j c es w d → IsBlock w n d
chain_block pol k n [] j c w d b h = subst (λ x. IsBlock w n x) h.1 (subst (λ t. IsBlock t n c) h.0 b)
chain_block pol k n (e ∷ es) j c w d b h = chain_block pol k n es h.0 h.1 w d (entry-block pol k e.0 n e.1 j c h.0 h.1 b h.2) h.3

pub operation_stands : (pol : Policy) (k : Option ℕ) (ipx : List ℕ) (n : ℕ) (j : Tree) (c : Message) (op : Op) (w : Tree) (d : Message) (vs : List Tree) (x : Message) → IsBlock j n c → Allowed pol k ipx n j c op w d → filled vs c ≡ Some x → list_all is_ordered vs ≡ true
    → (edited op (fill_all vs j) ≡ Ok (fill_all vs w)) × (filled vs d ≡ Some (fill_whole vs d)) × StandsFor (fill_all vs w) (fill_whole vs d)
operation_stands pol k ipx n j c op w d vs x b a e h =
    let f = filled-stays pol k ipx n j c op w d vs x b a e in
    (allowed-commutes pol k ipx n j c op w d vs b a, f, stands_after n w d vs a.block f h)

pub entry_stands : (pol : Policy) (k : Option ℕ) (ipx : List ℕ) (n : ℕ) (ops : List Op) (j : Tree) (c : Message) (w : Tree) (d : Message) (vs : List Tree) (x : Message) → IsBlock j n c → EntryApplied pol k ipx n j c ops w d → filled vs c ≡ Some x → list_all is_ordered vs ≡ true
    → (edited_all ops (fill_all vs j) ≡ Ok (fill_all vs w)) × (filled vs d ≡ Some (fill_whole vs d)) × StandsFor (fill_all vs w) (fill_whole vs d)
entry_stands pol k ipx n ops j c w d vs x b a e h =
    let f = filled-stays-entry pol k ipx n ops j c w d vs x b a e in
    (entry-filled pol k ipx n ops j c w d vs b a, f, stands_after n w d vs (entry-block pol k ipx n ops j c w d b a) f h)

pub chain_stands : (pol : Policy) (k : Option ℕ) (n : ℕ) (es : Entries) (j : Tree) (c : Message) (w : Tree) (d : Message) (vs : List Tree) (x : Message) (t : Tree) → IsBlock j n c → ChainApplied pol k n j c es w d → filled vs c ≡ Some x → fill_tree vs j ≡ Some t → list_all is_ordered vs ≡ true
    → (patched_along es t ≡ Ok (fill_all vs w)) × (fill_tree vs w ≡ Some (fill_all vs w)) × (filled vs d ≡ Some (fill_whole vs d)) × StandsFor (fill_all vs w) (fill_whole vs d)
chain_stands pol k n es j c w d vs x t b a e there h =
    let f = filled-stays-chain pol k n es j c w d vs x b a e in
    let r = chain-fills pol k n es j c w d vs x t b a e there in
    (r.0, r.1, f, stands_after n w d vs (chain_block pol k n es j c w d b a) f h)
