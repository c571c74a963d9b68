-- A block is read where its document and its `metaData` are.
use Rattle.std.proofs.Common.{◌≡◌, ℕ, List, Bool, true, false, Option, Some, None, Ok, Err, refl, sym, ap, subst, cond, codes, ◌∙◌}
use Rattle.std.specs.Prelude.{option_and_then, ◌&&◌}
use Rattle.std.proofs.lemmas.Bool.{and_parts}
use Rattle.spec_documents.specs.Tree.{Tree, get_member, same_tree}
use Rattle.spec_documents.specs.Gives.{Tells}
use Rattle.spec_messages.specs.Message.{wanted}
use Rattle.spec_messages.specs.Block.{Meta, is_meta, is_object, members_of, meta_tree}
use Rattle.spec_messages.specs.Fault.{is_meta_node, meta_of, or_null, when}
use Rattle.spec_sealing.specs.Received.{if_has_meta, metadata_of}
use Rattle.block_forms.specs.Metadata.{meta_in}

there : {X E : Type 0} (o : Option X) (e : E) (x : X) → wanted o e ≡ Ok x → o ≡ Some x
there None e x h = cc
there (Some y) e x h = cc

tested : {X : Type 0} (b : Bool) (x y : X) → when b x ≡ Some y → (b ≡ true) × (x ≡ y)
tested true x y e = (refl, cc)
tested false x y e = cc

node_meta : (o : Option Tree) → is_meta_node o ≡ true → is_meta (meta_of (members_of (or_null o))) ≡ true
node_meta None e = cc
node_meta (Some t) e = (and_parts (same_tree t (meta_tree (meta_of (members_of t)))) (is_meta (meta_of (members_of t))) e).1

by_test : (told : Option (List ℕ)) (b : Bool) (j : Tree) (m : Meta) → Tells told (wanted (when b m) (codes "aad")) → Tells told (wanted (cond b (Some j) None) (codes "aad"))
by_test None b j m h = tt
by_test (Some name) true j m h = cc
by_test (Some name) false j m h = let same : codes "aad" ≡ name = cc in ap (λ z. Err z) same

-- what is read of a block whose document is j
module _ (o : Option Tree) (j : Tree) (is : wanted o (codes "aad") ≡ Ok j) where
  pub block_refused : (told : Option (List ℕ)) → Tells told (wanted (meta_in j) (codes "aad")) → Tells told (wanted (option_and_then if_has_meta o) (codes "aad"))
  block_refused told h =
      subst (λ p. Tells told (wanted (option_and_then if_has_meta p) (codes "aad"))) (sym (there o (codes "aad") j is))
      (by_test told (is_object j && is_meta_node (get_member (codes "metaData") (members_of j))) j (metadata_of j) h)

  module _ (m : Meta) (read : wanted (meta_in j) (codes "aad") ≡ Ok m) where
    parts : (is_object j && is_meta_node (get_member (codes "metaData") (members_of j)) ≡ true) × (metadata_of j ≡ m)
    parts = tested (is_object j && is_meta_node (get_member (codes "metaData") (members_of j))) (metadata_of j) m (there (meta_in j) (codes "aad") m read)

    pub block_read : wanted (option_and_then if_has_meta o) (codes "aad") ≡ Ok j
    block_read =
        ap (λ p. wanted (option_and_then if_has_meta p) (codes "aad")) (there o (codes "aad") j is)
        ∙ ap (λ b. wanted (cond b (Some j) None) (codes "aad")) parts.0

    pub meta_read : metadata_of j ≡ m
    meta_read = parts.1

    pub in_grammar : is_meta m ≡ true
    in_grammar =
        let node : is_meta_node (get_member (codes "metaData") (members_of j)) ≡ true = (and_parts (is_object j) (is_meta_node (get_member (codes "metaData") (members_of j))) parts.0).1 in
        subst (λ z. is_meta z ≡ true) parts.1 (node_meta (get_member (codes "metaData") (members_of j)) node)
