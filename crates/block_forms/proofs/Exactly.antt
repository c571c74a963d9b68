-- Objects of exactly these members, told by their number and their entries.
use Rattle.std.proofs.Common.{◌≡◌, ℕ, List, length, slice_get, Bool, true, false, ◌&&◌, Option, Some, None, option_map, refl, sym, ap, ap₂, subst, codes}
use Rattle.std.specs.Prelude.{bytes_eq, is_some}
use Rattle.std.proofs.lemmas.Slice.Eq.{bytes_eq-Decides}
use Rattle.spec_documents.specs.Tree.{Tree, null, truth, whole, words, items, members, Members, no_members, member, same_tree}
use Rattle.spec_documents.specs.Fields.{Field, field_list}
use Rattle.spec_documents.specs.Text.{is_header_name}
use Rattle.spec_documents.specs.Hole.{is_words}
use Rattle.spec_messages.specs.Message.{any_text, text_if}
use Rattle.spec_messages.specs.Block.{Meta, is_meta}
use Rattle.spec_messages.specs.Fault.{when, or_empty, is_header_node, is_item_node, is_value_node}
use Rattle.spec_messages.proofs.ItemFaults.{same_self}
use Rattle.block_forms.specs.Exact.{two_members, three_members}
use Rattle.block_forms.specs.Metadata.{meta_node_in}

pub two_found : (k l : List ℕ) (ms : Members) (a b : List ℕ) (t u : Tree) → length (field_list ms) ≡ 2 → slice_get (field_list ms) 0 ≡ Some (a, t) → slice_get (field_list ms) 1 ≡ Some (b, u) → two_members k l ms ≡ when (bytes_eq a k && bytes_eq b l) (t, u)
two_found k l no_members a b t u n e f = cc
two_found k l (member c v no_members) a b t u n e f = cc
two_found k l (member c v (member d w no_members)) a b t u n e f =
    let first : ◌≡◌ {A = Field} (c, v) (a, t) = cc in
    let second : ◌≡◌ {A = Field} (d, w) (b, u) = cc in
    ap₂ (λ x y. when (bytes_eq x.0 k && bytes_eq y.0 l) (x.1, y.1)) first second
two_found k l (member c v (member d w (member x y ms))) a b t u n e f = cc

pub two_else : (k l : List ℕ) (ms : Members) → (length (field_list ms) ≡ 2 → ⊥) → two_members k l ms ≡ None
two_else k l no_members n = refl
two_else k l (member c v no_members) n = refl
two_else k l (member c v (member d w no_members)) n = absurd (n refl)
two_else k l (member c v (member d w (member x y ms))) n = refl

pub three_found : (j k l : List ℕ) (ms : Members) (a b c : List ℕ) (t u v : Tree) → length (field_list ms) ≡ 3 → slice_get (field_list ms) 0 ≡ Some (a, t) → slice_get (field_list ms) 1 ≡ Some (b, u) → slice_get (field_list ms) 2 ≡ Some (c, v) → three_members j k l ms ≡ when (bytes_eq a j && (bytes_eq b k && bytes_eq c l)) (t, u, v)
three_found j k l no_members a b c t u v n e f g = cc
three_found j k l (member p x no_members) a b c t u v n e f g = cc
three_found j k l (member p x (member q y no_members)) a b c t u v n e f g = cc
three_found j k l (member p x (member q y (member r z no_members))) a b c t u v n e f g =
    let first : ◌≡◌ {A = Field} (p, x) (a, t) = cc in
    let second : ◌≡◌ {A = Field} (q, y) (b, u) = cc in
    let third : ◌≡◌ {A = Field} (r, z) (c, v) = cc in
    λ i. when (bytes_eq (first i).0 j && (bytes_eq (second i).0 k && bytes_eq (third i).0 l)) ((first i).1, (second i).1, (third i).1)
three_found j k l (member p x (member q y (member r z (member s w ms)))) a b c t u v n e f g = cc

pub three_else : (j k l : List ℕ) (ms : Members) → (length (field_list ms) ≡ 3 → ⊥) → three_members j k l ms ≡ None
three_else j k l no_members n = refl
three_else j k l (member p x no_members) n = refl
three_else j k l (member p x (member q y no_members)) n = refl
three_else j k l (member p x (member q y (member r z no_members))) n = absurd (n refl)
three_else j k l (member p x (member q y (member r z (member s w ms)))) n = refl

pub ruleset exactly = (two_found, two_else, three_found, three_else)

-- ---- a header and an item, by their members

abbrev pub header_pair : Option (Tree × Tree) → Bool
header_pair None = false
header_pair (Some p) = is_words is_header_name p.0 && is_value_node p.1

abbrev pub item_triple : Option (Tree × Tree × Tree) → Bool
item_triple None = false
item_triple (Some p) = is_words any_text p.0 && is_words (λ s. bytes_eq s (codes "BODY")) p.1

abbrev pub word : Tree → List ℕ
word t = or_empty (text_if any_text t)

abbrev pub meta_of_words : Tree → Tree → Tree → Meta
meta_of_words t u v = record { context = word v; message = word u; ipx = word t }

abbrev pub meta_triple : Option (Tree × Tree × Tree) → Option Meta
meta_triple None = None
meta_triple (Some p) = when ((is_words any_text p.0 && (is_words any_text p.1 && is_words any_text p.2)) && is_meta (meta_of_words p.0 p.1 p.2)) (meta_of_words p.0 p.1 p.2)

and_false : (x : Bool) → (x && false) ≡ false
and_false true = refl
and_false false = refl

is : (k l : List ℕ) → bytes_eq k l ≡ true → l ≡ k
is k l e = sym ((bytes_eq-Decides k l).0 e)

-- a node is the text that is read of it exactly where it is a text
text_again : (t : Tree) → same_tree t (words (or_empty (text_if any_text t))) ≡ is_words any_text t
text_again null = refl
text_again (truth b) = refl
text_again (whole z) = refl
text_again (words s) = same_self (words s)
text_again (items ts) = refl
text_again (members ms) = refl

name_again : (t : Tree) → (is_words any_text t && is_header_name (or_empty (text_if any_text t))) ≡ is_words is_header_name t
name_again null = refl
name_again (truth b) = refl
name_again (whole z) = refl
name_again (words s) = refl
name_again (items ts) = refl
name_again (members ms) = refl

regroup : (a b c d e : Bool) → (a && b) ≡ e → ((a && (true && true)) && (b && c)) ≡ (e && c)
regroup true b c d e p = ap (λ x. x && c) p
regroup false b c d e p = ap (λ x. x && c) p

header_here : (t u : Tree) → is_header_node (members (member (codes "header") t (member (codes "value") u no_members))) ≡ (is_words is_header_name t && is_value_node u)
header_here t u = rw (text_again t, same_self u) (regroup (is_words any_text t) (is_header_name (or_empty (text_if any_text t))) (is_value_node u) true (is_words is_header_name t) (name_again t))

two_headers : (a b : List ℕ) (t u : Tree) (x y : Bool) → bytes_eq a (codes "header") ≡ x → bytes_eq b (codes "value") ≡ y → is_header_node (members (member a t (member b u no_members))) ≡ header_pair (when (bytes_eq a (codes "header") && bytes_eq b (codes "value")) (t, u))
two_headers a b t u false y e f = rw e
two_headers a b t u true false e f = rw (e, f) (simp and_false)
two_headers a b t u true true e f =
    subst (λ k. is_header_node (members (member k t (member b u no_members))) ≡ header_pair (when (bytes_eq k (codes "header") && bytes_eq b (codes "value")) (t, u))) (is a (codes "header") e)
    (subst (λ l. is_header_node (members (member (codes "header") t (member l u no_members))) ≡ header_pair (when (bytes_eq l (codes "value")) (t, u))) (is b (codes "value") f)
    (header_here t u))

pub exact_header : (ms : Members) → is_header_node (members ms) ≡ header_pair (two_members (codes "header") (codes "value") ms)
exact_header no_members = refl
exact_header (member a t no_members) = simp and_false
exact_header (member a t (member b u no_members)) = two_headers a b t u _ _ refl refl
exact_header (member a t (member b u (member c v ms))) = simp and_false

words_are : (s : List ℕ) (t : Tree) → same_tree t (words s) ≡ is_words (λ r. bytes_eq r s) t
words_are s null = refl
words_are s (truth b) = refl
words_are s (whole z) = refl
words_are s (words r) = refl
words_are s (items ts) = refl
words_are s (members ms) = refl

and_true : (x : Bool) → (x && true) ≡ x
and_true true = refl
and_true false = refl

item_here : (t u v : Tree) → is_item_node (members (member (codes "iePath") t (member (codes "ieValueLocation") u (member (codes "value") v no_members)))) ≡ (is_words any_text t && is_words (λ s. bytes_eq s (codes "BODY")) u)
item_here t u v = rw (text_again t, words_are (codes "BODY") u, same_self v, and_true (is_words (λ s. bytes_eq s (codes "BODY")) u))

three_items : (a b c : List ℕ) (t u v : Tree) (x y z : Bool) → bytes_eq a (codes "iePath") ≡ x → bytes_eq b (codes "ieValueLocation") ≡ y → bytes_eq c (codes "value") ≡ z → is_item_node (members (member a t (member b u (member c v no_members)))) ≡ item_triple (when (bytes_eq a (codes "iePath") && (bytes_eq b (codes "ieValueLocation") && bytes_eq c (codes "value"))) (t, u, v))
three_items a b c t u v false y z e f g = rw e
three_items a b c t u v true false z e f g = rw (e, f) (simp and_false)
three_items a b c t u v true true false e f g = rw (e, f, g) (simp and_false)
three_items a b c t u v true true true e f g =
    subst (λ k. is_item_node (members (member k t (member b u (member c v no_members)))) ≡ item_triple (when (bytes_eq k (codes "iePath") && (bytes_eq b (codes "ieValueLocation") && bytes_eq c (codes "value"))) (t, u, v))) (is a (codes "iePath") e)
    (subst (λ k. is_item_node (members (member (codes "iePath") t (member k u (member c v no_members)))) ≡ item_triple (when (bytes_eq k (codes "ieValueLocation") && bytes_eq c (codes "value")) (t, u, v))) (is b (codes "ieValueLocation") f)
    (subst (λ k. is_item_node (members (member (codes "iePath") t (member (codes "ieValueLocation") u (member k v no_members)))) ≡ item_triple (when (bytes_eq k (codes "value")) (t, u, v))) (is c (codes "value") g)
    (item_here t u v)))

pub exact_item : (ms : Members) → is_item_node (members ms) ≡ item_triple (three_members (codes "iePath") (codes "ieValueLocation") (codes "value") ms)
exact_item no_members = refl
exact_item (member a t no_members) = simp and_false
exact_item (member a t (member b u no_members)) = simp and_false
exact_item (member a t (member b u (member c v no_members))) = three_items a b c t u v _ _ _ refl refl refl
exact_item (member a t (member b u (member c v (member d w ms)))) = simp and_false

-- ---- metadata, by its members

meta_here : (t u v : Tree) → meta_node_in (Some (members (member (codes "authorizedIpxId") t (member (codes "messageId") u (member (codes "n32fContextId") v no_members))))) ≡ meta_triple (Some (t, u, v))
meta_here t u v = rw (text_again t, text_again u, text_again v, and_true (is_words any_text v))

three_meta : (a b c : List ℕ) (t u v : Tree) (x y z : Bool) → bytes_eq a (codes "authorizedIpxId") ≡ x → bytes_eq b (codes "messageId") ≡ y → bytes_eq c (codes "n32fContextId") ≡ z → meta_node_in (Some (members (member a t (member b u (member c v no_members))))) ≡ meta_triple (when (bytes_eq a (codes "authorizedIpxId") && (bytes_eq b (codes "messageId") && bytes_eq c (codes "n32fContextId"))) (t, u, v))
three_meta a b c t u v false y z e f g = rw e
three_meta a b c t u v true false z e f g = rw (e, f) (simp and_false)
three_meta a b c t u v true true false e f g = rw (e, f, g) (simp and_false)
three_meta a b c t u v true true true e f g =
    subst (λ k. meta_node_in (Some (members (member k t (member b u (member c v no_members))))) ≡ meta_triple (when (bytes_eq k (codes "authorizedIpxId") && (bytes_eq b (codes "messageId") && bytes_eq c (codes "n32fContextId"))) (t, u, v))) (is a (codes "authorizedIpxId") e)
    (subst (λ k. meta_node_in (Some (members (member (codes "authorizedIpxId") t (member k u (member c v no_members))))) ≡ meta_triple (when (bytes_eq k (codes "messageId") && bytes_eq c (codes "n32fContextId")) (t, u, v))) (is b (codes "messageId") f)
    (subst (λ k. meta_node_in (Some (members (member (codes "authorizedIpxId") t (member (codes "messageId") u (member k v no_members))))) ≡ meta_triple (when (bytes_eq k (codes "n32fContextId")) (t, u, v))) (is c (codes "n32fContextId") g)
    (meta_here t u v)))

pub exact_meta : (ms : Members) → meta_node_in (Some (members ms)) ≡ meta_triple (three_members (codes "authorizedIpxId") (codes "messageId") (codes "n32fContextId") ms)
exact_meta no_members = refl
exact_meta (member a t no_members) = simp and_false
exact_meta (member a t (member b u no_members)) = simp and_false
exact_meta (member a t (member b u (member c v no_members))) = three_meta a b c t u v _ _ _ refl refl refl
exact_meta (member a t (member b u (member c v (member d w ms)))) = simp and_false

pub some_when : {X Y : Type 0} (f : X → Y) (o : Option X) (b : Bool) (y : Y) → option_map f o ≡ when b y → is_some o ≡ b
some_when f None true y e = cc
some_when f None false y e = refl
some_when f (Some x) true y e = refl
some_when f (Some x) false y e = cc
