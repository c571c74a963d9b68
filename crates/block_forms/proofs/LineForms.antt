-- A line that is written again, and one that is read.
use Rattle.std.proofs.Common.{◌≡◌, ℕ, List, Bool, Option, Some, None, Result, Ok, Err, refl, sym, ◌∙◌, ap, codes, IsTrue, ◌↔◌, true, false}
use Rattle.std.specs.Prelude.{is_ok}
use Rattle.spec_documents.specs.Tree.{Tree, same_tree, words, no_members, member}
use Rattle.spec_messages.specs.Block.{with_query}
use Rattle.http_message.specs.Kept.{ok_map}
use Rattle.spec_documents.proofs.SameTree.{same_tree-is}
use Rattle.spec_messages.proofs.ItemFaults.{same_self}
use Rattle.block_forms.specs.Lines.{put_query}

pub query_put : (a m p v s : List ℕ) (o : Option (List ℕ)) →
    put_query o (member (codes "authority") (words a) (member (codes "method") (words m) (member (codes "path") (words p) (member (codes "protocolVersion") (words v) (member (codes "scheme") (words s) no_members)))))
    ≡ member (codes "authority") (words a) (member (codes "method") (words m) (member (codes "path") (words p) (member (codes "protocolVersion") (words v) (with_query o (member (codes "scheme") (words s) no_members)))))
query_put a m p v s None = refl
query_put a m p v s (Some q) = refl

pub same_ok : {A B E : Type 0} (f : A → B) (r : Result A E) → is_ok (ok_map f r) ≡ is_ok r
same_ok f (Ok x) = refl
same_ok f (Err e) = refl

-- the test of two nodes is the test of their trees
pub same_told : (b : Bool) (t u : Tree) → (IsTrue b ↔ (t ≡ u)) → b ≡ same_tree t u
same_told b t u h = by b (same_tree t u) refl h
  where
    by : (b s : Bool) → s ≡ same_tree t u → (IsTrue b ↔ (t ≡ u)) → b ≡ s
    by true true e h = refl
    by false false e h = refl
    by false true e h = h.1 (same_tree-is t u (sym e))
    by true false e h = let w : same_tree t u ≡ true = ap (same_tree t) (sym (h.0 refl)) ∙ same_self t in cc
