-- Operations are read in two steps: whether they are none, and whether they are a patch. They are taken out of a payload, which keeps its `tag`.
use Rattle.std.proofs.Common.{◌≡◌, ℕ, suc, ◌≤◌, List, [], ◌∷◌, length, nat_eq, Some, None, refl, sym, ap, ◌∙◌, cond, codes, arith}
use Rattle.std.proofs.lemmas.Bool.{ne_eqb}
use Rattle.spec_documents.specs.Tree.{Tree, null, truth, whole, words, items, members, no_items, item, trees, Members, get_member, drop_member, depth, members_depth}
use Rattle.spec_documents.proofs.TreeLemmas.{get_drop_other, got_low}
use Rattle.spec_documents.specs.Operations.{ops_of}
use Rattle.spec_sealing.specs.Entries.{if_patch, operations_in}
use Rattle.jws_flat.specs.View.{changes_nothing}

pub operations_read : (t : Tree) → operations_in (Some t) ≡ cond (changes_nothing t) (Some None) (if_patch t (ops_of t))
operations_read null = refl
operations_read (truth b) = refl
operations_read (whole z) = refl
operations_read (words s) = refl
operations_read (items no_items) = refl
operations_read (items (item t ts)) = refl
operations_read (members ms) = refl

pub empty_list : (xs : List Tree) (n : ℕ) → n ≡ length xs → nat_eq n 0 ≡ changes_nothing (items (trees xs))
empty_list [] n e = ap (λ m. nat_eq m 0) e
empty_list (x ∷ xs) n e = ap (λ m. nat_eq m 0) e ∙ ne_eqb (length (x ∷ xs)) 0 (λ none. omega arith)

pub tag_stays : (ms : Members) → get_member (codes "tag") (drop_member (codes "operations") ms) ≡ get_member (codes "tag") ms
tag_stays ms = get_drop_other (codes "tag") (codes "operations") ms (λ e. cc)

pub taken_shallow : (k : List ℕ) (u : Tree) (ms : Members) → Some u ≡ get_member k ms → depth (members ms) ≤ 127 → depth u ≤ 127
taken_shallow k u ms e h = let low : depth u ≤ members_depth ms = got_low k u ms (sym e) in omega (arith, h)
