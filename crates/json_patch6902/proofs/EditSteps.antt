-- A change in place, one token further down.
use Rattle.std.proofs.Common.{◌≡◌, ℕ, zero, suc, ◌+◌, ◌<◌, List, [], ◌∷◌, length, slice_get, slice_set, Bool, true, false, Option, Some, None, Result, Ok, Err, Ordering, Less, Equal, Greater, refl, sym, ap, ◌∙◌, subst, arith}
use Rattle.std.specs.Prelude.{IfOk}
use Rattle.std.specs.Ordering.{match_ordering}
use Rattle.std.specs.List.{remove}
use Rattle.spec_documents.specs.Tree.{Tree, items, trees, members, Members, no_members, member, name_cmp, set_item, remove_item, get_member, set_member, drop_member}
use Rattle.spec_documents.specs.Place.{Pointer, Cause, no_place, bad_index, found, ◌>>=◌, is_index, index_number, child, at, put_child}
use Rattle.spec_documents.proofs.TreeLemmas.{found_ok}
use Rattle.spec_documents.proofs.FieldLemmas.{set_item-trees, remove_item-trees}
use Rattle.spec_documents.proofs.ApartLemmas.{set-same}
use Rattle.spec_documents.proofs.EditLemmas.{Edit, edit, taking, replacing}
use Rattle.n32_values.specs.declared.node.Node.{Node}
use Rattle.json_ptr.specs.Causes.{cause_of}
use Rattle.json_ptr.specs.declared.FindFault.{FindFault}
use Rattle.json_ptr.specs.declared.FindFault.TheVariants.{NoPlace, BadIndex}
use Rattle.json_patch6902.specs.Faults.{fault_for}
use Rattle.json_patch6902.specs.declared.fault.EditFault.{EditFault}
use Rattle.json_patch6902.specs.declared.fault.EditFault.TheVariants.{Cause as because, NoMemory}
use Rattle.json_patch6902.specs.declared.change.Change.{Change}
use Rattle.json_patch6902.specs.declared.change.Change.TheVariants.{Add, Take, Replace}
use Rattle.json_patch6902.specs.Edits.{Refuses, Edits, IsItemAt, Taken, TakenBy}
use Rattle.json_patch6902.proofs.NewPlaces.{item_child}
use Rattle.json_patch6902.proofs.PutBack.{put-same}

pub edit_down : (f : Edit) (x : List ℕ) (q : Pointer) (t : Tree) → 0 < length q → edit f (x ∷ q) t ≡ (child x t >>= λ c. edit f q c >>= λ d. Ok (put_child x d t))
edit_down f x [] t h = absurd (omega arith)
edit_down f x (y ∷ q) t h = refl

-- a change beneath a child, refused or not
pub edits_under : {A : Type 0} (f : Edit) (x : List ℕ) (q : Pointer) (t c d u : Tree) (r : Result A EditFault) → 0 < length q → child x t ≡ Ok c → put_child x d t ≡ u → Edits c d (edit f q c) r → Edits t u (edit f (x ∷ q) t) r
edits_under f x q t c d u (Ok z) some e is h = edit_down f x q t some ∙ rw (e, h) (ap Ok is)
edits_under f x q t c d u (Err (because why)) some e is h = (
  edit_down f x q t some ∙ rw (e, h.0) refl,
  sym is ∙ ap (λ s. put_child x s t) h.1 ∙ put-same x c t e,
)
edits_under f x q t c d u (Err NoMemory) some e is h = tt

pub nothing_under : (f : Edit) (x : List ℕ) (q : Pointer) (t : Tree) (why : Cause) → 0 < length q → child x t ≡ Err why → edit f (x ∷ q) t ≡ Err why
nothing_under f x q t why some e = edit_down f x q t some ∙ rw e refl

pub taken_under : (change : Change) (x : List ℕ) (q : Pointer) (t c : Tree) (o : Option Node) → child x t ≡ Ok c → TakenBy change q c o → TakenBy change (x ∷ q) t o
taken_under (Add v) x q t c o e h = tt
taken_under Take x q t c None e h = absurd h
taken_under Take x q t c (Some n) e h = rw e h
taken_under (Replace v) x q t c o e h = tt

pub refused_under : (f : Edit) (x : List ℕ) (q : Pointer) (t : Tree) (e : FindFault) → 0 < length q → child x t ≡ Err (cause_of e) → Refuses t t (edit f (x ∷ q) t) (fault_for e)
refused_under f x q t NoPlace some h = (nothing_under f x q t no_place some h, refl)
refused_under f x q t BadIndex some h = (nothing_under f x q t bad_index some h, refl)

-- ---- the last token

pub at_last : (x : List ℕ) (t u : Tree) → child x t ≡ Ok u → at t (x ∷ []) ≡ Ok u
at_last x t u e = rw e refl

pub empty_list : {X : Type 0} (xs : List X) → length xs ≡ 0 → xs ≡ []
empty_list [] e = refl
empty_list (x ∷ xs) e = absurd (omega arith)

pub ok_under : (change : Change) (x : List ℕ) (q : Pointer) (t c : Tree) (r : Result (Option Node) EditFault) → child x t ≡ Ok c → IfOk r (TakenBy change q c) → IfOk r (TakenBy change (x ∷ q) t)
ok_under change x q t c (Ok o) e h = taken_under change x q t c o e h
ok_under change x q t c (Err why) e h = h

-- ---- lists and objects

pub there_is : {X : Type 0} (xs : List X) (i : ℕ) → i < length xs → slice_get xs i ≡ None → ⊥
there_is [] i h e = absurd (omega arith)
there_is (x ∷ xs) zero h e = cc
there_is (x ∷ xs) (suc i) h e = there_is xs i (omega arith) e

pub put_item : (x : List ℕ) (ts : List Tree) (i : ℕ) (d : Tree) → IsItemAt x ts i → put_child x d (items (trees ts)) ≡ items (trees (slice_set ts i d))
put_item x ts i d h = ap items (ap (λ n. set_item n d (trees ts)) h.number ∙ set_item-trees i d ts)

pub taken_item : (x : List ℕ) (ts : List Tree) (i : ℕ) (u : Tree) → IsItemAt x ts i → slice_get ts i ≡ Some u → taking x (items (trees ts)) ≡ Ok (items (trees (remove ts i)))
taken_item x ts i u h there = rw (item_child x ts i u h there) (ap (λ us. Ok (items us)) (ap (λ n. remove_item n (trees ts)) h.number ∙ remove_item-trees i ts))

pub replaced_item : (x : List ℕ) (ts : List Tree) (i : ℕ) (u v : Tree) → IsItemAt x ts i → slice_get ts i ≡ Some u → replacing v x (items (trees ts)) ≡ Ok (items (trees (slice_set ts i v)))
replaced_item x ts i u v h there = rw (item_child x ts i u h there) (ap Ok (put_item x ts i v h))

drop_by : (o : Ordering) (l : List ℕ) (t : Tree) (m : Option Tree) (ms ns : Members) → match_ordering o m (Some t) m ≡ None → (m ≡ None → ns ≡ ms) → match_ordering o (member l t ns) ms (member l t ns) ≡ member l t ms
drop_by Less l t m ms ns e h = ap (member l t) (h e)
drop_by Equal l t m ms ns e h = cc
drop_by Greater l t m ms ns e h = ap (member l t) (h e)

-- a name that isn't there is dropped from nothing
pub drop_none : (k : List ℕ) (ms : Members) → get_member k ms ≡ None → drop_member k ms ≡ ms
drop_none k no_members e = refl
drop_none k (member l t ms) e = drop_by (name_cmp k l) l t (get_member k ms) ms (drop_member k ms) e (drop_none k ms)

pub taken_none : (x : List ℕ) (ms : Members) → get_member x ms ≡ None → taking x (members ms) ≡ Err no_place
taken_none x ms e = rw e refl

pub member_child : (x : List ℕ) (ms : Members) (u : Tree) → get_member x ms ≡ Some u → child x (members ms) ≡ Ok u
member_child x ms u e = ap (λ o. found o no_place) e

pub member_none : (x : List ℕ) (ms : Members) → get_member x ms ≡ None → child x (members ms) ≡ Err no_place
member_none x ms e = ap (λ o. found o no_place) e
