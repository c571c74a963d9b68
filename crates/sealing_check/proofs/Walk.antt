-- The first secret node in clear, by the walk over both bodies.
use Rattle.std.proofs.Common.{◌≡◌, ℕ, suc, ◌+◌, List, [], ◌∷◌, ◌++◌, map, drop, slice_get, ap₂, arith, Option, Some, None, Result, Ok, Err, Bool, true, false, not, ◌||◌, refl, sym, ap, ◌∙◌, append_assoc, if◌then◌else◌}
use Rattle.spec_documents.specs.Tree.{Tree, null, truth, whole, words, items, members, Trees, no_items, item, Members, no_members, member, trees}
use Rattle.spec_documents.specs.Fields.{Field, fields}
use Rattle.n32_values.proofs.Trees.{drop_at}
use Rattle.spec_documents.specs.Place.{Pointer, Cause, child, at, if_ok, ◌>>=◌}
use Rattle.spec_documents.specs.Text.{index_text}
use Rattle.spec_documents.specs.Hole.{is_marked, goes_into}
use Rattle.spec_messages.specs.Policy.{outermost, outermost_items, outermost_members, result_ok}
use Rattle.spec_exchange.specs.Rebuilding.{first_that, is_body_hole}
use Rattle.sealing_check.specs.Found.{or_else, child_of, is_marked_there, here, clear_at, clear_items, clear_members}

-- ---- holes from token to token

pub marked_hides : (c : Option Tree) (r : Pointer) → is_marked_there c ≡ true → is_body_hole c r ≡ true
marked_hides None r e = cc
marked_hides (Some t) [] e = e
marked_hides (Some t) (x ∷ r) e = rw e refl

beneath_child : (t : Tree) (r : Pointer) (u : Result Tree Cause) → (if_ok (λ v. goes_into v r) u || if_ok is_marked (u >>= λ v. at v r)) ≡ is_body_hole (result_ok u) r
beneath_child t r (Ok u) = refl
beneath_child t r (Err why) = refl

pub hole_beneath : (c : Option Tree) (x : List ℕ) (r : Pointer) → is_marked_there c ≡ false → is_body_hole c (x ∷ r) ≡ is_body_hole (child_of x c) r
hole_beneath None x r e = refl
hole_beneath (Some t) x r e = rw e (beneath_child t r (child x t))

hole_here : (c : Option Tree) → is_body_hole c [] ≡ is_marked_there c
hole_here None = refl
hole_here (Some t) = refl

-- ---- the first place that isn't hidden

abbrev pub open_in : (Pointer → Bool) → List (Pointer × Tree) → Option Pointer
open_in hide ps = first_that (λ q. not (hide q)) (map (λ s. s.0) ps)

open-append : (hide : Pointer → Bool) (xs ys : List (Pointer × Tree)) → open_in hide (xs ++ ys) ≡ or_else (open_in hide xs) (open_in hide ys)
open-append hide [] ys = refl
open-append hide (x ∷ xs) ys = by (hide x.0) refl (open-append hide xs ys)
  where
    by : (t : Bool) → hide x.0 ≡ t → open_in hide (xs ++ ys) ≡ or_else (open_in hide xs) (open_in hide ys) → open_in hide ((x ∷ xs) ++ ys) ≡ or_else (open_in hide (x ∷ xs)) (open_in hide ys)
    by true e h = rw e h
    by false e h = rw e refl

both : (hide : Pointer → Bool) (xs ys : List (Pointer × Tree)) (a b : Option Pointer) → open_in hide xs ≡ a → open_in hide ys ≡ b → open_in hide (xs ++ ys) ≡ or_else a b
both hide xs ys a b e h = open-append hide xs ys ∙ ap (λ o. or_else o (open_in hide ys)) e ∙ ap (or_else a) h

no_more : (q : Pointer) → q ++ [] ≡ q
no_more [] = refl
no_more (x ∷ q) = ap (λ r. x ∷ r) (no_more q)

one_down : (hide : Pointer → Bool) (q : Pointer) (x : List ℕ) (r : Pointer) (b : Bool) → hide (q ++ x ∷ r) ≡ b → hide ((q ++ x ∷ []) ++ r) ≡ b
one_down hide q x r b e = ap hide (append_assoc q (x ∷ []) r) ∙ e

-- ---- where all is hidden

hidden_node : (hide : Pointer → Bool) (q : Pointer) (t : Tree) (b : Bool) (rest : List (Pointer × Tree)) → hide (q ++ []) ≡ true → open_in hide rest ≡ None → open_in hide (if b then (q, t) ∷ [] else rest) ≡ None
hidden_node hide q t true rest e h = rw (sym (ap hide (no_more q)) ∙ e) refl
hidden_node hide q t false rest e h = h

mutual
  all_hidden : (hide : Pointer → Bool) (secret : Pointer → Tree → Bool) (q : Pointer) (t : Tree) → ((r : Pointer) → hide (q ++ r) ≡ true) → open_in hide (outermost secret q t) ≡ None
  all_hidden hide secret q null h = hidden_node hide q null (secret q null) [] (h []) refl
  all_hidden hide secret q (truth b) h = hidden_node hide q (truth b) (secret q (truth b)) [] (h []) refl
  all_hidden hide secret q (whole z) h = hidden_node hide q (whole z) (secret q (whole z)) [] (h []) refl
  all_hidden hide secret q (words s) h = hidden_node hide q (words s) (secret q (words s)) [] (h []) refl
  all_hidden hide secret q (items ts) h = hidden_node hide q (items ts) (secret q (items ts)) (outermost_items secret q 0 ts) (h []) (items_hidden hide secret q 0 ts h)
  all_hidden hide secret q (members ms) h = hidden_node hide q (members ms) (secret q (members ms)) (outermost_members secret q ms) (h []) (members_hidden hide secret q ms h)

  items_hidden : (hide : Pointer → Bool) (secret : Pointer → Tree → Bool) (q : Pointer) (i : ℕ) (ts : Trees) → ((r : Pointer) → hide (q ++ r) ≡ true) → open_in hide (outermost_items secret q i ts) ≡ None
  items_hidden hide secret q i no_items h = refl
  items_hidden hide secret q i (item t ts) h =
      both hide (outermost secret (q ++ index_text i ∷ []) t) (outermost_items secret q (suc i) ts) None None
      (all_hidden hide secret (q ++ index_text i ∷ []) t (λ r. one_down hide q (index_text i) r true (h (index_text i ∷ r)))) (items_hidden hide secret q (suc i) ts h)

  members_hidden : (hide : Pointer → Bool) (secret : Pointer → Tree → Bool) (q : Pointer) (ms : Members) → ((r : Pointer) → hide (q ++ r) ≡ true) → open_in hide (outermost_members secret q ms) ≡ None
  members_hidden hide secret q no_members h = refl
  members_hidden hide secret q (member k t ms) h =
      both hide (outermost secret (q ++ k ∷ []) t) (outermost_members secret q ms) None None
      (all_hidden hide secret (q ++ k ∷ []) t (λ r. one_down hide q k r true (h (k ∷ r)))) (members_hidden hide secret q ms h)

-- ---- the walk

-- what is hidden at or beneath q is what c hides
abbrev pub Beside : (Pointer → Bool) → Pointer → Option Tree → Type 0
Beside hide q c = (r : Pointer) → hide (q ++ r) ≡ is_body_hole c r

down : (hide : Pointer → Bool) (q : Pointer) (c : Option Tree) (x : List ℕ) → is_marked_there c ≡ false → Beside hide q c → Beside hide (q ++ x ∷ []) (child_of x c)
down hide q c x e h r = one_down hide q x r (is_body_hole (child_of x c) r) (h (x ∷ r) ∙ hole_beneath c x r e)

node_walked : (hide : Pointer → Bool) (q : Pointer) (c : Option Tree) (t : Tree) (m b : Bool) (rest : List (Pointer × Tree)) (beneath : Option Pointer) → is_marked_there c ≡ m → Beside hide q c
    → (((r : Pointer) → hide (q ++ r) ≡ true) → open_in hide rest ≡ None) → (is_marked_there c ≡ false → open_in hide rest ≡ beneath) → open_in hide (if b then (q, t) ∷ [] else rest) ≡ here m b q beneath
node_walked hide q c t true b rest beneath e h none more =
    let all : (r : Pointer) → hide (q ++ r) ≡ true = λ r. h r ∙ marked_hides c r e in
    hidden_node hide q t b rest (all []) (none all)
node_walked hide q c t false true rest beneath e h none more = rw (sym (ap hide (no_more q)) ∙ h [] ∙ hole_here c ∙ e) refl
node_walked hide q c t false false rest beneath e h none more = more e

mutual
  pub walked : (hide : Pointer → Bool) (secret : Pointer → Tree → Bool) (c : Option Tree) (q : Pointer) (t : Tree) → Beside hide q c → open_in hide (outermost secret q t) ≡ clear_at secret c q t
  walked hide secret c q null h = node_walked hide q c null (is_marked_there c) (secret q null) [] None refl h (λ a. refl) (λ e. refl)
  walked hide secret c q (truth b) h = node_walked hide q c (truth b) (is_marked_there c) (secret q (truth b)) [] None refl h (λ a. refl) (λ e. refl)
  walked hide secret c q (whole z) h = node_walked hide q c (whole z) (is_marked_there c) (secret q (whole z)) [] None refl h (λ a. refl) (λ e. refl)
  walked hide secret c q (words s) h = node_walked hide q c (words s) (is_marked_there c) (secret q (words s)) [] None refl h (λ a. refl) (λ e. refl)
  walked hide secret c q (items ts) h =
      node_walked hide q c (items ts) (is_marked_there c) (secret q (items ts)) (outermost_items secret q 0 ts) (clear_items secret c q 0 ts) refl h
      (λ a. items_hidden hide secret q 0 ts a) (λ e. items_walked hide secret c q 0 ts e h)
  walked hide secret c q (members ms) h =
      node_walked hide q c (members ms) (is_marked_there c) (secret q (members ms)) (outermost_members secret q ms) (clear_members secret c q ms) refl h
      (λ a. members_hidden hide secret q ms a) (λ e. members_walked hide secret c q ms e h)

  items_walked : (hide : Pointer → Bool) (secret : Pointer → Tree → Bool) (c : Option Tree) (q : Pointer) (i : ℕ) (ts : Trees) → is_marked_there c ≡ false → Beside hide q c → open_in hide (outermost_items secret q i ts) ≡ clear_items secret c q i ts
  items_walked hide secret c q i no_items e h = refl
  items_walked hide secret c q i (item t ts) e h =
      both hide (outermost secret (q ++ index_text i ∷ []) t) (outermost_items secret q (suc i) ts) (clear_at secret (child_of (index_text i) c) (q ++ index_text i ∷ []) t) (clear_items secret c q (suc i) ts)
      (walked hide secret (child_of (index_text i) c) (q ++ index_text i ∷ []) t (down hide q c (index_text i) e h)) (items_walked hide secret c q (suc i) ts e h)

  members_walked : (hide : Pointer → Bool) (secret : Pointer → Tree → Bool) (c : Option Tree) (q : Pointer) (ms : Members) → is_marked_there c ≡ false → Beside hide q c → open_in hide (outermost_members secret q ms) ≡ clear_members secret c q ms
  members_walked hide secret c q no_members e h = refl
  members_walked hide secret c q (member k t ms) e h =
      both hide (outermost secret (q ++ k ∷ []) t) (outermost_members secret q ms) (clear_at secret (child_of k c) (q ++ k ∷ []) t) (clear_members secret c q ms)
      (walked hide secret (child_of k c) (q ++ k ∷ []) t (down hide q c k e h)) (members_walked hide secret c q ms e h)

-- ---- steps of the code

pub found_none : (secret : Pointer → Tree → Bool) (c : Option Tree) (q : Pointer) (t : Tree) → is_marked_there c ≡ true → clear_at secret c q t ≡ None
found_none secret c q null e = rw e refl
found_none secret c q (truth b) e = rw e refl
found_none secret c q (whole z) e = rw e refl
found_none secret c q (words s) e = rw e refl
found_none secret c q (items ts) e = rw e refl
found_none secret c q (members ms) e = rw e refl

pub found_here : (secret : Pointer → Tree → Bool) (c : Option Tree) (q : Pointer) (t : Tree) → is_marked_there c ≡ false → secret q t ≡ true → clear_at secret c q t ≡ Some q
found_here secret c q null e s = rw (e, s) refl
found_here secret c q (truth b) e s = rw (e, s) refl
found_here secret c q (whole z) e s = rw (e, s) refl
found_here secret c q (words s) e h = rw (e, h) refl
found_here secret c q (items ts) e s = rw (e, s) refl
found_here secret c q (members ms) e s = rw (e, s) refl

pub found_beneath : (m b : Bool) (q : Pointer) (beneath : Option Pointer) → m ≡ false → b ≡ false → here m b q beneath ≡ beneath
found_beneath m b q beneath e h = rw (e, h) refl

-- ---- from child to child

one_more : (n : ℕ) → suc n ≡ n + 1
one_more n = omega arith

pub item_none : (secret : Pointer → Tree → Bool) (c d : Option Tree) (q p : Pointer) (ts : List Tree) (i : ℕ) (t : Tree) (all : Option Pointer) → slice_get ts i ≡ Some t → d ≡ child_of (index_text i) c → p ≡ q ++ index_text i ∷ []
    → clear_items secret c q i (trees (drop i ts)) ≡ all → None ≡ clear_at secret d p t → clear_items secret c q (i + 1) (trees (drop (i + 1) ts)) ≡ all
item_none secret c d q p ts i t all is beside place h e =
    ap (λ n. clear_items secret c q n (trees (drop (i + 1) ts))) (sym (one_more i))
    ∙ ap (λ o. or_else o (clear_items secret c q (suc i) (trees (drop (i + 1) ts)))) (e ∙ ap₂ (λ o r. clear_at secret o r t) beside place)
    ∙ (rw (drop_at ts i t is) at h)

pub item_found : (secret : Pointer → Tree → Bool) (c d : Option Tree) (q p found : Pointer) (ts : List Tree) (i : ℕ) (t : Tree) (all : Option Pointer) → slice_get ts i ≡ Some t → d ≡ child_of (index_text i) c → p ≡ q ++ index_text i ∷ []
    → clear_items secret c q i (trees (drop i ts)) ≡ all → Some found ≡ clear_at secret d p t → Some found ≡ all
item_found secret c d q p found ts i t all is beside place h e =
    ap (λ o. or_else o (clear_items secret c q (suc i) (trees (drop (i + 1) ts)))) (e ∙ ap₂ (λ o r. clear_at secret o r t) beside place)
    ∙ (rw (drop_at ts i t is) at h)

pub member_none : (secret : Pointer → Tree → Bool) (c d : Option Tree) (q p : Pointer) (fs : List Field) (i : ℕ) (k : List ℕ) (t : Tree) (all : Option Pointer) → slice_get fs i ≡ Some (k, t) → d ≡ child_of k c → p ≡ q ++ k ∷ []
    → clear_members secret c q (fields (drop i fs)) ≡ all → None ≡ clear_at secret d p t → clear_members secret c q (fields (drop (i + 1) fs)) ≡ all
member_none secret c d q p fs i k t all is beside place h e =
    ap (λ o. or_else o (clear_members secret c q (fields (drop (i + 1) fs)))) (e ∙ ap₂ (λ o r. clear_at secret o r t) beside place)
    ∙ (rw (drop_at fs i (k, t) is) at h)

pub member_found : (secret : Pointer → Tree → Bool) (c d : Option Tree) (q p found : Pointer) (fs : List Field) (i : ℕ) (k : List ℕ) (t : Tree) (all : Option Pointer) → slice_get fs i ≡ Some (k, t) → d ≡ child_of k c → p ≡ q ++ k ∷ []
    → clear_members secret c q (fields (drop i fs)) ≡ all → Some found ≡ clear_at secret d p t → Some found ≡ all
member_found secret c d q p found fs i k t all is beside place h e =
    ap (λ o. or_else o (clear_members secret c q (fields (drop (i + 1) fs)))) (e ∙ ap₂ (λ o r. clear_at secret o r t) beside place)
    ∙ (rw (drop_at fs i (k, t) is) at h)
