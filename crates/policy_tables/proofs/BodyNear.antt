-- The outermost secret nodes of a body that stand at, above or beneath a pointer.
use Rattle.std.proofs.Common.{◌≡◌, ℕ, suc, zero, ◌+◌, ◌<◌, List, [], ◌∷◌, ◌++◌, map, Bool, true, false, ◌&&◌, ◌||◌, Option, Some, None, Result, Ok, Err, is_ok, refl, sym, ap, ap₂, subst, ◌∙◌, append_assoc, append-nil, if◌then◌else◌, arith, Ordering}
use Rattle.std.specs.List.{list_any}
use Rattle.std.specs.Str.{bytes_eq}
use Rattle.std.specs.Ordering.{match_ordering}
use Rattle.std.specs.declared.cmp.Ordering.TheVariants.{Less, Equal, Greater}
use Rattle.std.proofs.lemmas.Bool.{and_parts, false_from_ne_true}
use Rattle.std.proofs.lemmas.List.{map-append}
use Rattle.std.proofs.lemmas.Slice.Eq.{bytes_eq-Decides}
use Rattle.spec_documents.specs.Tree.{Tree, null, truth, whole, words, items, members, Trees, no_items, item, Members, no_members, member, get_item, get_member, name_cmp, is_ordered, are_ordered, are_members, before_first}
use Rattle.spec_documents.specs.Place.{Pointer, Cause, ◌>>=◌, is_index, index_number, is_prefix, child, found, no_place, no_item, at, if_ok}
use Rattle.spec_documents.specs.Text.{index_text}
use Rattle.spec_documents.specs.Hole.{is_marked, has_mark, has_marked, items_have_marked, members_have_marked}
use Rattle.spec_documents.proofs.MarkLemmas.{any-append}
use Rattle.spec_documents.proofs.Digits.{index_text-index_number, index_number-index_text, is_index-index_text}
use Rattle.spec_messages.specs.Message.{Kind}
use Rattle.spec_messages.specs.Policy.{outermost, outermost_items, outermost_members, Policy, Location, uri_param, header, body, multipart_binary, body_at, covers, covers_body, counted, sensitive, is_above, pointer_of, is_secret_node}
use Rattle.spec_documents.proofs.TreeLemmas.{same_name, name_self}
use Rattle.spec_messages.proofs.LeafLemmas.{Below, InOrder, in_order}
use Rattle.spec_messages.proofs.PlaceWords.{child_ordered}
use Rattle.spec_messages.proofs.OutsideLemmas.{any_map, any_same}
use Rattle.policy_tables.specs.Secrecy.{nears, meets_mark, reaches, reached_by, reached, secret_node}

abbrev pub Test : Type 0
Test = Pointer → Tree → Bool

-- the test of a node beneath the token x
abbrev under : List ℕ → Test → Test
under x f p u = f (x ∷ p) u

-- ---- nodes that pass

abbrev mutual
  some_node : Test → Tree → Bool
  some_node f null = f [] null
  some_node f (truth b) = f [] (truth b)
  some_node f (whole z) = f [] (whole z)
  some_node f (words s) = f [] (words s)
  some_node f (items ts) = f [] (items ts) || some_item f 0 ts
  some_node f (members ms) = f [] (members ms) || some_member f ms

  some_item : Test → ℕ → Trees → Bool
  some_item f i no_items = false
  some_item f i (item t ts) = some_node (under (index_text i) f) t || some_item f (suc i) ts

  some_member : Test → Members → Bool
  some_member f no_members = false
  some_member f (member k t ms) = some_node (under k f) t || some_member f ms

-- a node that passes stands at, above or beneath q
abbrev meets : Test → Pointer → Tree → Bool
meets f [] t = some_node f t
meets f (x ∷ q) t = f [] t || if_ok (meets (under x f) q) (child x t)

-- ---- pointers that are near

bytes-refl : (x : List ℕ) → bytes_eq x x ≡ true
bytes-refl x = (bytes_eq-Decides x x).1 refl

bytes-turn : (x y : List ℕ) (b : Bool) → bytes_eq x y ≡ b → bytes_eq y x ≡ b
bytes-turn x y true e = let same = (bytes_eq-Decides x y).0 e in ap (λ z. bytes_eq z x) (sym same) ∙ bytes-refl x
bytes-turn x y false e = false_from_ne_true (bytes_eq y x) (λ h. let same = (bytes_eq-Decides y x).0 h in let no : false ≡ true = sym e ∙ ap (bytes_eq x) same ∙ bytes-refl x in cc)

near_root : (p : Pointer) → nears p [] ≡ true
near_root [] = refl
near_root (x ∷ p) = refl

near_by : (x y : List ℕ) (p q : Pointer) (b : Bool) → bytes_eq x y ≡ b → nears (x ∷ p) (y ∷ q) ≡ (if b then nears p q else false)
near_by x y p q true e = rw (e, bytes-turn x y true e) refl
near_by x y p q false e = rw (e, bytes-turn x y false e) refl

-- ---- the outermost, relative to where the walk begins

abbrev mutual
  out : Test → Tree → List Pointer
  out f null = if f [] null then [] ∷ [] else []
  out f (truth b) = if f [] (truth b) then [] ∷ [] else []
  out f (whole z) = if f [] (whole z) then [] ∷ [] else []
  out f (words s) = if f [] (words s) then [] ∷ [] else []
  out f (items ts) = if f [] (items ts) then [] ∷ [] else out_items f 0 ts
  out f (members ms) = if f [] (members ms) then [] ∷ [] else out_members f ms

  out_items : Test → ℕ → Trees → List Pointer
  out_items f i no_items = []
  out_items f i (item t ts) = map (λ p. index_text i ∷ p) (out (under (index_text i) f) t) ++ out_items f (suc i) ts

  out_members : Test → Members → List Pointer
  out_members f no_members = []
  out_members f (member k t ms) = map (λ p. k ∷ p) (out (under k f) t) ++ out_members f ms

map_map : {A B C : Type 0} (g : B → C) (f : A → B) (xs : List A) → map g (map f xs) ≡ map (λ x. g (f x)) xs
map_map g f [] = refl
map_map g f (x ∷ xs) = ap (λ ys. g (f x) ∷ ys) (map_map g f xs)

map_same : {A : Type 0} (xs : List A) → map (λ x. x) xs ≡ xs
map_same [] = refl
map_same (x ∷ xs) = ap (λ ys. x ∷ ys) (map_same xs)

-- the test of nodes by the pointers behind b
abbrev behind : Pointer → Test → Test
behind b f p u = f (b ++ p) u

-- beneath the token x, the pointers behind b and x are those behind b
beneath_token : (f : Test) (b : Pointer) (x : List ℕ) (t : Tree) (us : List Pointer)
    → us ≡ map (λ p. (b ++ x ∷ []) ++ p) (out (behind (b ++ x ∷ []) f) t) → us ≡ map (λ p. b ++ p) (map (λ p. x ∷ p) (out (under x (behind b f)) t))
beneath_token f b x t us h =
    h ∙ ap (λ (g : Pointer → Pointer). map g (out (λ p u. f (g p) u) t)) (λ i p. append_assoc b (x ∷ []) p i)
    ∙ sym (map_map (λ p. b ++ p) (λ p. x ∷ p) (out (under x (behind b f)) t))

here_by : (f : Test) (b : Pointer) (t : Tree) (r : Bool) → f b t ≡ r → map (λ (s : Pointer × Tree). s.0) (if r then (b, t) ∷ [] else []) ≡ map (λ p. b ++ p) (if f (b ++ []) t then [] ∷ [] else [])
here_by f b t true e = rw (append-nil b, e) (ap (λ p. p ∷ []) (sym (append-nil b)))
here_by f b t false e = rw (append-nil b, e) refl

whole_by : (f : Test) (b : Pointer) (t : Tree) (r : Bool) (xs : List (Pointer × Tree)) (ys : List Pointer) → f b t ≡ r → map (λ (s : Pointer × Tree). s.0) xs ≡ map (λ p. b ++ p) ys
    → map (λ (s : Pointer × Tree). s.0) (if r then (b, t) ∷ [] else xs) ≡ map (λ p. b ++ p) (if f (b ++ []) t then [] ∷ [] else ys)
whole_by f b t true xs ys e h = rw (append-nil b, e) (ap (λ p. p ∷ []) (sym (append-nil b)))
whole_by f b t false xs ys e h = rw (append-nil b, e) h

mutual
  out-is : (f : Test) (b : Pointer) (t : Tree) → map (λ (s : Pointer × Tree). s.0) (outermost f b t) ≡ map (λ p. b ++ p) (out (behind b f) t)
  out-is f b null = here_by f b null (f b null) refl
  out-is f b (truth x) = here_by f b (truth x) (f b (truth x)) refl
  out-is f b (whole z) = here_by f b (whole z) (f b (whole z)) refl
  out-is f b (words s) = here_by f b (words s) (f b (words s)) refl
  out-is f b (items ts) = whole_by f b (items ts) (f b (items ts)) (outermost_items f b 0 ts) (out_items (behind b f) 0 ts) refl (items-is f b 0 ts)
  out-is f b (members ms) = whole_by f b (members ms) (f b (members ms)) (outermost_members f b ms) (out_members (behind b f) ms) refl (members-is f b ms)

  items-is : (f : Test) (b : Pointer) (i : ℕ) (ts : Trees) → map (λ (s : Pointer × Tree). s.0) (outermost_items f b i ts) ≡ map (λ p. b ++ p) (out_items (behind b f) i ts)
  items-is f b i no_items = refl
  items-is f b i (item t ts) =
      map-append (λ (s : Pointer × Tree). s.0) (outermost f (b ++ index_text i ∷ []) t) (outermost_items f b (suc i) ts)
      ∙ ap₂ ◌++◌ (beneath_token f b (index_text i) t _ (out-is f (b ++ index_text i ∷ []) t)) (items-is f b (suc i) ts)
      ∙ sym (map-append (λ p. b ++ p) (map (λ p. index_text i ∷ p) (out (under (index_text i) (behind b f)) t)) (out_items (behind b f) (suc i) ts))

  members-is : (f : Test) (b : Pointer) (ms : Members) → map (λ (s : Pointer × Tree). s.0) (outermost_members f b ms) ≡ map (λ p. b ++ p) (out_members (behind b f) ms)
  members-is f b no_members = refl
  members-is f b (member k t ms) =
      map-append (λ (s : Pointer × Tree). s.0) (outermost f (b ++ k ∷ []) t) (outermost_members f b ms)
      ∙ ap₂ ◌++◌ (beneath_token f b k t _ (out-is f (b ++ k ∷ []) t)) (members-is f b ms)
      ∙ sym (map-append (λ p. b ++ p) (map (λ p. k ∷ p) (out (under k (behind b f)) t)) (out_members (behind b f) ms))

-- the places that are near, of the whole body
near-out : (f : Test) (q : Pointer) (t : Tree) → list_any (λ s. nears s.0 q) (outermost f [] t) ≡ list_any (λ p. nears p q) (out f t)
near-out f q t =
    sym (any_map (λ p. nears p q) (λ (s : Pointer × Tree). s.0) (outermost f [] t))
    ∙ ap (list_any (λ p. nears p q)) (out-is f [] t ∙ map_same (out f t))

-- ---- one child

or-false : (b : Bool) → (b || false) ≡ b
or-false true = refl
or-false false = refl

abbrev opt : (Tree → Bool) → Option Tree → Bool
opt g None = false
opt g (Some t) = g t

abbrev item_named : (Tree → Bool) → ℕ → List ℕ → Trees → Bool
item_named g i y no_items = false
item_named g i y (item t ts) = (if bytes_eq (index_text i) y then g t else false) || item_named g (suc i) y ts

abbrev member_named : (Tree → Bool) → List ℕ → Members → Bool
member_named g y no_members = false
member_named g y (member k t ms) = (if bytes_eq k y then g t else false) || member_named g y ms

texts_apart : (i n : ℕ) → (i ≡ n → ⊥) → bytes_eq (index_text i) (index_text n) ≡ false
texts_apart i n h = false_from_ne_true (bytes_eq (index_text i) (index_text n)) (λ e.
    let same = (bytes_eq-Decides (index_text i) (index_text n)).0 e in
    h (sym (index_number-index_text i) ∙ ap index_number same ∙ index_number-index_text n))

item_past : (g : Tree → Bool) (i n : ℕ) (ts : Trees) → n < i → item_named g i (index_text n) ts ≡ false
item_past g i n no_items h = refl
item_past g i n (item t ts) h =
    ap (λ b. (if b then g t else false) || item_named g (suc i) (index_text n) ts) (texts_apart i n (λ e. absurd (omega arith)))
    ∙ item_past g (suc i) n ts (omega arith)

item_at : (g : Tree → Bool) (i n k : ℕ) (ts : Trees) → n ≡ i + k → item_named g i (index_text n) ts ≡ opt g (get_item k ts)
item_at g i n k no_items e = refl
item_at g i n zero (item t ts) e =
    let same : n ≡ i = omega arith in
    ap (λ b. (if b then g t else false) || item_named g (suc i) (index_text n) ts) (ap (λ m. bytes_eq (index_text i) (index_text m)) same ∙ bytes-refl (index_text i))
    ∙ ap (λ b. g t || b) (item_past g (suc i) n ts (omega arith)) ∙ or-false (g t)
item_at g i n (suc k) (item t ts) e =
    ap (λ b. (if b then g t else false) || item_named g (suc i) (index_text n) ts) (texts_apart i n (λ h. absurd (omega arith)))
    ∙ item_at g (suc i) n k ts (omega arith)

item_none : (g : Tree → Bool) (i : ℕ) (y : List ℕ) (ts : Trees) → is_index y ≡ false → item_named g i y ts ≡ false
item_none g i y no_items h = refl
item_none g i y (item t ts) h =
    ap (λ b. (if b then g t else false) || item_named g (suc i) y ts) (false_from_ne_true (bytes_eq (index_text i) y) (λ e.
    let same = (bytes_eq-Decides (index_text i) y).0 e in
    let no : false ≡ true = sym h ∙ ap is_index (sym same) ∙ is_index-index_text i in cc))
    ∙ item_none g (suc i) y ts h

opt_found : (g : Tree → Bool) (o : Option Tree) (why : Cause) → opt g o ≡ if_ok g (found o why)
opt_found g None why = refl
opt_found g (Some t) why = refl

items_child : (g : Tree → Bool) (y : List ℕ) (ts : Trees) (b : Bool) → is_index y ≡ b → item_named g 0 y ts ≡ if_ok g (if b then found (get_item (index_number y) ts) no_place else Err (no_item y))
items_child g y ts true e =
    ap (λ x. item_named g 0 x ts) (sym (index_text-index_number y e)) ∙ item_at g 0 (index_number y) (index_number y) ts (omega arith) ∙ opt_found g (get_item (index_number y) ts) no_place
items_child g y ts false e = item_none g 0 y ts e

below_none : (k : List ℕ) (ms : Members) → Below k ms → get_member k ms ≡ None
below_none k no_members h = refl
below_none k (member l u ms) h = rw (h.0) (below_none k ms h.1)

less_not : Less ≡ Equal → ⊥
less_not e = cc

greater_not : Greater ≡ Equal → ⊥
greater_not e = cc

apart : (y k : List ℕ) → (name_cmp y k ≡ Equal → ⊥) → bytes_eq k y ≡ false
apart y k h = false_from_ne_true (bytes_eq k y) (λ e. let same = (bytes_eq-Decides k y).0 e in h (ap (name_cmp y) same ∙ name_self y))

named_by : (g : Tree → Bool) (y k : List ℕ) (t : Tree) (ms : Members) (o : Ordering) → name_cmp y k ≡ o → Below k ms → member_named g y ms ≡ opt g (get_member y ms)
    → ((if bytes_eq k y then g t else false) || member_named g y ms) ≡ opt g (match_ordering o (get_member y ms) (Some t) (get_member y ms))
named_by g y k t ms Less e b h = ap (λ c. (if c then g t else false) || member_named g y ms) (apart y k (λ s. less_not (sym e ∙ s))) ∙ h
named_by g y k t ms Greater e b h = ap (λ c. (if c then g t else false) || member_named g y ms) (apart y k (λ s. greater_not (sym e ∙ s))) ∙ h
named_by g y k t ms Equal e b h =
    let same : y ≡ k = same_name y k e in
    let none : get_member y ms ≡ None = subst (λ x. get_member x ms ≡ None) (sym same) (below_none k ms b) in
    ap (λ c. (if c then g t else false) || member_named g y ms) (ap (bytes_eq k) same ∙ bytes-refl k)
    ∙ ap (λ c. g t || c) (h ∙ ap (opt g) none) ∙ or-false (g t)

member_at : (g : Tree → Bool) (y : List ℕ) (ms : Members) → InOrder ms → member_named g y ms ≡ opt g (get_member y ms)
member_at g y no_members h = refl
member_at g y (member k t ms) h = named_by g y k t ms (name_cmp y k) refl h.0 (member_at g y ms h.1)

members_child : (g : Tree → Bool) (y : List ℕ) (ms : Members) → are_members ms ≡ true → member_named g y ms ≡ if_ok g (child y (members ms))
members_child g y ms h = member_at g y ms (in_order ms h) ∙ opt_found g (get_member y ms) no_place

-- ---- what is near, and what is met

any_none : {A : Type 0} (xs : List A) → list_any (λ x. false) xs ≡ false
any_none [] = refl
any_none (x ∷ xs) = any_none xs

near_beneath : (x y : List ℕ) (q : Pointer) (ps : List Pointer) (b : Bool) → bytes_eq x y ≡ b → list_any (λ p. nears p (y ∷ q)) (map (λ p. x ∷ p) ps) ≡ (if b then list_any (λ p. nears p q) ps else false)
near_beneath x y q ps true e = any_map (λ p. nears p (y ∷ q)) (λ p. x ∷ p) ps ∙ any_same (λ p. nears (x ∷ p) (y ∷ q)) (λ p. nears p q) (λ p. near_by x y p q true e) ps
near_beneath x y q ps false e = any_map (λ p. nears p (y ∷ q)) (λ p. x ∷ p) ps ∙ any_same (λ p. nears (x ∷ p) (y ∷ q)) (λ p. false) (λ p. near_by x y p q false e) ps ∙ any_none ps

-- where the token is another, what it is under doesn't matter
same_token : (x y : List ℕ) (f : Test) (q : Pointer) (t : Tree) (b : Bool) → bytes_eq x y ≡ b → (if b then meets (under x f) q t else false) ≡ (if b then meets (under y f) q t else false)
same_token x y f q t true e = ap (λ z. meets (under z f) q t) ((bytes_eq-Decides x y).0 e)
same_token x y f q t false e = refl

scalar_near : (q : Pointer) (b : Bool) → list_any (λ p. nears p q) (if b then [] ∷ [] else []) ≡ b || false
scalar_near q true = refl
scalar_near q false = refl

some_by : (b r : Bool) (xs : List Pointer) → list_any (λ p. true) xs ≡ r → list_any (λ p. true) (if b then [] ∷ [] else xs) ≡ b || r
some_by true r xs e = refl
some_by false r xs e = e

near_or : (q : Pointer) (b r : Bool) (xs : List Pointer) → list_any (λ p. nears p q) xs ≡ r → list_any (λ p. nears p q) (if b then [] ∷ [] else xs) ≡ b || r
near_or q true r xs e = refl
near_or q false r xs e = e

mutual
  some-out : (f : Test) (t : Tree) → list_any (λ p. true) (out f t) ≡ some_node f t
  some-out f null = some_by (f [] null) false [] refl ∙ or-false (f [] null)
  some-out f (truth b) = some_by (f [] (truth b)) false [] refl ∙ or-false (f [] (truth b))
  some-out f (whole z) = some_by (f [] (whole z)) false [] refl ∙ or-false (f [] (whole z))
  some-out f (words s) = some_by (f [] (words s)) false [] refl ∙ or-false (f [] (words s))
  some-out f (items ts) = some_by (f [] (items ts)) (some_item f 0 ts) (out_items f 0 ts) (some-items f 0 ts)
  some-out f (members ms) = some_by (f [] (members ms)) (some_member f ms) (out_members f ms) (some-members f ms)

  some-items : (f : Test) (i : ℕ) (ts : Trees) → list_any (λ p. true) (out_items f i ts) ≡ some_item f i ts
  some-items f i no_items = refl
  some-items f i (item t ts) =
      any-append (λ p. true) (map (λ p. index_text i ∷ p) (out (under (index_text i) f) t)) (out_items f (suc i) ts)
      ∙ ap₂ ◌||◌ (any_map (λ p. true) (λ p. index_text i ∷ p) (out (under (index_text i) f) t) ∙ some-out (under (index_text i) f) t) (some-items f (suc i) ts)

  some-members : (f : Test) (ms : Members) → list_any (λ p. true) (out_members f ms) ≡ some_member f ms
  some-members f no_members = refl
  some-members f (member k t ms) =
      any-append (λ p. true) (map (λ p. k ∷ p) (out (under k f) t)) (out_members f ms)
      ∙ ap₂ ◌||◌ (any_map (λ p. true) (λ p. k ∷ p) (out (under k f) t) ∙ some-out (under k f) t) (some-members f ms)

mutual
  near-meets : (f : Test) (q : Pointer) (t : Tree) → is_ordered t ≡ true → list_any (λ p. nears p q) (out f t) ≡ meets f q t
  near-meets f [] t o = any_same (λ p. nears p []) (λ p. true) near_root (out f t) ∙ some-out f t
  near-meets f (y ∷ q) null o = scalar_near (y ∷ q) (f [] null)
  near-meets f (y ∷ q) (truth b) o = scalar_near (y ∷ q) (f [] (truth b))
  near-meets f (y ∷ q) (whole z) o = scalar_near (y ∷ q) (f [] (whole z))
  near-meets f (y ∷ q) (words s) o = scalar_near (y ∷ q) (f [] (words s))
  near-meets f (y ∷ q) (items ts) o =
      near_or (y ∷ q) (f [] (items ts)) (if_ok (meets (under y f) q) (child y (items ts))) (out_items f 0 ts)
      (near-items f 0 y q ts o ∙ items_child (meets (under y f) q) y ts (is_index y) refl)
  near-meets f (y ∷ q) (members ms) o =
      near_or (y ∷ q) (f [] (members ms)) (if_ok (meets (under y f) q) (child y (members ms))) (out_members f ms)
      (near-members f y q ms o ∙ members_child (meets (under y f) q) y ms o)

  near-items : (f : Test) (i : ℕ) (y : List ℕ) (q : Pointer) (ts : Trees) → are_ordered ts ≡ true → list_any (λ p. nears p (y ∷ q)) (out_items f i ts) ≡ item_named (meets (under y f) q) i y ts
  near-items f i y q no_items o = refl
  near-items f i y q (item t ts) o =
      let p = and_parts (is_ordered t) (are_ordered ts) o in
      any-append (λ p. nears p (y ∷ q)) (map (λ p. index_text i ∷ p) (out (under (index_text i) f) t)) (out_items f (suc i) ts)
      ∙ ap₂ ◌||◌
      (near_beneath (index_text i) y q (out (under (index_text i) f) t) (bytes_eq (index_text i) y) refl
      ∙ ap (λ r. if bytes_eq (index_text i) y then r else false) (near-meets (under (index_text i) f) q t p.0)
      ∙ same_token (index_text i) y f q t (bytes_eq (index_text i) y) refl)
      (near-items f (suc i) y q ts p.1)

  near-members : (f : Test) (y : List ℕ) (q : Pointer) (ms : Members) → are_members ms ≡ true → list_any (λ p. nears p (y ∷ q)) (out_members f ms) ≡ member_named (meets (under y f) q) y ms
  near-members f y q no_members o = refl
  near-members f y q (member k t ms) o =
      let p = and_parts (before_first k ms) (is_ordered t && are_members ms) o in
      let r = and_parts (is_ordered t) (are_members ms) p.1 in
      any-append (λ p. nears p (y ∷ q)) (map (λ p. k ∷ p) (out (under k f) t)) (out_members f ms)
      ∙ ap₂ ◌||◌
      (near_beneath k y q (out (under k f) t) (bytes_eq k y) refl
      ∙ ap (λ r. if bytes_eq k y then r else false) (near-meets (under k f) q t r.0)
      ∙ same_token k y f q t (bytes_eq k y) refl)
      (near-members f y q ms r.1)

-- ---- what is met by one of two tests, and by none

or_swap : (a b c d : Bool) → ((a || b) || (c || d)) ≡ ((a || c) || (b || d))
or_swap true b c d = refl
or_swap false true true d = refl
or_swap false true false d = refl
or_swap false false c d = refl

abbrev either : Test → Test → Test
either f g p u = f p u || g p u

if_ok-or : {A E : Type 0} (f g : A → Bool) (r : Result A E) → if_ok (λ u. f u || g u) r ≡ if_ok f r || if_ok g r
if_ok-or f g (Ok x) = refl
if_ok-or f g (Err e) = refl

mutual
  some-or : (f g : Test) (t : Tree) → some_node (either f g) t ≡ some_node f t || some_node g t
  some-or f g null = refl
  some-or f g (truth b) = refl
  some-or f g (whole z) = refl
  some-or f g (words s) = refl
  some-or f g (items ts) = ap (λ b. (f [] (items ts) || g [] (items ts)) || b) (items-or f g 0 ts) ∙ or_swap (f [] (items ts)) (g [] (items ts)) (some_item f 0 ts) (some_item g 0 ts)
  some-or f g (members ms) = ap (λ b. (f [] (members ms) || g [] (members ms)) || b) (members-or f g ms) ∙ or_swap (f [] (members ms)) (g [] (members ms)) (some_member f ms) (some_member g ms)

  items-or : (f g : Test) (i : ℕ) (ts : Trees) → some_item (either f g) i ts ≡ some_item f i ts || some_item g i ts
  items-or f g i no_items = refl
  items-or f g i (item t ts) =
      ap₂ ◌||◌ (some-or (under (index_text i) f) (under (index_text i) g) t) (items-or f g (suc i) ts)
      ∙ or_swap (some_node (under (index_text i) f) t) (some_node (under (index_text i) g) t) (some_item f (suc i) ts) (some_item g (suc i) ts)

  members-or : (f g : Test) (ms : Members) → some_member (either f g) ms ≡ some_member f ms || some_member g ms
  members-or f g no_members = refl
  members-or f g (member k t ms) =
      ap₂ ◌||◌ (some-or (under k f) (under k g) t) (members-or f g ms)
      ∙ or_swap (some_node (under k f) t) (some_node (under k g) t) (some_member f ms) (some_member g ms)

if_ok_same : {A E : Type 0} (f g : A → Bool) (r : Result A E) → ((u : A) → r ≡ Ok u → f u ≡ g u) → if_ok f r ≡ if_ok g r
if_ok_same f g (Ok x) h = h x refl
if_ok_same f g (Err e) h = refl

meets-or : (f g : Test) (q : Pointer) (t : Tree) → meets (either f g) q t ≡ meets f q t || meets g q t
meets-or f g [] t = some-or f g t
meets-or f g (x ∷ q) t =
    ap (λ b. (f [] t || g [] t) || b) (if_ok_same (meets (either (under x f) (under x g)) q) (λ u. meets (under x f) q u || meets (under x g) q u) (child x t) (λ u e. meets-or (under x f) (under x g) q u)
    ∙ if_ok-or (meets (under x f) q) (meets (under x g) q) (child x t))
    ∙ or_swap (f [] t) (g [] t) (if_ok (meets (under x f) q) (child x t)) (if_ok (meets (under x g) q) (child x t))

abbrev never : Test
never p u = false

mutual
  some-never : (t : Tree) → some_node never t ≡ false
  some-never null = refl
  some-never (truth b) = refl
  some-never (whole z) = refl
  some-never (words s) = refl
  some-never (items ts) = items-never 0 ts
  some-never (members ms) = members-never ms

  items-never : (i : ℕ) (ts : Trees) → some_item never i ts ≡ false
  items-never i no_items = refl
  items-never i (item t ts) = ap₂ ◌||◌ (some-never t) (items-never (suc i) ts)

  members-never : (ms : Members) → some_member never ms ≡ false
  members-never no_members = refl
  members-never (member k t ms) = ap₂ ◌||◌ (some-never t) (members-never ms)

if_ok_none : {A E : Type 0} (r : Result A E) → if_ok (λ u. false) r ≡ false
if_ok_none (Ok x) = refl
if_ok_none (Err e) = refl

meets-never : (q : Pointer) (t : Tree) → meets never q t ≡ false
meets-never [] t = some-never t
meets-never (x ∷ q) t = if_ok_same (meets never q) (λ u. false) (child x t) (λ u e. meets-never q u) ∙ if_ok_none (child x t)

meets-any : {A : Type 0} (f : A → Test) (es : List A) (q : Pointer) (t : Tree) → meets (λ p u. list_any (λ e. f e p u) es) q t ≡ list_any (λ e. meets (f e) q t) es
meets-any f [] q t = meets-never q t
meets-any f (e ∷ es) q t = meets-or (f e) (λ p u. list_any (λ e. f e p u) es) q t ∙ ap (λ b. meets (f e) q t || b) (meets-any f es q t)

-- ---- marks

mutual
  some-marked : (t : Tree) → some_node (λ p u. is_marked u) t ≡ has_marked t
  some-marked null = refl
  some-marked (truth b) = refl
  some-marked (whole z) = refl
  some-marked (words s) = refl
  some-marked (items ts) = items-marked 0 ts
  some-marked (members ms) = ap (λ b. has_mark ms || b) (members-marked ms)

  items-marked : (i : ℕ) (ts : Trees) → some_item (λ p u. is_marked u) i ts ≡ items_have_marked ts
  items-marked i no_items = refl
  items-marked i (item t ts) = ap₂ ◌||◌ (some-marked t) (items-marked (suc i) ts)

  members-marked : (ms : Members) → some_member (λ p u. is_marked u) ms ≡ members_have_marked ms
  members-marked no_members = refl
  members-marked (member k t ms) = ap₂ ◌||◌ (some-marked t) (members-marked ms)

meets-marked : (q : Pointer) (t : Tree) → meets (λ p u. is_marked u) q t ≡ meets_mark q t
meets-marked [] t = some-marked t
meets-marked (x ∷ q) t = ap (λ b. is_marked t || b) (if_ok_same (meets (λ p u. is_marked u) q) (meets_mark q) (child x t) (λ u e. meets-marked q u))

-- ---- pointers of elements

abbrev above : Pointer → Test
above d p u = is_prefix d p

abbrev gate : Bool → Test → Test
gate b f p u = b && f p u

gate_node : (b c : Bool) (f : Test) (t : Tree) → c ≡ b → some_node (gate b f) t ≡ (if c then some_node f t else false)
gate_node true true f t e = refl
gate_node true false f t e = cc
gate_node false true f t e = cc
gate_node false false f t e = some-never t

turned : (x y : List ℕ) → bytes_eq y x ≡ bytes_eq x y
turned x y = bytes-turn x y (bytes_eq x y) refl

above_items : (x : List ℕ) (d : Pointer) (i : ℕ) (ts : Trees) → some_item (above (x ∷ d)) i ts ≡ item_named (some_node (above d)) i x ts
above_items x d i no_items = refl
above_items x d i (item t ts) = ap₂ ◌||◌ (gate_node (bytes_eq x (index_text i)) (bytes_eq (index_text i) x) (above d) t (turned x (index_text i))) (above_items x d (suc i) ts)

above_members : (x : List ℕ) (d : Pointer) (ms : Members) → some_member (above (x ∷ d)) ms ≡ member_named (some_node (above d)) x ms
above_members x d no_members = refl
above_members x d (member k t ms) = ap₂ ◌||◌ (gate_node (bytes_eq x k) (bytes_eq k x) (above d) t (turned x k)) (above_members x d ms)

if_ok_at : (r : Result Tree Cause) (g : Tree → Bool) (d : Pointer) → ((u : Tree) → r ≡ Ok u → g u ≡ is_ok (at u d)) → if_ok g r ≡ is_ok (r >>= λ u. at u d)
if_ok_at (Ok u) g d h = h u refl
if_ok_at (Err e) g d h = refl

some_above : (d : Pointer) (t : Tree) → is_ordered t ≡ true → some_node (above d) t ≡ is_ok (at t d)
some_above [] null o = refl
some_above [] (truth b) o = refl
some_above [] (whole z) o = refl
some_above [] (words s) o = refl
some_above [] (items ts) o = refl
some_above [] (members ms) o = refl
some_above (x ∷ d) null o = refl
some_above (x ∷ d) (truth b) o = refl
some_above (x ∷ d) (whole z) o = refl
some_above (x ∷ d) (words s) o = refl
some_above (x ∷ d) (items ts) o =
    above_items x d 0 ts ∙ items_child (some_node (above d)) x ts (is_index x) refl
    ∙ if_ok_at (child x (items ts)) (some_node (above d)) d (λ u e. some_above d u (child_ordered x (items ts) u o e))
some_above (x ∷ d) (members ms) o =
    above_members x d ms ∙ members_child (some_node (above d)) x ms o
    ∙ if_ok_at (child x (members ms)) (some_node (above d)) d (λ u e. some_above d u (child_ordered x (members ms) u o e))

and_ok : (b : Bool) (r : Result Tree Cause) (d : Pointer) → if_ok (λ u. b && is_ok (at u d)) r ≡ (b && is_ok (r >>= λ u. at u d))
and_ok true (Ok u) d = refl
and_ok false (Ok u) d = refl
and_ok true (Err e) d = refl
and_ok false (Err e) d = refl

gate_meets : (b : Bool) (f : Test) (q : Pointer) (t : Tree) → meets (gate b f) q t ≡ (if b then meets f q t else false)
gate_meets true f q t = refl
gate_meets false f q t = meets-never q t

above_step : (x z : List ℕ) (d q : Pointer) (t : Tree) (b : Bool) → bytes_eq x z ≡ b → ((u : Tree) → child x t ≡ Ok u → meets (above d) q u ≡ (nears d q && is_ok (at u d)))
    → if_ok (λ u. if b then meets (above d) q u else false) (child z t) ≡ ((if b then nears d q else false) && is_ok (at t (x ∷ d)))
above_step x z d q t true e h =
    let same = (bytes_eq-Decides x z).0 e in
    ap (λ y. if_ok (meets (above d) q) (child y t)) (sym same)
    ∙ if_ok_same (meets (above d) q) (λ u. nears d q && is_ok (at u d)) (child x t) h ∙ and_ok (nears d q) (child x t) d
above_step x z d q t false e h = if_ok_none (child z t)

meets-above : (d q : Pointer) (t : Tree) → is_ordered t ≡ true → meets (above d) q t ≡ (nears d q && is_ok (at t d))
meets-above [] [] t o = some_above [] t o
meets-above [] (z ∷ q) t o = refl
meets-above (x ∷ d) [] t o = some_above (x ∷ d) t o
meets-above (x ∷ d) (z ∷ q) t o =
    if_ok_same (meets (gate (bytes_eq x z) (above d)) q) (λ u. if bytes_eq x z then meets (above d) q u else false) (child z t) (λ u e. gate_meets (bytes_eq x z) (above d) q u)
    ∙ above_step x z d q t (bytes_eq x z) refl (λ u e. meets-above d q u (child_ordered x t u o e))
    ∙ sym (ap (λ r. r && is_ok (at t (x ∷ d))) (near_by x z d q (bytes_eq x z) refl))

-- ---- elements

above_by : (o : Option Pointer) (q : Pointer) (t : Tree) → is_ordered t ≡ true → meets (λ p u. is_above o p) q t ≡ reaches t q o
above_by None q t o = meets-never q t
above_by (Some d) q t o = meets-above d q t o

covers_by : (l : Location) (n : Option (List ℕ)) (q : Pointer) (t : Tree) → is_ordered t ≡ true → meets (λ p u. covers_body l n p) q t ≡ reached_by t q l n
covers_by uri_param n q t o = meets-never q t
covers_by header n q t o = meets-never q t
covers_by body n q t o = above_by (pointer_of n) q t o
covers_by multipart_binary n q t o = meets-never q t

any_each : {A : Type 0} (f g : A → Bool) (xs : List A) → ((x : A) → f x ≡ g x) → list_any f xs ≡ list_any g xs
any_each f g xs h = any_same f g h xs

-- the outermost secret nodes of a body near q
pub near_secret : (pol : Policy) (k : Option ℕ) (kind : Kind) (q : Pointer) (t : Tree) → is_ordered t ≡ true
    → list_any (λ s. nears s.0 q) (outermost (is_secret_node pol k kind t) [] t) ≡ secret_node pol k kind q t
near_secret pol k kind q t o =
    near-out (is_secret_node pol k kind t) q t ∙ near-meets (is_secret_node pol k kind t) q t o
    ∙ meets-or (λ p u. list_any (covers kind (body_at p)) (sensitive pol k)) (λ p u. is_marked u) q t
    ∙ ap₂ ◌||◌
    (meets-any (λ e p u. covers kind (body_at p) e) (sensitive pol k) q t
    ∙ any_each (λ e. meets (λ p u. covers kind (body_at p) e) q t) (reached kind t q) (sensitive pol k) (λ e. covers_by e.place (counted kind e) q t o))
    (meets-marked q t)
