-- Addresses of lines that touch, and what is found in lists.
use Rattle.std.proofs.Common.{Ok, Err, zero, length, ◌<◌, ◌≡◌, ℕ, suc, List, [], ◌∷◌, map, drop, ◌+◌, slice_get, Some, Bool, true, false, ◌&&◌, ◌||◌, refl, sym, ap, ◌∙◌, arith}
use Rattle.std.specs.List.{list_any}
use Rattle.n32_values.proofs.Trees.{drop_at}
use Rattle.spec_documents.specs.Tree.{Tree, trees}
use Rattle.spec_documents.specs.Fields.{Field, fields}
use Rattle.spec_documents.specs.Hole.{is_marked, has_marked, items_have_marked, members_have_marked}
use Rattle.spec_documents.specs.Place.{Pointer, Cause, child, if_ok}
use Rattle.spec_messages.specs.Message.{Part}
use Rattle.spec_messages.specs.Policy.{LinePart, line_kind, line_method, line_scheme, line_authority, line_version, line_path, line_query_order, line_header_order, line_status, Address, line, Pattern, touches, segment_address, is_secret_part}
use Rattle.policy_tables.specs.Secrecy.{is_path, secret_segment, meets_mark}

pub lines_touch : (p q : LinePart) → (is_path p && is_path q) ≡ touches (line p) (line q)
lines_touch line_kind q = refl
lines_touch line_method q = refl
lines_touch line_scheme q = refl
lines_touch line_authority q = refl
lines_touch line_version q = refl
lines_touch line_query_order q = refl
lines_touch line_header_order q = refl
lines_touch line_status q = refl
lines_touch line_path line_kind = refl
lines_touch line_path line_method = refl
lines_touch line_path line_scheme = refl
lines_touch line_path line_authority = refl
lines_touch line_path line_version = refl
lines_touch line_path line_path = refl
lines_touch line_path line_query_order = refl
lines_touch line_path line_header_order = refl
lines_touch line_path line_status = refl

one_more : (n : ℕ) → suc n ≡ n + 1
one_more n = omega arith

pub segment_here : {A : Type 0} (view : A → Part) (ps : List Pattern) (a : Address) (c : Bool) (xs : List A) (i : ℕ) (x : A) (all : Bool) → slice_get xs i ≡ Some x → secret_segment ps a c i (map view (drop i xs)) ≡ all
    → (touches (segment_address ps i) a && is_secret_part c (view x)) ≡ true → true ≡ all
segment_here view ps a c xs i x all is h e = sym (ap (λ t. t || secret_segment ps a c (suc i) (map view (drop (i + 1) xs))) e) ∙ (rw (drop_at xs i x is) at h)

pub segment_later : {A : Type 0} (view : A → Part) (ps : List Pattern) (a : Address) (c : Bool) (xs : List A) (i : ℕ) (x : A) (all : Bool) → slice_get xs i ≡ Some x → secret_segment ps a c i (map view (drop i xs)) ≡ all
    → (touches (segment_address ps i) a && is_secret_part c (view x)) ≡ false → secret_segment ps a c (i + 1) (map view (drop (i + 1) xs)) ≡ all
segment_later view ps a c xs i x all is h e =
    ap (λ n. secret_segment ps a c n (map view (drop (i + 1) xs))) (sym (one_more i))
    ∙ sym (ap (λ t. t || secret_segment ps a c (suc i) (map view (drop (i + 1) xs))) e) ∙ (rw (drop_at xs i x is) at h)

pub any_here : {A B : Type 0} (view : A → B) (f : B → Bool) (xs : List A) (i : ℕ) (a : A) (all : Bool) → slice_get xs i ≡ Some a → list_any f (map view (drop i xs)) ≡ all → f (view a) ≡ true → true ≡ all
any_here view f xs i a all is h e = sym (ap (λ t. t || list_any f (map view (drop (i + 1) xs))) e) ∙ (rw (drop_at xs i a is) at h)

pub any_later : {A B : Type 0} (view : A → B) (f : B → Bool) (xs : List A) (i : ℕ) (a : A) (all : Bool) → slice_get xs i ≡ Some a → list_any f (map view (drop i xs)) ≡ all → f (view a) ≡ false → list_any f (map view (drop (i + 1) xs)) ≡ all
any_later view f xs i a all is h e = sym (ap (λ t. t || list_any f (map view (drop (i + 1) xs))) e) ∙ (rw (drop_at xs i a is) at h)

-- ---- marks

pub item_passed : (t : Tree) (all rest : List Tree) → all ≡ t ∷ rest → has_marked t ≡ false → items_have_marked (trees all) ≡ items_have_marked (trees rest)
item_passed t all rest cut none = ap (λ ts. items_have_marked (trees ts)) cut ∙ ap (λ b. b || items_have_marked (trees rest)) none

pub item_has : (t : Tree) (all rest : List Tree) → all ≡ t ∷ rest → has_marked t ≡ true → items_have_marked (trees all) ≡ true
item_has t all rest cut has = ap (λ ts. items_have_marked (trees ts)) cut ∙ ap (λ b. b || items_have_marked (trees rest)) has

pub member_passed : (k : List ℕ) (t : Tree) (all rest : List Field) → all ≡ (k, t) ∷ rest → has_marked t ≡ false → members_have_marked (fields all) ≡ members_have_marked (fields rest)
member_passed k t all rest cut none = ap (λ es. members_have_marked (fields es)) cut ∙ ap (λ b. b || members_have_marked (fields rest)) none

pub member_has : (k : List ℕ) (t : Tree) (all rest : List Field) → all ≡ (k, t) ∷ rest → has_marked t ≡ true → members_have_marked (fields all) ≡ true
member_has k t all rest cut has = ap (λ es. members_have_marked (fields es)) cut ∙ ap (λ b. b || members_have_marked (fields rest)) has

-- ---- the walk to a pointer

meets_at : (q : Pointer) (i : ℕ) (x : List ℕ) (t : Tree) → slice_get q i ≡ Some x → meets_mark (drop i q) t ≡ is_marked t || if_ok (meets_mark (drop (i + 1) q)) (child x t)
meets_at q i x t is = ap (λ r. meets_mark r t) (drop_at q i x is)

there_by : (q : Pointer) (i : ℕ) (t : Tree) → i < length q → is_marked t ≡ true → meets_mark (drop i q) t ≡ true
there_by [] i t h e = absurd (omega arith)
there_by (x ∷ q) zero t h e = ap (λ b. b || if_ok (meets_mark q) (child x t)) e
there_by (x ∷ q) (suc i) t h e = there_by q i t (omega arith) e

pub meets_here : (q : Pointer) (i : ℕ) (t : Tree) (all : Bool) → i < length q → meets_mark (drop i q) t ≡ all → is_marked t ≡ true → true ≡ all
meets_here q i t all within h e = sym (there_by q i t within e) ∙ h

pub meets_none : (q : Pointer) (i : ℕ) (x : List ℕ) (t : Tree) (why : Cause) (all : Bool) → slice_get q i ≡ Some x → meets_mark (drop i q) t ≡ all → is_marked t ≡ false → child x t ≡ Err why → false ≡ all
meets_none q i x t why all is h e c = sym (ap (λ b. b || if_ok (meets_mark (drop (i + 1) q)) (child x t)) e ∙ ap (if_ok (meets_mark (drop (i + 1) q))) c) ∙ sym (meets_at q i x t is) ∙ h

pub meets_child : (q : Pointer) (i : ℕ) (x : List ℕ) (t u : Tree) (all : Bool) → slice_get q i ≡ Some x → meets_mark (drop i q) t ≡ all → is_marked t ≡ false → child x t ≡ Ok u → meets_mark (drop (i + 1) q) u ≡ all
meets_child q i x t u all is h e c = sym (ap (λ b. b || if_ok (meets_mark (drop (i + 1) q)) (child x t)) e ∙ ap (if_ok (meets_mark (drop (i + 1) q))) c) ∙ sym (meets_at q i x t is) ∙ h
