-- Tests of equality hold exactly of equal values.
use Rattle.std.proofs.Common.{◌≡◌, ◌≢◌, ◌≤◌, ◌<◌, ℕ, zero, suc, List, [], ◌∷◌, ◌++◌, map, take, drop, ◌+◌, slice_get, length, Option, option_map, Some, None, Bool, true, false, ◌&&◌, refl, sym, ap, ◌∙◌, arith, IsTrue, ◌↔◌}
use Rattle.std.specs.Str.{bytes_eq}
use Rattle.std.proofs.lemmas.Bool.{and_parts, and_from}
use Rattle.std.proofs.lemmas.List.{length-map, take_all}
use Rattle.std.proofs.lemmas.Option.{slice_get-map, slice_get_past, none-some}
use Rattle.std.proofs.lemmas.Slice.Eq.{bytes_eq-Decides}
use Rattle.n32_values.proofs.Trees.{drop_at, take_at}
use Rattle.spec_documents.specs.Tree.{same_truth}
use Rattle.spec_documents.specs.Place.{Pointer, is_prefix, read_pointer, pointer_text}
use Rattle.spec_documents.proofs.PointerLemmas.{read_pointer-text}
use Rattle.spec_messages.specs.Policy.{Location, uri_param, header, body, multipart_binary, Sort, ueid, location, key_material, authentication_material, authorization_token, other, nonsensitive, Element, Pattern, fixed, variable, Mapping, same_sort, same_option, same_list}
use Rattle.spec_messages.proofs.OutsideLemmas.{same_option-is, same_list-is}
use Rattle.policy_documents.specs.Same.{same_location, same_names, same_target, same_grant, same_grants, target_of, same_element, same_pattern, same_mapping, DiffersAt}
use Rattle.policy_documents.specs.Target.{target_view}
use Rattle.policy_documents.specs.declared.policy.Target.{Target as Held}
use Rattle.policy_documents.specs.declared.policy.Target.TheVariants.{UriParam, Header, Body, MultipartBinary}

-- ---- what passes is equal

bytes-is : (x y : List ℕ) → bytes_eq x y ≡ true → x ≡ y
bytes-is x y e = (bytes_eq-Decides x y).0 e

bytes-self : (x : List ℕ) → bytes_eq x x ≡ true
bytes-self x = (bytes_eq-Decides x x).1 refl

truth-is : (a b : Bool) → same_truth a b ≡ true → a ≡ b
truth-is true b e = sym e
truth-is false true e = cc
truth-is false false e = refl

truth-self : (a : Bool) → same_truth a a ≡ true
truth-self true = refl
truth-self false = refl

location-is : (a b : Location) → same_location a b ≡ true → a ≡ b
location-is uri_param uri_param e = refl
location-is header header e = refl
location-is body body e = refl
location-is multipart_binary multipart_binary e = refl
location-is _ _ e = cc

location-self : (a : Location) → same_location a a ≡ true
location-self uri_param = refl
location-self header = refl
location-self body = refl
location-self multipart_binary = refl

pub sort-is : (a b : Sort) → same_sort a b ≡ true → a ≡ b
sort-is ueid ueid e = refl
sort-is location location e = refl
sort-is key_material key_material e = refl
sort-is authentication_material authentication_material e = refl
sort-is authorization_token authorization_token e = refl
sort-is other other e = refl
sort-is nonsensitive nonsensitive e = refl
sort-is _ _ e = cc

pub sort-self : (a : Sort) → same_sort a a ≡ true
sort-self ueid = refl
sort-self location = refl
sort-self key_material = refl
sort-self authentication_material = refl
sort-self authorization_token = refl
sort-self other = refl
sort-self nonsensitive = refl

option-self : {X : Type 0} (test : X → X → Bool) → ((x : X) → test x x ≡ true) → (o : Option X) → same_option test o o ≡ true
option-self test h None = refl
option-self test h (Some x) = h x

pub list-self : {X : Type 0} (test : X → X → Bool) → ((x : X) → test x x ≡ true) → (xs : List X) → same_list test xs xs ≡ true
list-self test h [] = refl
list-self test h (x ∷ xs) = and_from _ _ (h x) (list-self test h xs)

grant-is : (a b : List ℕ × Bool) → same_grant a b ≡ true → a ≡ b
grant-is a b e =
    let p = and_parts (bytes_eq a.0 b.0) (same_truth a.1 b.1) e in
    let one = bytes-is a.0 b.0 p.0 in
    let two = truth-is a.1 b.1 p.1 in
    λ i. (one i, two i)

grant-self : (a : List ℕ × Bool) → same_grant a a ≡ true
grant-self a = and_from _ _ (bytes-self a.0) (truth-self a.1)

grants-is : (gs hs : List (List ℕ × Bool)) → same_grants gs hs ≡ true → gs ≡ hs
grants-is gs hs e = same_list-is same_grant grant-is gs hs e

grants-self : (gs : List (List ℕ × Bool)) → same_grants gs gs ≡ true
grants-self gs = list-self same_grant grant-self gs

names-self : (q r : Option (List ℕ)) → same_names q r q r ≡ true
names-self q r = and_from _ _ (option-self bytes_eq bytes-self q) (option-self bytes_eq bytes-self r)

element-is : (e f : Element) → same_element e f ≡ true → e ≡ f
element-is e f h =
    let p = and_parts (same_target (target_of e) (target_of f)) (same_sort e.sort f.sort && (same_option same_truth e.modifiable f.modifiable && same_option same_grants e.by_ipx f.by_ipx)) h in
    let t = and_parts (same_location e.place f.place) (same_names e.in_request e.in_response f.in_request f.in_response) p.0 in
    let n = and_parts (same_option bytes_eq e.in_request f.in_request) (same_option bytes_eq e.in_response f.in_response) t.1 in
    let s = and_parts (same_sort e.sort f.sort) (same_option same_truth e.modifiable f.modifiable && same_option same_grants e.by_ipx f.by_ipx) p.1 in
    let m = and_parts (same_option same_truth e.modifiable f.modifiable) (same_option same_grants e.by_ipx f.by_ipx) s.1 in
    let place = location-is e.place f.place t.0 in
    let request = same_option-is bytes_eq bytes-is e.in_request f.in_request n.0 in
    let response = same_option-is bytes_eq bytes-is e.in_response f.in_response n.1 in
    let sort = sort-is e.sort f.sort s.0 in
    let modifiable = same_option-is same_truth truth-is e.modifiable f.modifiable m.0 in
    let grants = same_option-is same_grants grants-is e.by_ipx f.by_ipx m.1 in
    λ i. record { place = place i; sort = sort i; in_request = request i; in_response = response i; modifiable = modifiable i; by_ipx = grants i }

element-self : (e : Element) → same_element e e ≡ true
element-self e =
    and_from _ _ (and_from _ _ (location-self e.place) (names-self e.in_request e.in_response))
    (and_from _ _ (sort-self e.sort) (and_from _ _ (option-self same_truth truth-self e.modifiable) (option-self same_grants grants-self e.by_ipx)))

pattern-is : (p q : Pattern) → same_pattern p q ≡ true → p ≡ q
pattern-is (fixed s) (fixed t) e = ap fixed (bytes-is s t e)
pattern-is (fixed s) (variable y) e = cc
pattern-is (variable x) (fixed t) e = cc
pattern-is (variable x) (variable y) e = ap variable (bytes-is x y e)

pattern-self : (p : Pattern) → same_pattern p p ≡ true
pattern-self (fixed s) = bytes-self s
pattern-self (variable x) = bytes-self x

pub mapping-is : (g h : Mapping) → same_mapping g h ≡ true → g ≡ h
mapping-is g h e =
    let p = and_parts (bytes_eq g.method h.method) (same_list same_pattern g.patterns h.patterns && same_list same_element g.elements h.elements) e in
    let q = and_parts (same_list same_pattern g.patterns h.patterns) (same_list same_element g.elements h.elements) p.1 in
    let method = bytes-is g.method h.method p.0 in
    let patterns = same_list-is same_pattern pattern-is g.patterns h.patterns q.0 in
    let elements = same_list-is same_element element-is g.elements h.elements q.1 in
    λ i. record { method = method i; patterns = patterns i; elements = elements i }

pub mapping-self : (g : Mapping) → same_mapping g g ≡ true
mapping-self g = and_from _ _ (bytes-self g.method) (and_from _ _ (list-self same_pattern pattern-self g.patterns) (list-self same_element element-self g.elements))

-- ---- tests in code

bool_same : (a b : Bool) → (a ≡ true → b ≡ true) → (b ≡ true → a ≡ true) → a ≡ b
bool_same true b f g = sym (f refl)
bool_same false true f g = g refl
bool_same false false f g = refl

prefix-is : (p q : Pointer) → is_prefix p q ≡ true → is_prefix q p ≡ true → p ≡ q
prefix-is [] [] a b = refl
prefix-is [] (y ∷ q) a b = cc
prefix-is (x ∷ p) [] a b = cc
prefix-is (x ∷ p) (y ∷ q) a b =
    let c = and_parts (bytes_eq x y) (is_prefix p q) a in
    let d = and_parts (bytes_eq y x) (is_prefix q p) b in
    let here = bytes-is x y c.0 in
    let rest = prefix-is p q c.1 d.1 in
    λ i. here i ∷ rest i

prefix-self : (p : Pointer) → is_prefix p p ≡ true
prefix-self [] = refl
prefix-self (x ∷ p) = and_from _ _ (bytes-self x) (prefix-self p)

text-is : (p q : Pointer) → pointer_text p ≡ pointer_text q → p ≡ q
text-is p q e = let same : p ≡ q = cc (sym (read_pointer-text p) ∙ ap read_pointer e ∙ read_pointer-text q) in same

-- two pointers are equal exactly where their texts are
pub pointer_same : (p q : Pointer) → (is_prefix p q && is_prefix q p) ≡ bytes_eq (pointer_text p) (pointer_text q)
pointer_same p q =
    bool_same (is_prefix p q && is_prefix q p) (bytes_eq (pointer_text p) (pointer_text q))
    (λ e. let c = and_parts (is_prefix p q) (is_prefix q p) e in (bytes_eq-Decides (pointer_text p) (pointer_text q)).1 (ap pointer_text (prefix-is p q c.0 c.1)))
    (λ e. let same = text-is p q (bytes-is (pointer_text p) (pointer_text q) e) in
    and_from _ _ (ap (is_prefix p) (sym same) ∙ prefix-self p) (ap (λ x. is_prefix x p) (sym same) ∙ prefix-self p))

pub grants_same : (r : Bool) (gs hs : List (List ℕ × Bool)) → (IsTrue r ↔ (gs ≡ hs)) → r ≡ same_grants gs hs
grants_same r gs hs h = bool_same r (same_grants gs hs) (λ e. ap (same_grants gs) (sym (h.0 e)) ∙ grants-self gs) (λ e. h.1 (grants-is gs hs e))

-- ---- lists item by item

pub lengths_differ : {A X : Type 0} (view : A → X) (test : X → X → Bool) (xs ys : List A) → length xs ≢ length ys → same_list test (map view xs) (map view ys) ≡ false
lengths_differ view test [] [] h = absurd (h refl)
lengths_differ view test [] (y ∷ ys) h = refl
lengths_differ view test (x ∷ xs) [] h = refl
lengths_differ view test (x ∷ xs) (y ∷ ys) h =
    ap (λ t. test (view x) (view y) && t) (lengths_differ view test xs ys (λ e. h (ap suc e))) ∙ and-false (test (view x) (view y))
  where
    and-false : (b : Bool) → (b && false) ≡ false
    and-false true = refl
    and-false false = refl

pub same_at : {A X : Type 0} (view : A → X) (test : X → X → Bool) (xs ys : List A) (i : ℕ) (x y : A) (all : Bool) → slice_get xs i ≡ Some x → slice_get ys i ≡ Some y
    → same_list test (map view (drop i xs)) (map view (drop i ys)) ≡ all → test (view x) (view y) ≡ true → same_list test (map view (drop (i + 1) xs)) (map view (drop (i + 1) ys)) ≡ all
same_at view test xs ys i x y all a b h e =
    sym (ap (λ t. t && same_list test (map view (drop (i + 1) xs)) (map view (drop (i + 1) ys))) e) ∙ (rw (drop_at xs i x a, drop_at ys i y b) at h)

pub differ_at : {A X : Type 0} (view : A → X) (test : X → X → Bool) (xs ys : List A) (i : ℕ) (x y : A) (all : Bool) → slice_get xs i ≡ Some x → slice_get ys i ≡ Some y
    → same_list test (map view (drop i xs)) (map view (drop i ys)) ≡ all → test (view x) (view y) ≡ false → false ≡ all
differ_at view test xs ys i x y all a b h e =
    sym (ap (λ t. t && same_list test (map view (drop (i + 1) xs)) (map view (drop (i + 1) ys))) e) ∙ (rw (drop_at xs i x a, drop_at ys i y b) at h)

pub pointer_then : (p q : Pointer) → is_prefix p q ≡ true → is_prefix q p ≡ bytes_eq (pointer_text p) (pointer_text q)
pointer_then p q e = ap (λ t. t && is_prefix q p) (sym e) ∙ pointer_same p q

pub pointer_else : (p q : Pointer) → is_prefix p q ≡ false → is_prefix p q ≡ bytes_eq (pointer_text p) (pointer_text q)
pointer_else p q e = e ∙ ap (λ t. t && is_prefix q p) (sym e) ∙ pointer_same p q

-- ---- the first difference of two lists of mappings

take_more_same : {A : Type 0} (view : A → Mapping) (xs ys : List A) (i : ℕ) (x y : A) → slice_get xs i ≡ Some x → slice_get ys i ≡ Some y → take i (map view xs) ≡ take i (map view ys) → view x ≡ view y
    → take (i + 1) (map view xs) ≡ take (i + 1) (map view ys)
take_more_same view xs ys i x y a b h e =
    take_at (map view xs) i (view x) (slice_get-map view xs i ∙ ap (option_map view) a)
    ∙ (λ j. h j ++ e j ∷ [])
    ∙ sym (take_at (map view ys) i (view y) (slice_get-map view ys i ∙ ap (option_map view) b))

pub mappings_same : {A : Type 0} (view : A → Mapping) (xs ys : List A) (i : ℕ) (x y : A) → slice_get xs i ≡ Some x → slice_get ys i ≡ Some y → take i (map view xs) ≡ take i (map view ys) → same_mapping (view x) (view y) ≡ true
    → take (i + 1) (map view xs) ≡ take (i + 1) (map view ys)
mappings_same view xs ys i x y a b h e = take_more_same view xs ys i x y a b h (mapping-is (view x) (view y) e)

mappings_not : (g h : Mapping) → same_mapping g h ≡ false → Some g ≡ Some h → ⊥
mappings_not g h e s = let same : g ≡ h = cc in let no : false ≡ true = sym e ∙ ap (same_mapping g) (sym same) ∙ mapping-self g in cc

pub differs_here : {A : Type 0} (view : A → Mapping) (xs ys : List A) (i : ℕ) (x y : A) → slice_get xs i ≡ Some x → slice_get ys i ≡ Some y → take i (map view xs) ≡ take i (map view ys) → same_mapping (view x) (view y) ≡ false
    → DiffersAt (map view xs) (map view ys) (Some i)
differs_here view xs ys i x y a b h e =
    (h, λ s. mappings_not (view x) (view y) e (sym (slice_get-map view xs i ∙ ap (option_map view) a) ∙ s ∙ (slice_get-map view ys i ∙ ap (option_map view) b)))

there : {A : Type 0} (xs : List A) (i : ℕ) → i < length xs → (x : A) × (slice_get xs i ≡ Some x)
there [] i h = absurd (omega arith)
there (x ∷ xs) zero h = (x, refl)
there (x ∷ xs) (suc i) h = there xs i (omega arith)

-- one list has ended
pub differs_past : {A : Type 0} (view : A → Mapping) (xs ys : List A) (i : ℕ) → i < length xs → length ys ≤ i → take i (map view xs) ≡ take i (map view ys) → DiffersAt (map view xs) (map view ys) (Some i)
differs_past view xs ys i a b h =
    let x = there xs i a in
    let here : slice_get (map view xs) i ≡ Some (view x.0) = slice_get-map view xs i ∙ ap (option_map view) x.1 in
    let none : slice_get (map view ys) i ≡ None = slice_get-map view ys i ∙ ap (option_map view) (slice_get_past ys i b) in
    (h, λ s. none-some (view x.0) (sym none ∙ sym s ∙ here))

pub differs_back : (gs hs : List Mapping) (i : ℕ) → DiffersAt gs hs (Some i) → DiffersAt hs gs (Some i)
differs_back gs hs i d = (sym d.0, λ s. d.1 (sym s))

pub differs_none : {A : Type 0} (view : A → Mapping) (xs ys : List A) (i : ℕ) → length xs ≤ i → length ys ≤ i → take i (map view xs) ≡ take i (map view ys) → map view xs ≡ map view ys
differs_none view xs ys i a b h =
    let one : length (map view xs) ≤ i = (rw (length-map xs view) a) in
    let two : length (map view ys) ≤ i = (rw (length-map ys view) b) in
    sym (take_all i (map view xs) one) ∙ h ∙ take_all i (map view ys) two

pub types_same : (r : Bool) (ss ts : List Sort) → r ≡ same_list same_sort ss ts → r ≡ true → ss ≡ ts
types_same r ss ts e h = same_list-is same_sort sort-is ss ts (sym e ∙ h)
