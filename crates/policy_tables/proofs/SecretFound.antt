-- Whether an address is secret, found part by part of the message.
use Rattle.std.proofs.Common.{◌≡◌, ℕ, suc, ◌+◌, List, [], ◌∷◌, ◌++◌, map, Bool, true, false, ◌&&◌, ◌||◌, Option, Some, None, slice_get, refl, sym, ap, ap₂, ◌∙◌, arith}
use Rattle.std.specs.List.{list_any}
use Rattle.std.proofs.lemmas.Slice.Eq.{bytes_eq-Decides}
use Rattle.spec_documents.specs.Tree.{Tree}
use Rattle.spec_documents.proofs.MarkLemmas.{any-append}
use Rattle.spec_messages.specs.Message.{Part, Head, request, response, Message, Kind, kind_of}
use Rattle.spec_messages.specs.Policy.{Policy, LinePart, line_kind, line_method, line_scheme, line_authority, line_version, line_path, line_query_order, line_header_order, line_status, Address, line, path_var, query, header_at, body_at, Spot, segment_spot, pair_spot, header_spot, body_spot, Pattern, fixed, variable, touches, is_covered, is_secret, is_secret_part, is_secret_value, is_secret_segment, is_secret_pair, is_secret_header, is_secret_node, numbered, part_value, value_or_null, outermost, body_secrets, line_secrets, spot_address, segment_address, pattern_address, patterns_of, mapping_at, query_address, header_address, query_pairs}
use Rattle.spec_messages.specs.Block.{is_ordered_body}
use Rattle.spec_messages.proofs.OutsideLemmas.{any_map}
use Rattle.policy_tables.specs.Secrecy.{secret_segment, secret_header, body_secret, line_secret, found_secret}
use Rattle.policy_tables.proofs.BodyNear.{near_secret}

-- some element passes, by its number from i on
abbrev any_from : {X : Type 0} → (ℕ → X → Bool) → ℕ → List X → Bool
any_from f i [] = false
any_from f i (x ∷ xs) = f i x || any_from f (suc i) xs

numbered_step : {X : Type 0} (test : ℕ → X → Bool) (spot : ℕ → Spot) (value : X → Tree) (g : Spot → Bool) (i : ℕ) (x : X) (xs : List X) (t r : Bool) → test i x ≡ t
    → list_any (λ s. g s.0) (numbered test spot value (suc i) xs) ≡ r → list_any (λ s. g s.0) (numbered test spot value i (x ∷ xs)) ≡ (t && g (spot i)) || r
numbered_step test spot value g i x xs true r e h = rw e (ap (λ b. g (spot i) || b) h)
numbered_step test spot value g i x xs false r e h = rw e h

numbered_any : {X : Type 0} (test : ℕ → X → Bool) (spot : ℕ → Spot) (value : X → Tree) (g : Spot → Bool) (i : ℕ) (xs : List X)
    → list_any (λ s. g s.0) (numbered test spot value i xs) ≡ any_from (λ j x. test j x && g (spot j)) i xs
numbered_any test spot value g i [] = refl
numbered_any test spot value g i (x ∷ xs) = numbered_step test spot value g i x xs (test i x) (any_from (λ j x. test j x && g (spot j)) (suc i) xs) refl (numbered_any test spot value g (suc i) xs)

-- ---- addresses that touch are the same, but in the body

line_same : (l : LinePart) → touches (line line_path) (line l) ≡ true → line_path ≡ l
line_same line_kind e = cc
line_same line_method e = cc
line_same line_scheme e = cc
line_same line_authority e = cc
line_same line_version e = cc
line_same line_path e = refl
line_same line_query_order e = cc
line_same line_header_order e = cc
line_same line_status e = cc

pattern_same : (o : Option Pattern) (a : Address) → touches (pattern_address o) a ≡ true → pattern_address o ≡ a
pattern_same None (line l) e = ap line (line_same l e)
pattern_same None (path_var y) e = cc
pattern_same None (query y) e = cc
pattern_same None (header_at y) e = cc
pattern_same None (body_at q) e = cc
pattern_same (Some (fixed s)) (line l) e = ap line (line_same l e)
pattern_same (Some (fixed s)) (path_var y) e = cc
pattern_same (Some (fixed s)) (query y) e = cc
pattern_same (Some (fixed s)) (header_at y) e = cc
pattern_same (Some (fixed s)) (body_at q) e = cc
pattern_same (Some (variable x)) (line l) e = cc
pattern_same (Some (variable x)) (path_var y) e = ap path_var ((bytes_eq-Decides x y).0 e)
pattern_same (Some (variable x)) (query y) e = cc
pattern_same (Some (variable x)) (header_at y) e = cc
pattern_same (Some (variable x)) (body_at q) e = cc

query_same : (x : List ℕ) (a : Address) → touches (query x) a ≡ true → query x ≡ a
query_same x (line l) e = cc
query_same x (path_var y) e = cc
query_same x (query y) e = ap query ((bytes_eq-Decides x y).0 e)
query_same x (header_at y) e = cc
query_same x (body_at q) e = cc

header_same : (x : List ℕ) (a : Address) → touches (header_at x) a ≡ true → header_at x ≡ a
header_same x (line l) e = cc
header_same x (path_var y) e = cc
header_same x (query y) e = cc
header_same x (header_at y) e = ap header_at ((bytes_eq-Decides x y).0 e)
header_same x (body_at q) e = cc

and-false : (b : Bool) → (b && false) ≡ false
and-false true = refl
and-false false = refl

and-true : (b : Bool) → (b && true) ≡ b
and-true true = refl
and-true false = refl

-- what is covered there is covered here, where the two touch
turned : (covered : Address → Bool) (f : Bool → Bool) (b a : Address) (t : Bool) → touches b a ≡ t → (touches b a ≡ true → b ≡ a) → (f (covered b) && t) ≡ (t && f (covered a))
turned covered f b a true e h = and-true (f (covered b)) ∙ ap (λ x. f (covered x)) (h e)
turned covered f b a false e h = and-false (f (covered b))

-- ---- segments, pairs, headers

segments_found : (pol : Policy) (k : Option ℕ) (kind : Kind) (a : Address) (i : ℕ) (ps : List Part)
    → any_from (λ j p. is_secret_segment pol k kind j p && touches (segment_address (patterns_of (mapping_at pol k)) j) a) i ps ≡ secret_segment (patterns_of (mapping_at pol k)) a (is_covered pol k kind a) i ps
segments_found pol k kind a i [] = refl
segments_found pol k kind a i (p ∷ ps) =
    let b = segment_address (patterns_of (mapping_at pol k)) i in
    ap₂ ◌||◌ (turned (is_covered pol k kind) (λ c. is_secret_part c p) b a (touches b a) refl (pattern_same (slice_get (patterns_of (mapping_at pol k)) i) a)) (segments_found pol k kind a (suc i) ps)

shifted : (i n : ℕ) → suc i + n ≡ i + suc n
shifted i n = omega arith

none_added : (i : ℕ) → i + 0 ≡ i
none_added i = omega arith

named_found : {X : Type 0} (address : Option X → Address) (own : X → Address) (secret : X → Bool) (f : X → Bool → Bool) (covered : Address → Bool) (a : Address) (all : List X)
    → ((x : X) → address (Some x) ≡ own x) → ((x : X) → secret x ≡ f x (covered (own x))) → ((x : X) → touches (own x) a ≡ true → own x ≡ a)
    → (i : ℕ) (xs : List X) → ((n : ℕ) → slice_get all (i + n) ≡ slice_get xs n)
    → any_from (λ j x. secret x && touches (address (slice_get all j)) a) i xs ≡ list_any (λ x. touches (own x) a && f x (covered a)) xs
named_found address own secret f covered a all here is same i [] h = refl
named_found address own secret f covered a all here is same i (x ∷ xs) h =
    let at_i : slice_get all i ≡ Some x = ap (slice_get all) (sym (none_added i)) ∙ h 0 in
    ap₂ ◌||◌
    (ap₂ ◌&&◌ (is x) (ap (λ o. touches (address o) a) at_i ∙ ap (λ b. touches b a) (here x)) ∙ turned covered (f x) (own x) a (touches (own x) a) refl (same x))
    (named_found address own secret f covered a all here is same (suc i) xs (λ n. ap (slice_get all) (shifted i n) ∙ h (suc n)))

from_start : {X : Type 0} (xs : List X) (n : ℕ) → slice_get xs (0 + n) ≡ slice_get xs n
from_start xs n = let same : 0 + n ≡ n = omega arith in ap (slice_get xs) same

-- ---- the body

any_none : {A : Type 0} (xs : List A) → list_any (λ x. false) xs ≡ false
any_none [] = refl
any_none (x ∷ xs) = any_none xs

nodes_found : (pol : Policy) (k : Option ℕ) (kind : Kind) (a : Address) (o : Option Tree) → is_ordered_body o ≡ true → list_any (λ s. touches (body_at s.0) a) (body_secrets pol k kind o) ≡ body_secret pol k kind a o
nodes_found pol k kind a None h = refl
nodes_found pol k kind (line l) (Some t) h = any_none (outermost (is_secret_node pol k kind t) [] t)
nodes_found pol k kind (path_var x) (Some t) h = any_none (outermost (is_secret_node pol k kind t) [] t)
nodes_found pol k kind (query x) (Some t) h = any_none (outermost (is_secret_node pol k kind t) [] t)
nodes_found pol k kind (header_at x) (Some t) h = any_none (outermost (is_secret_node pol k kind t) [] t)
nodes_found pol k kind (body_at q) (Some t) h = near_secret pol k kind q t h

-- ---- the message

line_found : (pol : Policy) (k : Option ℕ) (m : Message) (a : Address) (h : Head) → m.head ≡ h
    → list_any (λ s. touches (spot_address pol k m s.0) a) (line_secrets pol k (kind_of m) h) ≡ line_secret pol k (is_covered pol k (kind_of m) a) a h
line_found pol k m a (response s) e = refl
line_found pol k m a (request l) e =
    any-append (λ s. touches (spot_address pol k m s.0) a) (numbered (is_secret_segment pol k (kind_of m)) segment_spot part_value 0 l.segments) (numbered (λ i. is_secret_pair pol k (kind_of m)) pair_spot (λ p. value_or_null p.value) 0 l.query)
    ∙ ap₂ ◌||◌
    (numbered_any (is_secret_segment pol k (kind_of m)) segment_spot part_value (λ s. touches (spot_address pol k m s) a) 0 l.segments ∙ segments_found pol k (kind_of m) a 0 l.segments)
    (numbered_any (λ i. is_secret_pair pol k (kind_of m)) pair_spot (λ p. value_or_null p.value) (λ s. touches (spot_address pol k m s) a) 0 l.query
    ∙ named_found query_address (λ p. query p.name) (is_secret_pair pol k (kind_of m)) (λ p c. is_secret_value c p.value) (is_covered pol k (kind_of m)) a (query_pairs m.head)
    (λ p. refl) (λ p. refl) (λ p. query_same p.name a) 0 l.query (λ n. ap (λ x. slice_get (query_pairs x) (0 + n)) e ∙ from_start l.query n))

or_assoc : (a b c : Bool) → ((a || b) || c) ≡ (a || (b || c))
or_assoc true b c = refl
or_assoc false b c = refl

-- the definition, part by part
pub secret_found : (pol : Policy) (k : Option ℕ) (m : Message) (a : Address) → is_ordered_body m.body ≡ true → is_secret pol k m a ≡ found_secret pol k m a
secret_found pol k m a o =
    let kind = kind_of m in
    let hs = numbered (λ i. is_secret_header pol k kind) header_spot (λ h. part_value h.value) 0 m.headers in
    let bs = map (λ s. (body_spot s.0, s.1)) (body_secrets pol k kind m.body) in
    any_map (λ s. touches (spot_address pol k m s) a) (λ s. s.0) ((line_secrets pol k kind m.head ++ hs) ++ bs)
    ∙ any-append (λ s. touches (spot_address pol k m s.0) a) (line_secrets pol k kind m.head ++ hs) bs
    ∙ ap₂ ◌||◌
    (any-append (λ s. touches (spot_address pol k m s.0) a) (line_secrets pol k kind m.head) hs
    ∙ ap₂ ◌||◌ (line_found pol k m a m.head refl)
    (numbered_any (λ i. is_secret_header pol k kind) header_spot (λ h. part_value h.value) (λ s. touches (spot_address pol k m s) a) 0 m.headers
    ∙ named_found header_address (λ h. header_at h.name) (is_secret_header pol k kind) (λ h c. is_secret_part c h.value) (is_covered pol k kind) a m.headers
    (λ h. refl) (λ h. refl) (λ h. header_same h.name a) 0 m.headers (from_start m.headers)))
    (any_map (λ s. touches (spot_address pol k m s.0) a) (λ s. (body_spot s.0, s.1)) (body_secrets pol k kind m.body) ∙ nodes_found pol k kind a m.body o)
    ∙ or_assoc (line_secret pol k (is_covered pol k kind a) a m.head) (secret_header a (is_covered pol k kind a) m.headers) (body_secret pol k kind a m.body)
