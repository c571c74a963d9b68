-- What stands in clear in a message is what is found part by part.
use Rattle.std.proofs.Common.{◌≡◌, ℕ, suc, ◌+◌, List, [], ◌∷◌, ◌++◌, map, Bool, true, false, not, ◌&&◌, Option, Some, None, option_map, slice_get, refl, sym, ap, ◌∙◌, arith, if◌then◌else◌}
use Rattle.spec_documents.specs.Tree.{Tree}
use Rattle.spec_documents.specs.Place.{Pointer}
use Rattle.spec_messages.specs.Message.{Head, request, response, Message, Kind, kind_of}
use Rattle.spec_messages.specs.Policy.{Policy, Address, body_at, Spot, segment_spot, pair_spot, header_spot, body_spot, is_secret_segment, is_secret_pair, is_secret_header, is_secret_node, numbered, part_value, value_or_null, outermost, body_secrets, line_secrets, spot_address, query_address, header_address, query_pairs}
use Rattle.spec_exchange.specs.Rebuilding.{first_that, is_hidden, is_body_hole, in_clear}
use Rattle.sealing_check.specs.Found.{or_else, first_address, segment_site, pair_site, header_site, segment_clear, clear_line, clear_headers, clear_body, clear_found}
use Rattle.sealing_check.proofs.Walk.{walked}

-- the address f of the first place that passes g
abbrev first_open : (Spot → Bool) → (Spot → Address) → List (Spot × Tree) → Option Address
first_open g f ss = option_map f (first_that g (map (λ s. s.0) ss))

open-append : (g : Spot → Bool) (f : Spot → Address) (xs ys : List (Spot × Tree)) → first_open g f (xs ++ ys) ≡ or_else (first_open g f xs) (first_open g f ys)
open-append g f [] ys = refl
open-append g f (x ∷ xs) ys = by (g x.0) refl (open-append g f xs ys)
  where
    by : (t : Bool) → g x.0 ≡ t → first_open g f (xs ++ ys) ≡ or_else (first_open g f xs) (first_open g f ys) → first_open g f ((x ∷ xs) ++ ys) ≡ or_else (first_open g f (x ∷ xs)) (first_open g f ys)
    by true e h = rw e refl
    by false e h = rw e h

or_assoc : (a b c : Option Address) → or_else (or_else a b) c ≡ or_else a (or_else b c)
or_assoc None b c = refl
or_assoc (Some x) b c = refl

-- ---- segments, pairs, headers

shifted : (i n : ℕ) → suc i + n ≡ i + suc n
shifted i n = omega arith

none_added : (i : ℕ) → i + 0 ≡ i
none_added i = omega arith

numbered_step : {X : Type 0} (test : ℕ → X → Bool) (spot : ℕ → Spot) (value : X → Tree) (g : Spot → Bool) (f : Spot → Address) (i : ℕ) (x : X) (xs : List X) (t u : Bool) (a : Address) (more : Option Address)
    → test i x ≡ t → g (spot i) ≡ u → f (spot i) ≡ a → first_open g f (numbered test spot value (suc i) xs) ≡ more
    → first_open g f (numbered test spot value i (x ∷ xs)) ≡ (if test i x && g (spot i) then Some a else more)
numbered_step test spot value g f i x xs true true a more et eu is h = rw (et, eu) (ap Some is)
numbered_step test spot value g f i x xs true false a more et eu is h = rw (et, eu) h
numbered_step test spot value g f i x xs false u a more et eu is h = rw et h

numbered_open : {X : Type 0} (test : ℕ → X → Bool) (spot : ℕ → Spot) (value : X → Tree) (g : Spot → Bool) (f : Spot → Address) (address : ℕ → X → Address) (all : List X)
    → ((j : ℕ) (x : X) → slice_get all j ≡ Some x → f (spot j) ≡ address j x)
    → (i : ℕ) (xs : List X) → ((n : ℕ) → slice_get all (i + n) ≡ slice_get xs n)
    → first_open g f (numbered test spot value i xs) ≡ first_address (λ j x. test j x && g (spot j)) address i xs
numbered_open test spot value g f address all is i [] h = refl
numbered_open test spot value g f address all is i (x ∷ xs) h =
    let at_i : slice_get all i ≡ Some x = ap (slice_get all) (sym (none_added i)) ∙ h 0 in
    numbered_step test spot value g f i x xs (test i x) (g (spot i)) (address i x) (first_address (λ j x. test j x && g (spot j)) address (suc i) xs) refl refl (is i x at_i)
    (numbered_open test spot value g f address all is (suc i) xs (λ n. ap (slice_get all) (shifted i n) ∙ h (suc n)))

from_start : {X : Type 0} (xs : List X) (n : ℕ) → slice_get xs (0 + n) ≡ slice_get xs n
from_start xs n = let same : 0 + n ≡ n = omega arith in ap (slice_get xs) same

-- ---- the body

body_first : (g : Spot → Bool) (f : Spot → Address) → ((q : Pointer) → f (body_spot q) ≡ body_at q) → (ps : List (Pointer × Tree))
    → first_open g f (map (λ s. (body_spot s.0, s.1)) ps) ≡ option_map body_at (first_that (λ q. g (body_spot q)) (map (λ s. s.0) ps))
body_first g f is [] = refl
body_first g f is (p ∷ ps) = by (g (body_spot p.0)) refl (body_first g f is ps)
  where
    by : (t : Bool) → g (body_spot p.0) ≡ t → first_open g f (map (λ s. (body_spot s.0, s.1)) ps) ≡ option_map body_at (first_that (λ q. g (body_spot q)) (map (λ s. s.0) ps))
        → first_open g f (map (λ s. (body_spot s.0, s.1)) (p ∷ ps)) ≡ option_map body_at (first_that (λ q. g (body_spot q)) (map (λ s. s.0) (p ∷ ps)))
    by true e h = rw e (ap Some (is p.0))
    by false e h = rw e h

body_open : (pol : Policy) (k : Option ℕ) (kind : Kind) (c m : Message) (b : Option Tree)
    → first_open (λ s. not (is_hidden c s)) (spot_address pol k m) (map (λ s. (body_spot s.0, s.1)) (body_secrets pol k kind b)) ≡ clear_body pol k kind c b
body_open pol k kind c m None = refl
body_open pol k kind c m (Some t) =
    body_first (λ s. not (is_hidden c s)) (spot_address pol k m) (λ q. refl) (outermost (is_secret_node pol k kind t) [] t)
    ∙ ap (option_map body_at) (walked (is_body_hole c.body) (is_secret_node pol k kind t) c.body [] t (λ r. refl))

-- ---- the message

line_open : (pol : Policy) (k : Option ℕ) (kind : Kind) (c m : Message) (h : Head) → m.head ≡ h
    → first_open (λ s. not (is_hidden c s)) (spot_address pol k m) (line_secrets pol k kind h) ≡ clear_line pol k kind c h
line_open pol k kind c m (response s) e = refl
line_open pol k kind c m (request l) e =
    let g : Spot → Bool = λ s. not (is_hidden c s) in
    let f : Spot → Address = spot_address pol k m in
    open-append g f (numbered (is_secret_segment pol k kind) segment_spot part_value 0 l.segments) (numbered (λ i. is_secret_pair pol k kind) pair_spot (λ p. value_or_null p.value) 0 l.query)
    ∙ ap (λ o. or_else o (first_open g f (numbered (λ i. is_secret_pair pol k kind) pair_spot (λ p. value_or_null p.value) 0 l.query)))
    (numbered_open (is_secret_segment pol k kind) segment_spot part_value g f (segment_site pol k) l.segments (λ j x is. refl) 0 l.segments (from_start l.segments))
    ∙ ap (or_else (first_address (segment_clear pol k kind c) (segment_site pol k) 0 l.segments))
    (numbered_open (λ i. is_secret_pair pol k kind) pair_spot (λ p. value_or_null p.value) g f pair_site l.query
    (λ j x is. ap query_address (ap (λ x. slice_get (query_pairs x) j) e ∙ is)) 0 l.query (from_start l.query))

-- the definition, part by part
pub in_clear_found : (pol : Policy) (k : Option ℕ) (c m : Message) → in_clear pol k c m ≡ clear_found pol k (kind_of m) c m
in_clear_found pol k c m =
    let kind = kind_of m in
    let g : Spot → Bool = λ s. not (is_hidden c s) in
    let f : Spot → Address = spot_address pol k m in
    let ls = line_secrets pol k kind m.head in
    let hs = numbered (λ i. is_secret_header pol k kind) header_spot (λ h. part_value h.value) 0 m.headers in
    let bs = map (λ s. (body_spot s.0, s.1)) (body_secrets pol k kind m.body) in
    open-append g f (ls ++ hs) bs
    ∙ ap (λ o. or_else o (first_open g f bs)) (open-append g f ls hs)
    ∙ or_assoc (first_open g f ls) (first_open g f hs) (first_open g f bs)
    ∙ ap (λ o. or_else o (or_else (first_open g f hs) (first_open g f bs))) (line_open pol k kind c m m.head refl)
    ∙ ap (λ o. or_else (clear_line pol k kind c m.head) (or_else o (first_open g f bs)))
    (numbered_open (λ i. is_secret_header pol k kind) header_spot (λ h. part_value h.value) g f header_site m.headers (λ j x is. ap header_address is) 0 m.headers (from_start m.headers))
    ∙ ap (λ o. or_else (clear_line pol k kind c m.head) (or_else (clear_headers pol k kind c m.headers) o)) (body_open pol k kind c m m.body)
