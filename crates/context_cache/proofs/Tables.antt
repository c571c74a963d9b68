-- What the table of contexts answers where one of them has changed, or one more has come.
use Rattle.std.proofs.Common.{◌≡◌, ◌∙◌, ℕ, ◌<◌, ◌≤◌, zero, suc, Bool, true, false, cond, ◌==◌, List, [], ◌∷◌, ◌++◌, map, length, get_or, slice_get, position, Option, Some, None, is_some, IfSome, IfNone, Result, Ok, Err, OnOk, OnErr, option_map, bytes_eq, refl, ap, sym, subst, arith}
use Rattle.std.specs.Map.{lookup, keys_of}
use Rattle.std.specs.String.{string_bytes}
use Rattle.std.specs.Cmp.Lexicographic.{bytes_decides}
use Rattle.std.proofs.lemmas.Bool.{and_parts, and_from, eqb-true, eq-eqb}
use Rattle.std.proofs.lemmas.List.Quantifiers.{position-Some}
use Rattle.indexmap.specs.IndexMap.{set_value_at}
use Rattle.context_cache.specs.Known.{Known, nothing_known}
use Rattle.context_cache.specs.Tables.{is_named, known_at, room_at, known_of, room_of, kept_of, names}
use Rattle.context_cache.specs.declared.name.Name.{Name}
use Rattle.context_cache.specs.declared.cache.Cache.{Cache}

-- ---- names

pub named_by : (node : List ℕ) (id : ℕ) (n : List ℕ) (i : ℕ) → n ≡ node → i ≡ id → is_named node id n i ≡ true
named_by node id n i e f = and_from (bytes_eq node n) (id == i) ((bytes_decides node n).1 (sym e)) (eq-eqb id i (sym f))

both_named : (n : List ℕ) (j : ℕ) (node : List ℕ) (id : ℕ) (a : List ℕ) (i : ℕ) → is_named n j node id ≡ true → is_named n j a i ≡ true → is_named node id a i ≡ true
both_named n j node id a i h k =
    let parts = and_parts (bytes_eq n node) (j == id) h in
    let named : n ≡ node = (bytes_decides n node).0 parts.0 in
    let same : j ≡ id = eqb-true j id parts.1 in
    subst (λ z. is_named node z a i ≡ true) same (subst (λ z. is_named z j a i ≡ true) named k)

alike : (n : List ℕ) (j : ℕ) (node : List ℕ) (id : ℕ) (a : List ℕ) (i : ℕ) → is_named node id a i ≡ true → is_named n j node id ≡ is_named n j a i
alike n j node id a i h =
    let parts = and_parts (bytes_eq node a) (id == i) h in
    let named : node ≡ a = (bytes_decides node a).0 parts.0 in
    let same : id ≡ i = eqb-true id i parts.1 in
    λ t. is_named n j (named t) (same t)

-- ---- a look-up

there : (node : List ℕ) (id : ℕ) (es : List (Name × Cache)) (c : Cache) → lookup (names node id) es ≡ Some c → known_of c ≡ known_at node id (map kept_of es)
there node id [] c e = cc
there node id (p ∷ es) c e = step (names node id p.0) (there node id es c) e
  where
    step : (b : Bool) → (lookup (names node id) es ≡ Some c → known_of c ≡ known_at node id (map kept_of es)) → cond b (Some p.1) (lookup (names node id) es) ≡ Some c → known_of c ≡ cond b (known_of p.1) (known_at node id (map kept_of es))
    step true more e = let same : c ≡ p.1 = cc in ap known_of same
    step false more e = more e

missing : (node : List ℕ) (id : ℕ) (es : List (Name × Cache)) → lookup (names node id) es ≡ None → nothing_known ≡ known_at node id (map kept_of es)
missing node id [] e = refl
missing node id (p ∷ es) e = step (names node id p.0) (missing node id es) e
  where
    step : (b : Bool) → (lookup (names node id) es ≡ None → nothing_known ≡ known_at node id (map kept_of es)) → cond b (Some p.1) (lookup (names node id) es) ≡ None → nothing_known ≡ cond b (known_of p.1) (known_at node id (map kept_of es))
    step true more e = cc
    step false more e = more e

pub found : {R : Type 0} (now : R → Cache) (node : List ℕ) (id : ℕ) (o : Option R) (es : List (Name × Cache)) → option_map now o ≡ lookup (names node id) es → IfSome o (λ r. known_of (now r) ≡ known_at node id (map kept_of es))
found now node id None es e = tt
found now node id (Some r) es e = there node id es (now r) (sym e)

pub not_found : {R : Type 0} (now : R → Cache) (node : List ℕ) (id : ℕ) (o : Option R) (es : List (Name × Cache)) → option_map now o ≡ lookup (names node id) es → IfNone o (nothing_known ≡ known_at node id (map kept_of es))
not_found now node id None es e = missing node id es (sym e)
not_found now node id (Some r) es e = tt

pub no_room : (node : List ℕ) (id : ℕ) (es : List (Name × Cache)) → lookup (names node id) es ≡ None → room_at node id (map kept_of es) ≡ 0
no_room node id [] e = refl
no_room node id (p ∷ es) e = step (names node id p.0) (no_room node id es) e
  where
    step : (b : Bool) → (lookup (names node id) es ≡ None → room_at node id (map kept_of es) ≡ 0) → cond b (Some p.1) (lookup (names node id) es) ≡ None → cond b (room_of p.1) (room_at node id (map kept_of es)) ≡ 0
    step true more e = cc
    step false more e = more e

-- ---- the first of a name

abbrev pub IsFirst : (Name → Bool) → List (Name × Cache) → ℕ → Type 0
IsFirst t [] i = ⊥
IsFirst t (e ∷ es) zero = t e.0 ≡ true
IsFirst t (e ∷ es) (suc i) = (t e.0 ≡ false) × IsFirst t es i

is_first : (t : Name → Bool) (d : Name) (es : List (Name × Cache)) (i : ℕ) → i < length (keys_of es) → t (get_or (keys_of es) i d) ≡ true → ((k : ℕ) → k < i → t (get_or (keys_of es) k d) ≡ false) → IsFirst t es i
is_first t d [] i lt at before = absurd (omega (arith, lt))
is_first t d (e ∷ es) zero lt at before = at
is_first t d (e ∷ es) (suc i) lt at before = (before 0 (omega arith), is_first t d es i (omega (arith, lt)) at (λ k less. before (suc k) (omega (arith, less))))

pub position_first : (t : Name → Bool) (es : List (Name × Cache)) (i : ℕ) → position t (keys_of es) ≡ Some i → IsFirst t es i
position_first t [] i e = cc
position_first t (p ∷ es) i e = let h = position-Some t (keys_of (p ∷ es)) i p.0 e in is_first t p.0 (p ∷ es) i h.0 h.1 h.2

-- ---- one context has changed

pub changed : (f : Known → Known) (node : List ℕ) (id : ℕ) (n : List ℕ) (j : ℕ) (es : List (Name × Cache)) (i : ℕ) (k : Name) (v w : Cache) → IsFirst (names node id) es i → slice_get es i ≡ Some (k, v) → known_of w ≡ f (known_of v)
    → known_at n j (map kept_of (set_value_at es i w)) ≡ cond (is_named n j node id) (f (known_at node id (map kept_of es))) (known_at n j (map kept_of es))
changed f node id n j [] i k v w first at e = absurd first
changed f node id n j (p ∷ es) zero k v w first at e =
    let same : v ≡ p.1 = ap (λ z. z.1) (let all : (k, v) ≡ p = cc in all) in
    head (is_named n j (string_bytes p.0.node) p.0.id) (is_named n j node id) (names node id p.0) (known_of w) (known_of p.1) (known_at n j (map kept_of es)) (known_at node id (map kept_of es))
    (alike n j node id (string_bytes p.0.node) p.0.id first) first (subst (λ z. known_of w ≡ f (known_of z)) same e)
  where
    head : (b c t : Bool) (W E R S : Known) → c ≡ b → t ≡ true → W ≡ f E → cond b W R ≡ cond c (f (cond t E S)) (cond b E R)
    head true true true W E R S x y h = h
    head false false true W E R S x y h = refl
    head true false t W E R S x y h = cc
    head false true t W E R S x y h = cc
    head b c false W E R S x y h = cc
changed f node id n j (p ∷ es) (suc i) k v w first at e =
    tail (is_named n j (string_bytes p.0.node) p.0.id) (is_named n j node id) (names node id p.0) (known_of p.1) (known_at n j (map kept_of (set_value_at es i w))) (known_at node id (map kept_of es)) (known_at n j (map kept_of es))
    first.0 (λ x y. both_named n j node id (string_bytes p.0.node) p.0.id x y) (changed f node id n j es i k v w first.1 at e)
  where
    tail : (b c t : Bool) (E X K R : Known) → t ≡ false → (c ≡ true → b ≡ true → t ≡ true) → X ≡ cond c (f K) R → cond b E X ≡ cond c (f (cond t E K)) (cond b E R)
    tail true true false E X K R x y h = let clash = y refl refl in cc
    tail true false false E X K R x y h = refl
    tail false true false E X K R x y h = h
    tail false false false E X K R x y h = h
    tail b c true E X K R x y h = cc

pub unchanged : (n : List ℕ) (j : ℕ) (es : List (Name × Cache)) (i : ℕ) (k : Name) (v w : Cache) → slice_get es i ≡ Some (k, v) → known_of w ≡ known_of v → known_at n j (map kept_of (set_value_at es i w)) ≡ known_at n j (map kept_of es)
unchanged n j [] i k v w at e = refl
unchanged n j (p ∷ es) zero k v w at e =
    let same : v ≡ p.1 = ap (λ z. z.1) (let all : (k, v) ≡ p = cc in all) in
    ap (λ z. cond (is_named n j (string_bytes p.0.node) p.0.id) z (known_at n j (map kept_of es))) (subst (λ z. known_of w ≡ known_of z) same e)
unchanged n j (p ∷ es) (suc i) k v w at e = ap (λ z. cond (is_named n j (string_bytes p.0.node) p.0.id) (known_of p.1) z) (unchanged n j es i k v w at e)

pub room_set : (node : List ℕ) (id : ℕ) (es : List (Name × Cache)) (i : ℕ) (w : Cache) → IsFirst (names node id) es i → room_at node id (map kept_of (set_value_at es i w)) ≡ room_of w
room_set node id [] i w first = absurd first
room_set node id (p ∷ es) zero w first = ap (λ b. cond b (room_of w) (room_at node id (map kept_of es))) first
room_set node id (p ∷ es) (suc i) w first = ap (λ b. cond b (room_of p.1) (room_at node id (map kept_of (set_value_at es i w)))) first.0 ∙ room_set node id es i w first.1

pub room_here : (node : List ℕ) (id : ℕ) (es : List (Name × Cache)) (i : ℕ) (k : Name) (v : Cache) → IsFirst (names node id) es i → slice_get es i ≡ Some (k, v) → room_at node id (map kept_of es) ≡ room_of v
room_here node id [] i k v first at = absurd first
room_here node id (p ∷ es) zero k v first at =
    let same : p.1 ≡ v = ap (λ z. z.1) (let all : p ≡ (k, v) = cc in all) in
    ap (λ b. cond b (room_of p.1) (room_at node id (map kept_of es))) first ∙ ap room_of same
room_here node id (p ∷ es) (suc i) k v first at = ap (λ b. cond b (room_of p.1) (room_at node id (map kept_of es))) first.0 ∙ room_here node id es i k v first.1 at

-- ---- one more context

pub known_more : (n : List ℕ) (j : ℕ) (es : List (Name × Cache)) (k : Name) (v : Cache) → known_of v ≡ nothing_known → known_at n j (map kept_of (es ++ (k, v) ∷ [])) ≡ known_at n j (map kept_of es)
known_more n j [] k v e = step (names n j k)
  where
    step : (b : Bool) → cond b (known_of v) nothing_known ≡ nothing_known
    step true = e
    step false = refl
known_more n j (p ∷ es) k v e = ap (λ z. cond (names n j p.0) (known_of p.1) z) (known_more n j es k v e)

pub room_more : (node : List ℕ) (id : ℕ) (es : List (Name × Cache)) (k : Name) (v : Cache) → lookup (names node id) es ≡ None → is_named node id (string_bytes k.node) k.id ≡ true → room_at node id (map kept_of (es ++ (k, v) ∷ [])) ≡ room_of v
room_more node id [] k v none named = ap (λ b. cond b (room_of v) 0) named
room_more node id (p ∷ es) k v none named = step (names node id p.0) (λ e. room_more node id es k v e named) none
  where
    step : (b : Bool) → (lookup (names node id) es ≡ None → room_at node id (map kept_of (es ++ (k, v) ∷ [])) ≡ room_of v) → cond b (Some p.1) (lookup (names node id) es) ≡ None → cond b (room_of p.1) (room_at node id (map kept_of (es ++ (k, v) ∷ []))) ≡ room_of v
    step true more e = cc
    step false more e = more e

pub none_from : {X : Type 0} (o : Option X) → is_some o ≡ false → o ≡ None
none_from None e = refl
none_from (Some x) e = cc

pub put_known : {X E : Type 0} (n : List ℕ) (j : ℕ) (es new : List (Name × Cache)) (k : Name) (v : Cache) (r : Result X E) → OnOk r (new ≡ es ++ (k, v) ∷ []) → OnErr r (new ≡ es) → known_of v ≡ nothing_known → known_at n j (map kept_of new) ≡ known_at n j (map kept_of es)
put_known n j es new k v (Ok x) ok err e = ap (λ z. known_at n j (map kept_of z)) ok ∙ known_more n j es k v e
put_known n j es new k v (Err x) ok err e = ap (λ z. known_at n j (map kept_of z)) err

pub put_room : {X E : Type 0} (node : List ℕ) (id : ℕ) (es new : List (Name × Cache)) (k : Name) (v : Cache) (r : Result X E) → OnOk r (new ≡ es ++ (k, v) ∷ []) → lookup (names node id) es ≡ None → is_named node id (string_bytes k.node) k.id ≡ true → 1 ≤ room_of v → OnOk r (1 ≤ room_at node id (map kept_of new))
put_room node id es new k v (Ok x) ok none named room =
    let all : room_at node id (map kept_of new) ≡ room_of v = ap (λ z. room_at node id (map kept_of z)) ok ∙ room_more node id es k v none named in
    omega (arith, all, room)
put_room node id es new k v (Err x) ok none named room = tt
