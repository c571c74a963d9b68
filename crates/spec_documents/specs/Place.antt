-- A JSON Pointer and the node at it (RFC 6901: its text in section 3, its evaluation in section 4).
use Rattle.std.specs.Prelude.{ℕ, suc, ◌+◌, ◌-◌, ◌*◌, List, [], ◌∷◌, ◌++◌, Bool, true, false, not, ◌&&◌, ◌||◌, ◌==◌, Option, Some, None, Result, Ok, Err, if◌then◌else◌, bytes_eq}
use Rattle.std.specs.Char.{is_ascii_digit}
use Rattle.std.specs.Str.{all_ascii_digits}
use Rattle.spec_documents.specs.Tree.{Tree, null, truth, whole, words, items, members, get_item, set_item, get_member, set_member}

abbrev pub Pointer : Type 0
Pointer = List (List ℕ)

-- why nothing is at a place, and why a patch fails
pub data Cause : Type 0 where
  no_place : Cause
  bad_index : Cause
  test_failed : Cause
  into_itself : Cause
  too_deep : Cause

infixl 10 ◌>>=◌
abbrev pub ◌>>=◌ : {A B E : Type 0} → Result A E → (A → Result B E) → Result B E
(Ok x) >>= f = f x
(Err e) >>= f = Err e

-- whether there is a result that passes the test
abbrev pub if_ok : {A E : Type 0} → (A → Bool) → Result A E → Bool
if_ok test (Ok x) = test x
if_ok test (Err e) = false

-- ---- tokens

-- `0`, or digits with no 0 in front
abbrev pub is_index : List ℕ → Bool
is_index [] = false
is_index (d ∷ []) = is_ascii_digit d
is_index (d ∷ e ∷ ds) = (is_ascii_digit d && not (d == 48)) && all_ascii_digits (e ∷ ds)

abbrev pub number_after : ℕ → List ℕ → ℕ
number_after n [] = n
number_after n (d ∷ ds) = number_after (10 * n + (d - 48)) ds

abbrev pub index_number : List ℕ → ℕ
index_number s = number_after 0 s

-- `-`, which names the place after the last item
abbrev pub is_dash : List ℕ → Bool
is_dash x = bytes_eq x (45 ∷ [])

-- ---- the node at a place

-- a token that names no item of a list: it is no index, or nothing is there
abbrev pub no_item : List ℕ → Cause
no_item x = if is_index x || is_dash x then no_place else bad_index

abbrev pub found : Option Tree → Cause → Result Tree Cause
found None why = Err why
found (Some u) why = Ok u

-- the member or item that a token names
abbrev pub child : List ℕ → Tree → Result Tree Cause
child x null = Err no_place
child x (truth b) = Err no_place
child x (whole z) = Err no_place
child x (words s) = Err no_place
child x (items ts) = if is_index x then found (get_item (index_number x) ts) no_place else Err (no_item x)
child x (members ms) = found (get_member x ms) no_place

-- the node at p, or why nothing is there
abbrev pub at : Tree → Pointer → Result Tree Cause
at t [] = Ok t
at t (x ∷ p) = child x t >>= λ u. at u p

-- t with u in place of the member or item that a token names
abbrev pub put_child : List ℕ → Tree → Tree → Tree
put_child x u null = null
put_child x u (truth b) = truth b
put_child x u (whole z) = whole z
put_child x u (words s) = words s
put_child x u (items ts) = items (set_item (index_number x) u ts)
put_child x u (members ms) = members (set_member x u ms)

abbrev pub or_same : Result Tree Cause → Tree → Tree
or_same (Ok t) u = t
or_same (Err why) u = u

-- t with u at p, where something is at p
abbrev pub with : Tree → Pointer → Tree → Tree
with t [] u = u
with t (x ∷ p) u = or_same (child x t >>= λ c. Ok (put_child x (with c p u) t)) t

-- ---- prefixes

abbrev pub is_prefix : Pointer → Pointer → Bool
is_prefix [] q = true
is_prefix (x ∷ p) [] = false
is_prefix (x ∷ p) (y ∷ q) = bytes_eq x y && is_prefix p q

-- q stands strictly beneath p
abbrev pub is_beneath : Pointer → Pointer → Bool
is_beneath [] [] = false
is_beneath [] (y ∷ q) = true
is_beneath (x ∷ p) [] = false
is_beneath (x ∷ p) (y ∷ q) = bytes_eq x y && is_beneath p q

abbrev pub front : Pointer → Pointer
front [] = []
front (x ∷ []) = []
front (x ∷ y ∷ p) = x ∷ front (y ∷ p)

abbrev pub last : Pointer → List ℕ
last [] = []
last (x ∷ []) = x
last (x ∷ y ∷ p) = last (y ∷ p)

-- ---- the text of a pointer: before each token a `/`, with `~` as `~0` and `/` as `~1`

abbrev pub escaped : List ℕ → List ℕ
escaped [] = []
escaped (c ∷ cs) = (if c == 126 then 126 ∷ 48 ∷ [] else (if c == 47 then 126 ∷ 49 ∷ [] else c ∷ [])) ++ escaped cs

abbrev pub pointer_text : Pointer → List ℕ
pointer_text [] = []
pointer_text (x ∷ p) = 47 ∷ (escaped x ++ pointer_text p)

-- a text with a token's first part in hand; a fault has the place of the byte that is wrong
abbrev pub tokens_after : ℕ → List ℕ → List ℕ → Result Pointer ℕ
tokens_after i part [] = Ok (part ∷ [])
tokens_after i part (c ∷ []) = if c == 126 then Err i else (if c == 47 then Ok (part ∷ [] ∷ []) else Ok ((part ++ c ∷ []) ∷ []))
tokens_after i part (c ∷ d ∷ rest) =
    let plain = tokens_after (suc i) (part ++ c ∷ []) (d ∷ rest) in
    let next = tokens_after (suc i) [] (d ∷ rest) >>= λ p. Ok (part ∷ p) in
    let tilde = tokens_after (suc (suc i)) (part ++ 126 ∷ []) rest in
    let slash = tokens_after (suc (suc i)) (part ++ 47 ∷ []) rest in
    if c == 126 then (if d == 48 then tilde else (if d == 49 then slash else Err i)) else (if c == 47 then next else plain)

-- the pointer that a text is, or the byte place of its first fault
abbrev pub read_pointer : List ℕ → Result Pointer ℕ
read_pointer [] = Ok []
read_pointer (c ∷ cs) = if c == 47 then tokens_after 1 [] cs else Err 0
