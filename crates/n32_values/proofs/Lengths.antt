-- Lengths of texts, one part more at a time, where a machine's number may hold less.
use Rattle.std.proofs.Common.{◌≡◌, ℕ, zero, suc, ◌+◌, ◌-◌, ◌*◌, ◌/◌, ◌%◌, ◌<◌, ◌≤◌, min, List, [], ◌∷◌, ◌++◌, length, drop, slice_get, Bool, true, false, ◌==◌, nat_lt, cond, Some, refl, sym, ap, ◌∙◌, if◌then◌else◌, arith}
use Rattle.std.proofs.lemmas.List.{length-append}
use Rattle.std.proofs.lemmas.Bool.{lt-ltb, ne_eqb, eq-eqb}
use Rattle.std.specs.Fmt.{digits, digits_onto, decimal, digit_glyph}
use Rattle.std.specs.Char.{digit_char}
use Rattle.json.specs.Print.{escape, escape_byte, escape_letter, quoted}
use Rattle.spec_documents.specs.Tree.{Tree, Trees, no_items, item, trees, Members, no_members, member}
use Rattle.spec_documents.specs.Fields.{Field, fields}
use Rattle.spec_documents.specs.Compact.{comma_if, compact_text, items_text, members_text}
use Rattle.n32_values.proofs.Trees.{drop_at}

drop_past : {X : Type 0} (xs : List X) (i : ℕ) → length xs ≤ i → drop i xs ≡ []
drop_past [] zero le = refl
drop_past [] (suc i) le = refl
drop_past (x ∷ xs) zero le = absurd (omega arith)
drop_past (x ∷ xs) (suc i) le = drop_past xs i (omega arith)

past_first : (i : ℕ) → nat_lt 0 (i + 1) ≡ true
past_first i = let later : 0 < i + 1 = omega arith in lt-ltb 0 (i + 1) later

item_length : (b : Bool) (t : Tree) (ts : Trees) → length (items_text b (item t ts)) ≡ length (comma_if b) + (length (compact_text t) + length (items_text true ts))
item_length b t ts = length-append (comma_if b) _ ∙ ap (λ n. length (comma_if b) + n) (length-append (compact_text t) _)

pub items_step : (ts : List Tree) (i : ℕ) (t : Tree) (total next part top : ℕ) → slice_get ts i ≡ Some t → part ≡ min (length (compact_text t)) top → next ≡ min (total + (length (comma_if (nat_lt 0 i)) + part)) top
    → min (next + length (items_text (nat_lt 0 (i + 1)) (trees (drop (i + 1) ts)))) top ≡ min (total + length (items_text (nat_lt 0 i) (trees (drop i ts)))) top
items_step ts i t total next part top here is grown =
    let whole : length (items_text (nat_lt 0 i) (trees (drop i ts))) ≡ length (comma_if (nat_lt 0 i)) + (length (compact_text t) + length (items_text true (trees (drop (i + 1) ts))))
    = ap (λ us. length (items_text (nat_lt 0 i) (trees us))) (drop_at ts i t here) ∙ item_length (nat_lt 0 i) t (trees (drop (i + 1) ts)) in
    let rest : length (items_text (nat_lt 0 (i + 1)) (trees (drop (i + 1) ts))) ≡ length (items_text true (trees (drop (i + 1) ts))) = ap (λ b. length (items_text b (trees (drop (i + 1) ts)))) (past_first i) in
    omega (arith, whole, rest, is, grown)

pub items_done : (ts : List Tree) (i total top : ℕ) → length ts ≤ i → min (total + length (items_text (nat_lt 0 i) (trees (drop i ts)))) top ≡ min (1 + length (items_text false (trees ts))) top
    → min (total + 1) top ≡ min (1 + length (items_text false (trees ts))) top
items_done ts i total top le h = ap (λ us. min (total + length (items_text (nat_lt 0 i) (trees us))) top) (sym (drop_past ts i le)) ∙ h

-- ---- members

member_length : (b : Bool) (k : List ℕ) (t : Tree) (ms : Members)
    → length (members_text b (member k t ms)) ≡ length (comma_if b) + (length (quoted k) + (1 + (length (compact_text t) + length (members_text true ms))))
member_length b k t ms =
    let outer = length-append (comma_if b) (quoted k ++ 58 ∷ (compact_text t ++ members_text true ms)) in
    let middle = length-append (quoted k) (58 ∷ (compact_text t ++ members_text true ms)) in
    let inner = length-append (compact_text t) (members_text true ms) in
    omega (arith, outer, middle, inner)

pub members_step : (es : List Field) (i : ℕ) (k : List ℕ) (t : Tree) (total next part top : ℕ) → slice_get es i ≡ Some (k, t) → part ≡ min (length (quoted k) + 1 + length (compact_text t)) top
    → next ≡ min (total + (length (comma_if (nat_lt 0 i)) + part)) top
    → min (next + length (members_text (nat_lt 0 (i + 1)) (fields (drop (i + 1) es)))) top ≡ min (total + length (members_text (nat_lt 0 i) (fields (drop i es)))) top
members_step es i k t total next part top here is grown =
    let whole : length (members_text (nat_lt 0 i) (fields (drop i es))) ≡ length (comma_if (nat_lt 0 i)) + (length (quoted k) + (1 + (length (compact_text t) + length (members_text true (fields (drop (i + 1) es))))))
    = ap (λ us. length (members_text (nat_lt 0 i) (fields us))) (drop_at es i (k, t) here) ∙ member_length (nat_lt 0 i) k t (fields (drop (i + 1) es)) in
    let rest : length (members_text (nat_lt 0 (i + 1)) (fields (drop (i + 1) es))) ≡ length (members_text true (fields (drop (i + 1) es))) = ap (λ b. length (members_text b (fields (drop (i + 1) es)))) (past_first i) in
    omega (arith, whole, rest, is, grown)

-- ---- texts

pub escape_step : (bs : List ℕ) (i b total next top : ℕ) → slice_get bs i ≡ Some b → next ≡ min (total + length (escape_byte b)) top
    → min (next + length (escape (drop (i + 1) bs))) top ≡ min (total + length (escape (drop i bs))) top
escape_step bs i b total next top here grown =
    let whole : length (escape (drop i bs)) ≡ length (escape_byte b) + length (escape (drop (i + 1) bs))
    = ap (λ us. length (escape us)) (drop_at bs i b here) ∙ length-append (escape_byte b) _ in
    omega (arith, whole, grown)

-- ---- numbers

-- how many digits are written with this fuel
unfoldable pub digit_number : ℕ → ℕ → ℕ
digit_number zero n = 0
digit_number (suc k) n = if n / 10 == 0 then 1 else suc (digit_number k (n / 10))

onto_by : (k n : ℕ) (acc : List ℕ) (b : Bool) → ((m : ℕ) (xs : List ℕ) → length (digits_onto k 10 false m xs) ≡ digit_number k m + length xs)
    → length (if b then digit_glyph false (n % 10) ∷ acc else digits_onto k 10 false (n / 10) (digit_glyph false (n % 10) ∷ acc)) ≡ (if b then 1 else suc (digit_number k (n / 10))) + length acc
onto_by k n acc true more = omega arith
onto_by k n acc false more = let h = more (n / 10) (digit_glyph false (n % 10) ∷ acc) in omega (arith, h)

onto_length : (k n : ℕ) (acc : List ℕ) → length (digits_onto k 10 false n acc) ≡ digit_number k n + length acc
unfolding digit_number
onto_length zero n acc = omega arith
onto_length (suc k) n acc = onto_by k n acc (n / 10 == 0) (λ m xs. onto_length k m xs)

pub decimal_length : (n : ℕ) → length (decimal n) ≡ digit_number 64 n
unfolding digits
decimal_length n = let h = onto_length 64 n [] in omega (arith, h)

pub last_digit : (k n : ℕ) → 0 < k → n < 10 → digit_number k n ≡ 1
unfolding digit_number
last_digit zero n some small = absurd (omega arith)
last_digit (suc k) n some small = let none : n / 10 ≡ 0 = omega arith in rw (eq-eqb (n / 10) 0 none) refl

pub more_digits : (k n : ℕ) → 0 < k → 10 ≤ n → digit_number k n ≡ digit_number (k - 1) (n / 10) + 1
unfolding digit_number
more_digits zero n some big = absurd (omega arith)
more_digits (suc k) n some big =
    let less : suc k - 1 ≡ k = omega arith in
    let one : suc (digit_number k (n / 10)) ≡ digit_number k (n / 10) + 1 = omega arith in
    rw (ne_eqb (n / 10) 0 (λ e. omega (arith, e))) (one ∙ ap (λ j. digit_number j (n / 10) + 1) (sym less))

pub no_digits : (n : ℕ) → digit_number 0 n ≡ 0
unfolding digit_number
no_digits n = refl

-- ---- no fewer than there are

comma_short : (b : Bool) → length (comma_if b) ≤ 1
comma_short true = omega arith
comma_short false = omega arith

items_end : (b : Bool) (ts : Trees) → 1 ≤ length (items_text b ts)
items_end b no_items = omega arith
items_end b (item t ts) = omega (arith, item_length b t ts, items_end true ts)

members_end : (b : Bool) (ms : Members) → 1 ≤ length (members_text b ms)
members_end b no_members = omega arith
members_end b (member k t ms) = omega (arith, member_length b k t ms, members_end true ms)

pub most_items_step : (ts : List Tree) (i : ℕ) (t : Tree) (total next part top all : ℕ) → slice_get ts i ≡ Some t → min (length (compact_text t) + 1) top ≤ part → next ≡ min (total + part) top
    → min all top + 1 ≤ total + length (items_text (nat_lt 0 i) (trees (drop i ts))) → min all top + 1 ≤ next + length (items_text (nat_lt 0 (i + 1)) (trees (drop (i + 1) ts)))
most_items_step ts i t total next part top all here is grown h =
    let whole : length (items_text (nat_lt 0 i) (trees (drop i ts))) ≡ length (comma_if (nat_lt 0 i)) + (length (compact_text t) + length (items_text true (trees (drop (i + 1) ts))))
    = ap (λ us. length (items_text (nat_lt 0 i) (trees us))) (drop_at ts i t here) ∙ item_length (nat_lt 0 i) t (trees (drop (i + 1) ts)) in
    let rest : length (items_text (nat_lt 0 (i + 1)) (trees (drop (i + 1) ts))) ≡ length (items_text true (trees (drop (i + 1) ts))) = ap (λ b. length (items_text b (trees (drop (i + 1) ts)))) (past_first i) in
    omega (arith, whole, rest, is, grown, h, comma_short (nat_lt 0 i), items_end true (trees (drop (i + 1) ts)))

pub most_members_step : (es : List Field) (i : ℕ) (k : List ℕ) (t : Tree) (total next part top all : ℕ) → slice_get es i ≡ Some (k, t) → min (length (quoted k) + 2 + length (compact_text t)) top ≤ part → next ≡ min (total + part) top
    → min all top + 1 ≤ total + length (members_text (nat_lt 0 i) (fields (drop i es))) → min all top + 1 ≤ next + length (members_text (nat_lt 0 (i + 1)) (fields (drop (i + 1) es)))
most_members_step es i k t total next part top all here is grown h =
    let whole : length (members_text (nat_lt 0 i) (fields (drop i es))) ≡ length (comma_if (nat_lt 0 i)) + (length (quoted k) + (1 + (length (compact_text t) + length (members_text true (fields (drop (i + 1) es))))))
    = ap (λ us. length (members_text (nat_lt 0 i) (fields us))) (drop_at es i (k, t) here) ∙ member_length (nat_lt 0 i) k t (fields (drop (i + 1) es)) in
    let rest : length (members_text (nat_lt 0 (i + 1)) (fields (drop (i + 1) es))) ≡ length (members_text true (fields (drop (i + 1) es))) = ap (λ b. length (members_text b (fields (drop (i + 1) es)))) (past_first i) in
    omega (arith, whole, rest, is, grown, h, comma_short (nat_lt 0 i), members_end true (fields (drop (i + 1) es)))

one_of : (a b : Bool) (p q r s t u v w x : ℕ) → length (cond a (p ∷ q ∷ []) (cond b (r ∷ s ∷ t ∷ u ∷ v ∷ w ∷ []) (x ∷ []))) ≤ 6
one_of true b p q r s t u v w x = omega arith
one_of false true p q r s t u v w x = omega arith
one_of false false p q r s t u v w x = omega arith

escape_short : (b : ℕ) → length (escape_byte b) ≤ 6
unfolding escape_byte
escape_short b = one_of (nat_lt 0 (escape_letter b)) (nat_lt b 32) 92 (escape_letter b) 92 117 48 48 (digit_char (b / 16)) (digit_char (b % 16)) b

escapes_short : (bs : List ℕ) → length (escape bs) ≤ 6 * length bs
escapes_short [] = omega arith
escapes_short (b ∷ bs) = omega (arith, length-append (escape_byte b) (escape bs), escape_short b, escapes_short bs)

pub most_quoted : (bs : List ℕ) → length (quoted bs) ≤ length bs * 6 + 2
most_quoted bs = omega (arith, length-append (escape bs) (34 ∷ []), escapes_short bs)
