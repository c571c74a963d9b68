-- Which limit a split passes first, from the numbers that it counts.
use Rattle.std.proofs.Common.{◌≡◌, ℕ, suc, ◌<◌, ◌≤◌, List, [], ◌∷◌, map, length, Bool, true, false, ◌&&◌, nat_le, Option, Ok, Err, refl, sym, ap, ◌∙◌, if◌then◌else◌, arith}
use Rattle.std.proofs.lemmas.Bool.{le-leb, leb-true, and_from}
use Rattle.spec_documents.specs.Compact.{compact_text}
use Rattle.spec_documents.specs.Place.{pointer_text}
use Rattle.spec_messages.specs.Message.{Message, Header, kind_of}
use Rattle.spec_messages.specs.Policy.{Policy, is_secret_header, line_secrets, values}
use Rattle.spec_messages.specs.Split.{cleared, hide_each, hide_header}
use Rattle.spec_messages.specs.Block.{Meta, at_most, in_limits, unless_empty, part_tree, body_leaves, block_of, sent_block}
use Rattle.spec_messages.specs.Splitting.{splitting}
use Rattle.spec_messages.specs.Limits.{many_headers, many_items, many_values, long_block}
use Rattle.reformat_blocks.proofs.Hiding.{length-map}

over : (n m : ℕ) → m < n → nat_le n m ≡ false
over n m h = by (nat_le n m) refl
  where
    by : (b : Bool) → nat_le n m ≡ b → nat_le n m ≡ false
    by true is = let le = leb-true n m is in absurd (omega (arith, le, h))
    by false is = is

at_most-length : {X : Type 0} (n : ℕ) (xs : List X) → at_most n (unless_empty xs) ≡ nat_le (length xs) n
at_most-length n [] = let h = le-leb 0 n (omega arith) in sym h
at_most-length n (x ∷ xs) = refl

kept : {X : Type 0} (b : Bool) (u v : X) (us vs xs : List X) → length us ≡ length xs → length vs ≡ length xs → length (if b then u ∷ us else v ∷ vs) ≡ suc (length xs)
kept true u v us vs xs e f = ap suc e
kept false u v us vs xs e f = ap suc f

hide_each-length : {X : Type 0} (test : ℕ → X → Bool) (put : ℕ → X → X) (i n : ℕ) (xs : List X) → length (hide_each test put i n xs) ≡ length xs
hide_each-length test put i n [] = refl
hide_each-length test put i n (x ∷ xs) = kept (test i x) (put n x) x _ _ xs (hide_each-length test put (suc i) (suc n) xs) (hide_each-length test put (suc i) n xs)

headers_within : (pol : Policy) (k : Option ℕ) (m : Message) (meta : Meta) → at_most 256 (block_of (cleared pol k m) meta).headers ≡ nat_le (length m.headers) 256
headers_within pol k m meta =
    at_most-length 256 (map (λ (h : Header). (h.name, part_tree h.value)) (cleared pol k m).headers)
    ∙ ap (λ n. nat_le n 256) (length-map (λ (h : Header). (h.name, part_tree h.value)) (cleared pol k m).headers
    ∙ hide_each-length (λ i. is_secret_header pol k (kind_of m)) hide_header 0 (length (line_secrets pol k (kind_of m) m.head)) m.headers)

items_within : (pol : Policy) (k : Option ℕ) (m : Message) (meta : Meta) → at_most 4096 (block_of (cleared pol k m) meta).payload ≡ nat_le (length (body_leaves (cleared pol k m).body)) 4096
items_within pol k m meta =
    at_most-length 4096 (map (λ i. (pointer_text i.0, i.1)) (body_leaves (cleared pol k m).body)) ∙ ap (λ n. nat_le n 4096) (length-map (λ i. (pointer_text i.0, i.1)) (body_leaves (cleared pol k m).body))

pub over_headers : (pol : Policy) (k : Option ℕ) (m : Message) (meta : Meta) → 256 < length m.headers → splitting pol k m meta ≡ Err many_headers
over_headers pol k m meta h = rw (headers_within pol k m meta) (rw (over (length m.headers) 256 h) refl)

pub over_items : (pol : Policy) (k : Option ℕ) (m : Message) (meta : Meta) → length m.headers ≤ 256 → 4096 < length (body_leaves (cleared pol k m).body) → splitting pol k m meta ≡ Err many_items
over_items pol k m meta a h = rw (headers_within pol k m meta) (rw (le-leb (length m.headers) 256 a) (rw (items_within pol k m meta) (rw (over (length (body_leaves (cleared pol k m).body)) 4096 h) refl)))

pub over_values : (pol : Policy) (k : Option ℕ) (m : Message) (meta : Meta) → length m.headers ≤ 256 → length (body_leaves (cleared pol k m).body) ≤ 4096 → 1024 < length (values pol k m) → splitting pol k m meta ≡ Err many_values
over_values pol k m meta a b h =
    rw (headers_within pol k m meta) (rw (le-leb (length m.headers) 256 a) (rw (items_within pol k m meta) (rw (le-leb (length (body_leaves (cleared pol k m).body)) 4096 b)
    (rw (over (length (values pol k m)) 1024 h) refl))))

pub over_text : (pol : Policy) (k : Option ℕ) (m : Message) (meta : Meta) → length m.headers ≤ 256 → length (body_leaves (cleared pol k m).body) ≤ 4096 → length (values pol k m) ≤ 1024 → 4194304 < length (compact_text (sent_block pol k m meta))
    → splitting pol k m meta ≡ Err long_block
over_text pol k m meta a b d h =
    rw (headers_within pol k m meta) (rw (le-leb (length m.headers) 256 a) (rw (items_within pol k m meta) (rw (le-leb (length (body_leaves (cleared pol k m).body)) 4096 b)
    (rw (le-leb (length (values pol k m)) 1024 d) (rw (over (length (compact_text (sent_block pol k m meta))) 4194304 h) refl)))))

pub all_within : (pol : Policy) (k : Option ℕ) (m : Message) (meta : Meta) → length m.headers ≤ 256 → length (body_leaves (cleared pol k m).body) ≤ 4096 → length (values pol k m) ≤ 1024 → length (compact_text (sent_block pol k m meta)) ≤ 4194304
    → splitting pol k m meta ≡ Ok (sent_block pol k m meta, values pol k m)
all_within pol k m meta a b d e =
    rw (headers_within pol k m meta) (rw (le-leb (length m.headers) 256 a) (rw (items_within pol k m meta) (rw (le-leb (length (body_leaves (cleared pol k m).body)) 4096 b)
    (rw (le-leb (length (values pol k m)) 1024 d) (rw (le-leb (length (compact_text (sent_block pol k m meta))) 4194304 e) refl)))))

pub in_all : (pol : Policy) (k : Option ℕ) (m : Message) (meta : Meta) → length m.headers ≤ 256 → length (body_leaves (cleared pol k m).body) ≤ 4096 → length (values pol k m) ≤ 1024
    → in_limits (block_of (cleared pol k m) meta) (length (values pol k m)) ≡ true
in_all pol k m meta a b d =
    and_from (at_most 256 (block_of (cleared pol k m) meta).headers && at_most 4096 (block_of (cleared pol k m) meta).payload) (nat_le (length (values pol k m)) 1024)
    (and_from (at_most 256 (block_of (cleared pol k m) meta).headers) (at_most 4096 (block_of (cleared pol k m) meta).payload)
    (headers_within pol k m meta ∙ le-leb (length m.headers) 256 a) (items_within pol k m meta ∙ le-leb (length (body_leaves (cleared pol k m).body)) 4096 b)) (le-leb (length (values pol k m)) 1024 d)
