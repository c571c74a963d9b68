-- Words of four bytes under xor and rotation, and the tables' columns.
use Rattle.std.proofs.Common.{◌≡◌, ◌<◌, ◌+◌, ◌*◌, ◌/◌, ◌%◌, ◌^◌, ℕ, refl, [], ◌∷◌, arith, ap, sym, ◌∙◌, bit_or, bit_xor, nat_lt}
use Rattle.std.specs.Int.{byte_at, from_be_bytes, rotate_right, to_be_bytes, w32}
use Rattle.std.proofs.lemmas.Nat.{or_comm, or_shifted, xor_block, xor_lt}
use borrow.Author.Tests.{ltb-true}
use Rattle.spec_sealing.specs.Aes.{add_words, list_of, mixed, sub_bytes}
use Rattle.aes_block.specs.Columns.{mixed_column, mixed_word, word_of}
use Rattle.spec_sealing.specs.AesField.{inverse, polynomial_product, product, remainder, substitution}
use Rattle.spec_documents.proofs.Below.{all_below, all_below-at, same_below}

module _ (a b c d : ℕ) (ha : a < 256) (hb : b < 256) (hc : c < 256) (hd : d < 256) where
  pub to_be_bytes-word_of : to_be_bytes w32 (word_of a b c d) ≡ a ∷ b ∷ c ∷ d ∷ []
  to_be_bytes-word_of =
      let e3 : byte_at 3 (word_of a b c d) ≡ a = omega arith in
      let e2 : byte_at 2 (word_of a b c d) ≡ b = omega arith in
      let e1 : byte_at 1 (word_of a b c d) ≡ c = omega arith in
      let e0 : byte_at 0 (word_of a b c d) ≡ d = omega arith in
      λ t. e3 t ∷ e2 t ∷ e1 t ∷ e0 t ∷ []

  pub rotated_8 : rotate_right w32 (word_of a b c d) 8 ≡ word_of d a b c
  rotated_8 =
      let high : word_of a b c d / 2 ^ 8 ≡ a * 65536 + b * 256 + c = omega arith in
      let low : word_of a b c d * 2 ^ 24 % 2 ^ 32 ≡ d * 2 ^ 24 = omega arith in
      (λ t. bit_or (high t) (low t)) ∙ or_comm (a * 65536 + b * 256 + c) (d * 2 ^ 24)
      ∙ or_shifted d 24 (a * 65536 + b * 256 + c) (omega arith) ∙ omega arith

  pub rotated_16 : rotate_right w32 (word_of a b c d) 16 ≡ word_of c d a b
  rotated_16 =
      let high : word_of a b c d / 2 ^ 16 ≡ a * 256 + b = omega arith in
      let low : word_of a b c d * 2 ^ 16 % 2 ^ 32 ≡ (c * 256 + d) * 2 ^ 16 = omega arith in
      (λ t. bit_or (high t) (low t)) ∙ or_comm (a * 256 + b) ((c * 256 + d) * 2 ^ 16)
      ∙ or_shifted (c * 256 + d) 16 (a * 256 + b) (omega arith) ∙ omega arith

  pub rotated_24 : rotate_right w32 (word_of a b c d) 24 ≡ word_of b c d a
  rotated_24 =
      let high : word_of a b c d / 2 ^ 24 ≡ a = omega arith in
      let low : word_of a b c d * 2 ^ 8 % 2 ^ 32 ≡ (b * 65536 + c * 256 + d) * 2 ^ 8 = omega arith in
      (λ t. bit_or (high t) (low t)) ∙ or_comm a ((b * 65536 + c * 256 + d) * 2 ^ 8)
      ∙ or_shifted (b * 65536 + c * 256 + d) 8 a (omega arith) ∙ omega arith

  module _ (k l m n : ℕ) (hk : k < 256) (hl : l < 256) (hm : m < 256) (hn : n < 256) where
    pub word_of-xor : bit_xor (word_of a b c d) (word_of k l m n) ≡ word_of (bit_xor a k) (bit_xor b l) (bit_xor c m) (bit_xor d n)
    word_of-xor =
        let left : word_of a b c d ≡ ((a * 2 ^ 8 + b) * 2 ^ 8 + c) * 2 ^ 8 + d = omega arith in
        let right : word_of k l m n ≡ ((k * 2 ^ 8 + l) * 2 ^ 8 + m) * 2 ^ 8 + n = omega arith in
        (λ t. bit_xor (left t) (right t))
        ∙ xor_block 8 ((a * 2 ^ 8 + b) * 2 ^ 8 + c) ((k * 2 ^ 8 + l) * 2 ^ 8 + m) d n hd hn
        ∙ ap (λ (x : ℕ). x * 2 ^ 8 + bit_xor d n) (xor_block 8 (a * 2 ^ 8 + b) (k * 2 ^ 8 + l) c m hc hm)
        ∙ ap (λ (x : ℕ). (x * 2 ^ 8 + bit_xor c m) * 2 ^ 8 + bit_xor d n) (xor_block 8 a k b l hb hl)
        ∙ omega arith

pub to_be_bytes-xor : (a b c d k l m n : ℕ) → a < 256 → b < 256 → c < 256 → d < 256 → k < 256 → l < 256 → m < 256 → n < 256
    → to_be_bytes w32 (bit_xor (word_of a b c d) (word_of k l m n)) ≡ bit_xor a k ∷ bit_xor b l ∷ bit_xor c m ∷ bit_xor d n ∷ []
to_be_bytes-xor a b c d k l m n ha hb hc hd hk hl hm hn =
    ap (to_be_bytes w32) (word_of-xor a b c d ha hb hc hd k l m n hk hl hm hn)
    ∙ to_be_bytes-word_of (bit_xor a k) (bit_xor b l) (bit_xor c m) (bit_xor d n) (xor_lt 8 a k ha hk) (xor_lt 8 b l hb hl)
    (xor_lt 8 c m hc hm) (xor_lt 8 d n hd hn)

-- ---- columns

pub substitution-lt : (x : ℕ) → x < 256 → substitution x < 256
unfolding all_below polynomial_product remainder product inverse substitution
substitution-lt x h = ltb-true (substitution x) 256 (all_below-at 256 (λ k. nat_lt (substitution k) 256) refl x h)

product_1 : (x : ℕ) → x < 256 → product 1 x ≡ x
unfolding all_below polynomial_product remainder product
product_1 = same_below 256 (product 1) (λ x. x) refl

product_2-lt : (x : ℕ) → x < 256 → product 2 x < 256
unfolding all_below polynomial_product remainder product
product_2-lt x h = ltb-true (product 2 x) 256 (all_below-at 256 (λ k. nat_lt (product 2 k) 256) refl x h)

product_3-lt : (x : ℕ) → x < 256 → product 3 x < 256
unfolding all_below polynomial_product remainder product
product_3-lt x h = ltb-true (product 3 x) 256 (all_below-at 256 (λ k. nat_lt (product 3 k) 256) refl x h)

-- the four tables' words of substituted bytes, under xor
module _ (a b c d : ℕ) (ha : a < 256) (hb : b < 256) (hc : c < 256) (hd : d < 256) where
  columns_xor : bit_xor (bit_xor (bit_xor (word_of (product 2 a) a a (product 3 a)) (word_of (product 3 b) (product 2 b) b b))
      (word_of c (product 3 c) (product 2 c) c)) (word_of d d (product 3 d) (product 2 d))
      ≡ word_of (bit_xor (bit_xor (bit_xor (product 2 a) (product 3 b)) c) d) (bit_xor (bit_xor (bit_xor a (product 2 b)) (product 3 c)) d)
      (bit_xor (bit_xor (bit_xor a b) (product 2 c)) (product 3 d)) (bit_xor (bit_xor (bit_xor (product 3 a) b) c) (product 2 d))
  columns_xor =
      let a2 = product_2-lt a ha in
      let a3 = product_3-lt a ha in
      let b2 = product_2-lt b hb in
      let b3 = product_3-lt b hb in
      let c2 = product_2-lt c hc in
      let c3 = product_3-lt c hc in
      let d2 = product_2-lt d hd in
      let d3 = product_3-lt d hd in
      let k = xor_lt 8 (product 2 a) (product 3 b) a2 b3 in
      let l = xor_lt 8 a (product 2 b) ha b2 in
      let m = xor_lt 8 a b ha hb in
      let n = xor_lt 8 (product 3 a) b a3 hb in
      ap (λ (x : ℕ). bit_xor (bit_xor x (word_of c (product 3 c) (product 2 c) c)) (word_of d d (product 3 d) (product 2 d)))
      (word_of-xor (product 2 a) a a (product 3 a) a2 ha ha a3 (product 3 b) (product 2 b) b b b3 b2 hb hb)
      ∙ ap (λ (x : ℕ). bit_xor x (word_of d d (product 3 d) (product 2 d)))
      (word_of-xor _ _ _ _ k l m n c (product 3 c) (product 2 c) c hc c3 c2 hc)
      ∙ word_of-xor _ _ _ _ (xor_lt 8 _ c k hc) (xor_lt 8 _ (product 3 c) l c3) (xor_lt 8 _ (product 2 c) m c2) (xor_lt 8 _ c n hc)
      d d (product 3 d) (product 2 d) hd hd d3 d2

-- the sum of the four table entries of a diagonal is its new column
pub mixed_words : (a b c d : ℕ) → a < 256 → b < 256 → c < 256 → d < 256
    → bit_xor (bit_xor (bit_xor (mixed_word a) (rotate_right w32 (mixed_word b) 8)) (rotate_right w32 (mixed_word c) 16))
    (rotate_right w32 (mixed_word d) 24) ≡ from_be_bytes w32 (mixed_column a b c d)
unfolding mixed_word mixed_column list_of
mixed_words a b c d ha hb hc hd =
    let sa = substitution-lt a ha in
    let sb = substitution-lt b hb in
    let sc = substitution-lt c hc in
    let sd = substitution-lt d hd in
    let b8 = rotated_8 (product 2 (substitution b)) (substitution b) (substitution b) (product 3 (substitution b)) (product_2-lt _ sb) sb sb (product_3-lt _ sb) in
    let c16 = rotated_16 (product 2 (substitution c)) (substitution c) (substitution c) (product 3 (substitution c)) (product_2-lt _ sc) sc sc (product_3-lt _ sc) in
    let d24 = rotated_24 (product 2 (substitution d)) (substitution d) (substitution d) (product 3 (substitution d)) (product_2-lt _ sd) sd sd (product_3-lt _ sd) in
    let a1 = product_1 (substitution a) sa in
    let b1 = product_1 (substitution b) sb in
    let c1 = product_1 (substitution c) sc in
    let d1 = product_1 (substitution d) sd in
    (λ t. bit_xor (bit_xor (bit_xor (mixed_word a) (b8 t)) (c16 t)) (d24 t))
    ∙ columns_xor (substitution a) (substitution b) (substitution c) (substitution d) sa sb sc sd
    ∙ (λ t. word_of
    (bit_xor (bit_xor (bit_xor (product 2 (substitution a)) (product 3 (substitution b))) (sym c1 t)) (sym d1 t))
    (bit_xor (bit_xor (bit_xor (sym a1 t) (product 2 (substitution b))) (product 3 (substitution c))) (sym d1 t))
    (bit_xor (bit_xor (bit_xor (sym a1 t) (sym b1 t)) (product 2 (substitution c))) (product 3 (substitution d)))
    (bit_xor (bit_xor (bit_xor (product 3 (substitution a)) (sym b1 t)) (sym c1 t)) (product 2 (substitution d))))

product_1-lt : (x : ℕ) → x < 256 → product 1 x < 256
product_1-lt x h = rw (product_1 x h) h

-- the bytes of a new column plus four bytes of a round key
pub column_bytes : (a b c d k l m n : ℕ) → a < 256 → b < 256 → c < 256 → d < 256 → k < 256 → l < 256 → m < 256 → n < 256
    → to_be_bytes w32 (bit_xor (from_be_bytes w32 (mixed_column a b c d)) (word_of k l m n)) ≡ add_words (mixed_column a b c d) (k ∷ l ∷ m ∷ n ∷ [])
unfolding mixed_column list_of
column_bytes a b c d k l m n ha hb hc hd hk hl hm hn =
    let sa = substitution-lt a ha in
    let sb = substitution-lt b hb in
    let sc = substitution-lt c hc in
    let sd = substitution-lt d hd in
    let entry : ℕ → ℕ = mixed (sub_bytes (a ∷ b ∷ c ∷ d ∷ [])) 0 in
    let m0 : entry 0 < 256 = xor_lt 8 _ _ (xor_lt 8 _ _ (xor_lt 8 _ _ (product_2-lt _ sa) (product_3-lt _ sb)) (product_1-lt _ sc)) (product_1-lt _ sd) in
    let m1 : entry 1 < 256 = xor_lt 8 _ _ (xor_lt 8 _ _ (xor_lt 8 _ _ (product_1-lt _ sa) (product_2-lt _ sb)) (product_3-lt _ sc)) (product_1-lt _ sd) in
    let m2 : entry 2 < 256 = xor_lt 8 _ _ (xor_lt 8 _ _ (xor_lt 8 _ _ (product_1-lt _ sa) (product_1-lt _ sb)) (product_2-lt _ sc)) (product_3-lt _ sd) in
    let m3 : entry 3 < 256 = xor_lt 8 _ _ (xor_lt 8 _ _ (xor_lt 8 _ _ (product_3-lt _ sa) (product_1-lt _ sb)) (product_1-lt _ sc)) (product_2-lt _ sd) in
    to_be_bytes-xor (entry 0) (entry 1) (entry 2) (entry 3) k l m n m0 m1 m2 m3 hk hl hm hn
