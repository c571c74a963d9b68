-- The key schedule, a word at a time.
use Rattle.std.proofs.Common.{◌≡◌, ◌≤◌, ◌<◌, ℕ, suc, refl, arith, ◌*◌, ◌%◌, ◌/◌, ◌+◌, ◌-◌, List, [], ◌∷◌, ◌++◌, length, get_or, take, ap, sym, ◌∙◌}
use Rattle.std.proofs.Common.{get_or-take}
use Rattle.std.proofs.lemmas.Slice.{take-put_mid}
use borrow.Rule.Slice.PartMut.{put_mid}
use Rattle.spec_sealing.specs.AesField.{polynomial_product, product, remainder, x_power}
use Rattle.spec_sealing.specs.Aes.{add_first, add_words, list_of, next_word, rot_word, schedule, step_word, sub_bytes, word}
use Rattle.spec_documents.proofs.Below.{all_below, same_below}

pub step_word-turned : (nk i : ℕ) (a : List ℕ) → i % nk ≡ 0
    → step_word nk i a ≡ add_first (x_power (i / nk - 1)) (sub_bytes (rot_word a))
step_word-turned nk i a h = rw h refl

abbrev pub constants : List ℕ
constants = 1 ∷ 2 ∷ 4 ∷ 8 ∷ 16 ∷ 32 ∷ 64 ∷ 128 ∷ 27 ∷ 54 ∷ []

pub constants-power : (k : ℕ) → k < 10 → get_or constants k 0 ≡ x_power k
unfolding all_below x_power polynomial_product remainder product
constants-power = same_below 10 (λ k. get_or constants k 0) x_power refl

-- a word of the first n bytes
word-take : (w : List ℕ) (n i : ℕ) → 4 * i + 4 ≤ n → word (take n w) i ≡ word w i
word-take w n i h =
    let a : 4 * i < n = omega arith in
    let b : 4 * i + 1 < n = omega arith in
    let d : 4 * i + 2 < n = omega arith in
    let e : 4 * i + 3 < n = omega arith in
    rw (get_or-take, get_or-take, get_or-take, get_or-take) refl

next_word-take : (nk : ℕ) (w : List ℕ) (i : ℕ) → 1 ≤ nk → nk ≤ i → next_word nk (take (4 * i) w) i ≡ next_word nk w i
next_word-take nk w i some first =
    let earlier = word-take w (4 * i) (i - nk) (omega arith) in
    let before = word-take w (4 * i) (i - 1) (omega arith) in
    λ t. add_words (earlier t) (step_word nk i (before t))

length-next_word : (nk : ℕ) (w : List ℕ) (i : ℕ) → length (next_word nk w i) ≡ 4
unfolding list_of
length-next_word nk w i = refl

-- one more word is written behind the first i + nk
pub schedule_more : (nk i n k : ℕ) (key w a : List ℕ) → 1 ≤ nk → n ≡ 4 * (nk + i) → n ≤ length w
    → take n w ≡ schedule nk key i → a ≡ next_word nk w (nk + i)
    → take (4 * (nk + (i + 1))) (put_mid n k w a) ≡ schedule nk key (i + 1)
unfolding schedule
schedule_more nk i n k key w a some en fits held ea =
    let long : length a ≡ 4 = ap length ea ∙ length-next_word nk w (nk + i) in
    let cut : a ≡ next_word nk (take n w) (nk + i) =
    ea ∙ sym (next_word-take nk w (nk + i) some (omega arith)) ∙ ap (λ (m : ℕ). next_word nk (take m w) (nk + i)) (sym en) in
    let front : take (4 * (nk + (i + 1))) (put_mid n k w a) ≡ take n w ++ a = take-put_mid n k w a (4 * (nk + (i + 1))) (omega arith) fits in
    let last : a ≡ next_word nk (schedule nk key i) (nk + i) = cut ∙ ap (λ (v : List ℕ). next_word nk v (nk + i)) held in
    let more : take n w ++ a ≡ schedule nk key (suc i) = λ t. held t ++ last t in
    let turn : suc i ≡ i + 1 = omega arith in
    front ∙ more ∙ ap (schedule nk key) turn
