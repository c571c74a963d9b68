-- The rest of a route behind the place of an identity.
use Rattle.std.proofs.Common.{◌≡◌, ℕ, zero, suc, ◌+◌, List, [], ◌∷◌, length, Bool, true, false, Option, Some, None, refl, sym, ap, ◌∙◌, drop, slice_get, bytes_eq, if◌then◌else◌}
use Rattle.n32_values.proofs.Trees.{drop_at}
use Rattle.spec_exchange.specs.Route.{is_subsequence}
use Rattle.entry_checks.specs.Steps.{behind}

at_place : (identity : List ℕ) (texts : List (List ℕ)) (i : ℕ) (text : List ℕ) (b : Bool) → slice_get texts i ≡ Some text → b ≡ bytes_eq identity text
    → behind identity (drop i texts) ≡ (if b then Some (drop (i + 1) texts) else behind identity (drop (i + 1) texts))
at_place identity texts i text b is same =
    ap (behind identity) (drop_at texts i text is) ∙ ap (λ b. if b then Some (drop (i + 1) texts) else behind identity (drop (i + 1) texts)) (sym same)

pub found_here : (identity : List ℕ) (texts : List (List ℕ)) (i : ℕ) (text : List ℕ) (all : Option (List (List ℕ))) → slice_get texts i ≡ Some text → true ≡ bytes_eq identity text → behind identity (drop i texts) ≡ all
    → Some (drop (i + 1) texts) ≡ all
found_here identity texts i text all is same told = sym (at_place identity texts i text true is same) ∙ told

pub found_later : (identity : List ℕ) (texts : List (List ℕ)) (i : ℕ) (text : List ℕ) (all : Option (List (List ℕ))) → slice_get texts i ≡ Some text → false ≡ bytes_eq identity text → behind identity (drop i texts) ≡ all
    → behind identity (drop (i + 1) texts) ≡ all
found_later identity texts i text all is same told = sym (at_place identity texts i text false is same) ∙ told

past : (i : ℕ) (texts : List (List ℕ)) → i ≡ length texts → drop i texts ≡ []
past zero [] e = refl
past (suc i) [] e = refl
past zero (x ∷ xs) e = cc
past (suc i) (x ∷ xs) e = let less : i ≡ length xs = cc in past i xs less

pub found_nowhere : (identity : List ℕ) (texts : List (List ℕ)) (i : ℕ) (all : Option (List (List ℕ))) → i ≡ length texts → behind identity (drop i texts) ≡ all → None ≡ all
found_nowhere identity texts i all e told = sym (ap (behind identity) (past i texts e)) ∙ told

-- ---- texts in a route

-- a list that begins with an identity is in a route where the others are in the rest behind it
pub behind-in : (identity : List ℕ) (ys route rest : List (List ℕ)) → behind identity route ≡ Some rest → is_subsequence (identity ∷ ys) route ≡ is_subsequence ys rest
behind-in identity ys [] rest e = cc
behind-in identity ys (text ∷ route) rest e = by (bytes_eq identity text) refl (behind-in identity ys route rest)
  where
    by : (b : Bool) → bytes_eq identity text ≡ b → (behind identity route ≡ Some rest → is_subsequence (identity ∷ ys) route ≡ is_subsequence ys rest) → is_subsequence (identity ∷ ys) (text ∷ route) ≡ is_subsequence ys rest
    by true is more =
        let both : Some route ≡ Some rest = sym (ap (λ b. if b then Some route else behind identity route) is) ∙ e in
        let same : route ≡ rest = cc in
        ap (λ b. if b then is_subsequence ys route else is_subsequence (identity ∷ ys) route) is ∙ ap (is_subsequence ys) same
    by false is more =
        let later : behind identity route ≡ Some rest = sym (ap (λ b. if b then Some route else behind identity route) is) ∙ e in
        ap (λ b. if b then is_subsequence ys route else is_subsequence (identity ∷ ys) route) is ∙ more later

pub not_behind : (identity : List ℕ) (ys route : List (List ℕ)) → behind identity route ≡ None → is_subsequence (identity ∷ ys) route ≡ false
not_behind identity ys [] e = refl
not_behind identity ys (text ∷ route) e = by (bytes_eq identity text) refl (not_behind identity ys route)
  where
    by : (b : Bool) → bytes_eq identity text ≡ b → (behind identity route ≡ None → is_subsequence (identity ∷ ys) route ≡ false) → is_subsequence (identity ∷ ys) (text ∷ route) ≡ false
    by true is more = let both : Some route ≡ None = sym (ap (λ b. if b then Some route else behind identity route) is) ∙ e in cc
    by false is more =
        let later : behind identity route ≡ None = sym (ap (λ b. if b then Some route else behind identity route) is) ∙ e in
        ap (λ b. if b then is_subsequence ys route else is_subsequence (identity ∷ ys) route) is ∙ more later
