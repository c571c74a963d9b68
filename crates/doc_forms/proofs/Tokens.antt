-- What the crate `http_header` calls a token.
use Rattle.std.proofs.Common.{◌≡◌, ℕ, List, [], ◌∷◌, length, Bool, true, false, ◌&&◌, ◌||◌, refl, sym, ap₂, ◌∙◌, nat_lt, nat_le, IsTrue, ◌↔◌}
use Rattle.std.proofs.lemmas.Bool.{and_parts, and_from, lt-ltb, ltb-true}
use Rattle.std.proofs.lemmas.List.Sums.{AllPass-from_list_all, list_all-from_AllPass}
use Rattle.std.specs.List.{list_all}
use Rattle.std.specs.Char.{is_ascii_digit}
use Rattle.http_header.specs.Token.{IsToken, is_token_byte as is_token_char}
use Rattle.spec_documents.specs.Text.{is_token_byte, is_within}

or_turned : (a b c d : Bool) → (((a || b) || c) || d) ≡ ((a || (b || c)) || d)
or_turned true b c d = refl
or_turned false b c d = refl

pub same_byte : (b : ℕ) → is_token_char b ≡ is_token_byte b
unfolding is_token_char
same_byte b = or_turned (is_ascii_digit b) (is_within 65 90 b) (is_within 97 122 b) _

same_all : (s : List ℕ) → list_all is_token_char s ≡ list_all is_token_byte s
same_all [] = refl
same_all (b ∷ s) = ap₂ ◌&&◌ (same_byte b) (same_all s)

token_no : (t : Bool) (s : List ℕ) → (nat_lt 0 (length s) && list_all is_token_byte s) ≡ t → (IsToken s → false ≡ true) → false ≡ t
token_no false s e h = refl
token_no true s e h =
    let p = and_parts (nat_lt 0 (length s)) (list_all is_token_byte s) e in
    h (ltb-true 0 (length s) p.0, AllPass-from_list_all is_token_char s (same_all s ∙ p.1))

-- what the crate answers is the test
pub token_is : (r : Bool) (s : List ℕ) → (IsTrue r ↔ IsToken s) → r ≡ (nat_lt 0 (length s) && list_all is_token_byte s)
token_is true s h = let p = h.0 refl in sym (and_from _ _ (lt-ltb 0 (length s) p.0) (sym (same_all s) ∙ list_all-from_AllPass is_token_char s p.1))
token_is false s h = token_no (nat_lt 0 (length s) && list_all is_token_byte s) s refl h.1

and_turned : (a b c : Bool) → (a && (b && c)) ≡ ((b && a) && c)
and_turned true true c = refl
and_turned true false c = refl
and_turned false true c = refl
and_turned false false c = refl

-- a token with at most so many bytes
pub limited_token : (most : ℕ) (s : List ℕ) → (nat_le (length s) most && (nat_lt 0 (length s) && list_all is_token_byte s)) ≡ (is_within 1 most (length s) && list_all is_token_byte s)
limited_token most s = and_turned (nat_le (length s) most) (nat_lt 0 (length s)) (list_all is_token_byte s)
