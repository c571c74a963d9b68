-- A pointer's text is read to it, and what is read to a pointer is its text.
use Rattle.std.proofs.Common.{subst, ◌≡◌, ℕ, suc, List, [], ◌∷◌, ◌++◌, Bool, true, false, ◌==◌, Result, Ok, Err, refl, sym, ap, ◌∙◌, if◌then◌else◌, append_assoc, append-nil}
use Rattle.std.proofs.lemmas.Bool.{eqb-true}
use Rattle.spec_documents.specs.Place.{Pointer, ◌>>=◌, escaped, pointer_text, tokens_after, read_pointer}

plain_byte : (i : ℕ) (part : List ℕ) (c : ℕ) (rest : List ℕ) → (c == 126) ≡ false → (c == 47) ≡ false → tokens_after i part (c ∷ rest) ≡ tokens_after (suc i) (part ++ c ∷ []) rest
plain_byte i part c [] e f = rw (e, f) refl
plain_byte i part c (d ∷ rest) e f = rw (e, f) refl

slash_byte : (i : ℕ) (part : List ℕ) (rest : List ℕ) → tokens_after i part (47 ∷ rest) ≡ (tokens_after (suc i) [] rest >>= λ p. Ok (part ∷ p))
slash_byte i part [] = refl
slash_byte i part (d ∷ rest) = refl

escape_by : (i : ℕ) (part : List ℕ) (c : ℕ) (cs : List ℕ) (r : List ℕ) (out : Result Pointer ℕ) (a b : Bool) → (c == 126) ≡ a → (c == 47) ≡ b
    → ((k : ℕ) → tokens_after k (part ++ c ∷ []) (escaped cs ++ r) ≡ out)
    → tokens_after i part (((if a then 126 ∷ 48 ∷ [] else (if b then 126 ∷ 49 ∷ [] else c ∷ [])) ++ escaped cs) ++ r) ≡ out
escape_by i part c cs r out true b e f h = let is : 126 ≡ c = sym (eqb-true c 126 e) in ap (λ x. tokens_after (suc (suc i)) (part ++ x ∷ []) (escaped cs ++ r)) is ∙ h (suc (suc i))
escape_by i part c cs r out false true e f h = let is : 47 ≡ c = sym (eqb-true c 47 f) in ap (λ x. tokens_after (suc (suc i)) (part ++ x ∷ []) (escaped cs ++ r)) is ∙ h (suc (suc i))
escape_by i part c cs r out false false e f h = plain_byte i part c (escaped cs ++ r) e f ∙ h (suc i)

-- an escaped token goes to the part that is in hand
read_escaped : (x : List ℕ) (i : ℕ) (part r : List ℕ) (out : Result Pointer ℕ) → ((k : ℕ) → tokens_after k (part ++ x) r ≡ out) → tokens_after i part (escaped x ++ r) ≡ out
read_escaped [] i part r out h = ap (λ p. tokens_after i p r) (sym (append-nil part)) ∙ h i
read_escaped (c ∷ cs) i part r out h =
    escape_by i part c cs r out (c == 126) (c == 47) refl refl
    (λ k. read_escaped cs k (part ++ c ∷ []) r out (λ m. ap (λ p. tokens_after m p r) (append_assoc part (c ∷ []) cs) ∙ h m))

read_tokens : (p : Pointer) (i : ℕ) (x : List ℕ) → tokens_after i x (pointer_text p) ≡ Ok (x ∷ p)
read_tokens [] i x = refl
read_tokens (y ∷ p) i x =
    slash_byte i x (escaped y ++ pointer_text p)
    ∙ ap (λ r. r >>= λ q. Ok (x ∷ q)) (read_escaped y (suc i) [] (pointer_text p) (Ok (y ∷ p)) (λ k. read_tokens p k y))

pub read_pointer-text : (p : Pointer) → read_pointer (pointer_text p) ≡ Ok p
read_pointer-text [] = refl
read_pointer-text (x ∷ p) = read_escaped x 1 [] (pointer_text p) (Ok (x ∷ p)) (λ k. read_tokens p k x)

-- ---- the other way

escaped-append : (x y : List ℕ) → escaped (x ++ y) ≡ escaped x ++ escaped y
escaped-append [] y = refl
escaped-append (c ∷ cs) y =
    let here = if c == 126 then 126 ∷ 48 ∷ [] else (if c == 47 then 126 ∷ 49 ∷ [] else c ∷ []) in
    ap (λ t. here ++ t) (escaped-append cs y) ∙ sym (append_assoc here (escaped cs) (escaped y))

escaped_byte : (c : ℕ) → (c == 126) ≡ false → (c == 47) ≡ false → escaped (c ∷ []) ≡ c ∷ []
escaped_byte c e f = rw (e, f) refl

-- what was read of s, where part is in hand, is spelled as both
record Spelled (part s : List ℕ) (p : Pointer) : Type 0 where
  first : List ℕ
  rest : Pointer
  is : first ∷ rest ≡ p
  text : escaped first ++ pointer_text rest ≡ escaped part ++ s

spelled_end : (part s : List ℕ) (p : Pointer) → escaped part ≡ s → ◌≡◌ {A = Result Pointer ℕ} (Ok (part ∷ [])) (Ok p) → Spelled part [] p
spelled_end part s p t e = let same : part ∷ [] ≡ p = cc in record { first = part; rest = []; is = same; text = refl }

-- a piece x of the text, read as the byte c
spelled_more : (part x s : List ℕ) (c : ℕ) (p : Pointer) → escaped (c ∷ []) ≡ x → Spelled (part ++ c ∷ []) s p → Spelled part (x ++ s) p
spelled_more part x s c p e h = record {
  first = h.first;
  rest = h.rest;
  is = h.is;
  text = h.text ∙ ap (λ t. t ++ s) (escaped-append part (c ∷ []) ∙ ap (λ t. escaped part ++ t) e) ∙ append_assoc (escaped part) x s;
}

-- the byte after which a token begins
spelled_slash : (part s : List ℕ) (r : Result Pointer ℕ) (p : Pointer) → ((q : Pointer) → r ≡ Ok q → Spelled [] s q) → (r >>= λ q. Ok (part ∷ q)) ≡ Ok p → Spelled part (47 ∷ s) p
spelled_slash part s (Err i) p h e = cc
spelled_slash part s (Ok q) p h e =
    let a = h q refl in
    let same : part ∷ q ≡ p = cc in
    record { first = part; rest = q; is = same; text = ap (λ t. escaped part ++ t) (ap pointer_text (sym a.is) ∙ ap (λ t. 47 ∷ t) a.text) }

spelled_last : (part : List ℕ) (c i : ℕ) (p : Pointer) (a b : Bool) → (c == 126) ≡ a → (c == 47) ≡ b
    → (if a then Err i else (if b then Ok (part ∷ [] ∷ []) else Ok ((part ++ c ∷ []) ∷ []))) ≡ Ok p → Spelled part (c ∷ []) p
spelled_last part c i p true b e f h = cc
spelled_last part c i p false true e f h =
    let is : c ≡ 47 = eqb-true c 47 f in
    let same : part ∷ [] ∷ [] ≡ p = cc in
    record { first = part; rest = [] ∷ []; is = same; text = ap (λ x. escaped part ++ x ∷ []) (sym is) }
spelled_last part c i p false false e f h =
    let same : (part ++ c ∷ []) ∷ [] ≡ p = cc in
    record { first = part ++ c ∷ []; rest = []; is = same; text = append-nil (escaped (part ++ c ∷ [])) ∙ escaped-append part (c ∷ []) ∙ ap (λ t. escaped part ++ t) (escaped_byte c e f) }

-- what stands after a tilde
spelled_tilde : (part : List ℕ) (d : ℕ) (rest : List ℕ) (i : ℕ) (x y : Result Pointer ℕ) (p : Pointer) (a b : Bool) → (d == 48) ≡ a → (d == 49) ≡ b
    → (x ≡ Ok p → Spelled (part ++ 126 ∷ []) rest p) → (y ≡ Ok p → Spelled (part ++ 47 ∷ []) rest p)
    → (if a then x else (if b then y else Err i)) ≡ Ok p → Spelled part (126 ∷ d ∷ rest) p
spelled_tilde part d rest i x y p true b e f g h k =
    let is : d ≡ 48 = eqb-true d 48 e in
    subst (λ z. Spelled part (126 ∷ z ∷ rest) p) (sym is) (spelled_more part (126 ∷ 48 ∷ []) rest 126 p refl (g k))
spelled_tilde part d rest i x y p false true e f g h k =
    let is : d ≡ 49 = eqb-true d 49 f in
    subst (λ z. Spelled part (126 ∷ z ∷ rest) p) (sym is) (spelled_more part (126 ∷ 49 ∷ []) rest 47 p refl (h k))
spelled_tilde part d rest i x y p false false e f g h k = cc

spelled_two : (part : List ℕ) (c d : ℕ) (rest : List ℕ) (t n plain : Result Pointer ℕ) (p : Pointer) (a b : Bool) → (c == 126) ≡ a → (c == 47) ≡ b
    → (t ≡ Ok p → Spelled part (126 ∷ d ∷ rest) p) → (n ≡ Ok p → Spelled part (47 ∷ d ∷ rest) p) → (plain ≡ Ok p → Spelled (part ++ c ∷ []) (d ∷ rest) p)
    → (if a then t else (if b then n else plain)) ≡ Ok p → Spelled part (c ∷ d ∷ rest) p
spelled_two part c d rest t n plain p true b e f g h k m =
    let is : c ≡ 126 = eqb-true c 126 e in subst (λ z. Spelled part (z ∷ d ∷ rest) p) (sym is) (g m)
spelled_two part c d rest t n plain p false true e f g h k m =
    let is : c ≡ 47 = eqb-true c 47 f in subst (λ z. Spelled part (z ∷ d ∷ rest) p) (sym is) (h m)
spelled_two part c d rest t n plain p false false e f g h k m = spelled_more part (c ∷ []) (d ∷ rest) c p (escaped_byte c e f) (k m)

spelled : (s : List ℕ) (i : ℕ) (part : List ℕ) (p : Pointer) → tokens_after i part s ≡ Ok p → Spelled part s p
spelled [] i part p e = spelled_end part (escaped part) p refl e
spelled (c ∷ []) i part p e = spelled_last part c i p (c == 126) (c == 47) refl refl e
spelled (c ∷ d ∷ rest) i part p e =
    spelled_two part c d rest _ _ _ p (c == 126) (c == 47) refl refl
    (λ t. spelled_tilde part d rest i _ _ p (d == 48) (d == 49) refl refl (λ x. spelled rest (suc (suc i)) (part ++ 126 ∷ []) p x) (λ x. spelled rest (suc (suc i)) (part ++ 47 ∷ []) p x) t)
    (λ t. spelled_slash part (d ∷ rest) (tokens_after (suc i) [] (d ∷ rest)) p (λ q x. spelled (d ∷ rest) (suc i) [] q x) t)
    (λ t. spelled (d ∷ rest) (suc i) (part ++ c ∷ []) p t)
    e

read_by : (cs : List ℕ) (c k : ℕ) (p : Pointer) (a : Bool) → (c == 47) ≡ a → (if a then tokens_after 1 [] cs else Err k) ≡ Ok p → pointer_text p ≡ c ∷ cs
read_by cs c k p true e h =
    let is : c ≡ 47 = eqb-true c 47 e in
    let a = spelled cs 1 [] p h in
    ap pointer_text (sym a.is) ∙ ap (λ t. 47 ∷ t) a.text ∙ ap (λ z. z ∷ cs) (sym is)
read_by cs c k p false e h = cc

pub pointer_text-read : (s : List ℕ) (p : Pointer) → read_pointer s ≡ Ok p → pointer_text p ≡ s
pointer_text-read [] p e = let same : [] ≡ p = cc in ap pointer_text (sym same)
pointer_text-read (c ∷ cs) p e = read_by cs c 0 p (c == 47) refl e
