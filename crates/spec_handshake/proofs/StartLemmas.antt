-- Lists of starts, of which no two have one node and id.
use Rattle.std.proofs.Common.{◌≡◌, ℕ, zero, suc, Bool, true, false, List, [], ◌∷◌, ◌++◌, Some, refl, sym, ap, ◌∙◌, cond, inl, inr, ⊎_elim}
use Rattle.std.specs.Prelude.{find, filter, ◌⊎◌, slice_get}
use Rattle.spec_handshake.specs.Starts.{Start, without_first, first_goes_on, goes_on}
use Rattle.spec_handshake.specs.Agreement.{In, AreApart}

-- ---- members

pub in_left : {A : Type 0} (x : A) (xs ys : List A) → In x xs → In x (xs ++ ys)
in_left x [] ys h = absurd h
in_left x (z ∷ zs) ys (inl e) = inl e
in_left x (z ∷ zs) ys (inr h) = inr (in_left x zs ys h)

pub in_last : {A : Type 0} (xs : List A) (y : A) → In y (xs ++ y ∷ [])
in_last [] y = inl refl
in_last (x ∷ xs) y = inr (in_last xs y)

pub in_push : {A : Type 0} (x : A) (xs : List A) (y : A) → In x (xs ++ y ∷ []) → In x xs ⊎ (x ≡ y)
in_push x [] y (inl e) = inr e
in_push x [] y (inr h) = absurd h
in_push x (z ∷ zs) y (inl e) = inl (inl e)
in_push x (z ∷ zs) y (inr h) = ⊎_elim (λ m. inl (inr m)) (λ e. inr e) (in_push x zs y h)

pub in_get : {A : Type 0} (xs : List A) (k : ℕ) (x : A) → slice_get xs k ≡ Some x → In x xs
in_get [] k x e = cc
in_get (y ∷ ys) zero x e = inl (cc)
in_get (y ∷ ys) (suc k) x e = inr (in_get ys k x e)

-- ---- starts apart

pub push-apart : (ss : List Start) (s : Start) → AreApart ss → ((t : Start) → In t ss → t.node ≡ s.node → t.offer.id ≡ s.offer.id → ⊥) → AreApart (ss ++ s ∷ [])
push-apart [] s a new = ((λ t h n i. absurd h), tt)
push-apart (u ∷ us) s a new = (
  (λ t h n i. ⊎_elim (λ m. a.0 t m n i) (λ e. new u (inl refl) (n ∙ ap (λ z. z.node) e) (i ∙ ap (λ z. z.offer.id) e)) (in_push t us s h)),
  push-apart us s a.1 (λ t m n i. new t (inr m) n i),
)

pub found-in : (p : Start → Bool) (ss : List Start) (t : Start) → find p ss ≡ Some t → In t ss × (p t ≡ true)
found-in p [] t e = cc
found-in p (s ∷ ss) t e = found (p s) refl e (λ z. found-in p ss t z)
  where
    found : (b : Bool) → p s ≡ b → cond b (Some s) (find p ss) ≡ Some t → (find p ss ≡ Some t → In t ss × (p t ≡ true)) → In t (s ∷ ss) × (p t ≡ true)
    found true h e ih = let same : t ≡ s = cc in (inl same, ap p same ∙ h)
    found false h e ih = let r = ih e in (inr r.0, r.1)

pub without-in : (p : Start → Bool) (ss : List Start) (s : Start) → In s (without_first p ss) → In s ss
without-in p [] s h = h
without-in p (u ∷ us) s h = taken (p u) h (λ z. without-in p us s z)
  where
    taken : (b : Bool) → In s (cond b us (u ∷ without_first p us)) → (In s (without_first p us) → In s us) → In s (u ∷ us)
    taken true h ih = inr h
    taken false (inl e) ih = inl e
    taken false (inr m) ih = inr (ih m)

pub without-apart : (p : Start → Bool) (ss : List Start) → AreApart ss → AreApart (without_first p ss)
without-apart p [] a = a
without-apart p (u ∷ us) a = taken (p u) (without-apart p us a.1)
  where
    taken : (b : Bool) → AreApart (without_first p us) → AreApart (cond b us (u ∷ without_first p us))
    taken true ih = a.1
    taken false ih = ((λ t h n i. a.0 t (without-in p us t h) n i), ih)

-- the first that passes is gone, with its name
pub without-other : (p : Start → Bool) (ss : List Start) (t s : Start) → AreApart ss → find p ss ≡ Some t → In s (without_first p ss) → s.node ≡ t.node → s.offer.id ≡ t.offer.id → ⊥
without-other p [] t s a e h n i = absurd h
without-other p (u ∷ us) t s a e h n i = taken (p u) e h (λ x y. without-other p us t s a.1 x y n i)
  where
    taken : (b : Bool) → cond b (Some u) (find p us) ≡ Some t → In s (cond b us (u ∷ without_first p us)) → (find p us ≡ Some t → In s (without_first p us) → ⊥) → ⊥
    taken true e h ih = let same : u ≡ t = cc in a.0 s h (ap (λ z. z.node) same ∙ sym n) (ap (λ z. z.offer.id) same ∙ sym i)
    taken false e (inl same) ih = a.0 t (found-in p us t e).0 (ap (λ z. z.node) (sym same) ∙ n) (ap (λ z. z.offer.id) (sym same) ∙ i)
    taken false e (inr m) ih = ih e m

-- in the place of the first that passes stands what it became
pub first_goes_on-in : (p : Start → Bool) (ss : List Start) (t s : Start) → find p ss ≡ Some t → In s (first_goes_on p ss) → (s ≡ goes_on t) ⊎ In s (without_first p ss)
first_goes_on-in p [] t s e h = absurd h
first_goes_on-in p (u ∷ us) t s e h = taken (p u) e h (λ x y. first_goes_on-in p us t s x y)
  where
    taken : (b : Bool) → cond b (Some u) (find p us) ≡ Some t → In s (cond b (goes_on u ∷ us) (u ∷ first_goes_on p us))
        → (find p us ≡ Some t → In s (first_goes_on p us) → (s ≡ goes_on t) ⊎ In s (without_first p us))
        → (s ≡ goes_on t) ⊎ In s (cond b us (u ∷ without_first p us))
    taken true e (inl h) ih = let same : u ≡ t = cc in inl (h ∙ ap (λ z. goes_on z) same)
    taken true e (inr m) ih = inr m
    taken false e (inl h) ih = inr (inl h)
    taken false e (inr m) ih = ⊎_elim (λ z. inl z) (λ z. inr (inr z)) (ih e m)

-- one that stands there has this name
pub record Named (ss : List Start) (s : Start) : Type 0 where
  pub one : Start
  pub is_there : In one ss
  pub node_is : one.node ≡ s.node
  pub id_is : one.offer.id ≡ s.offer.id

-- each has the name of one that stood there
first_goes_on-named : (p : Start → Bool) (ss : List Start) (s : Start) → In s (first_goes_on p ss) → Named ss s
first_goes_on-named p [] s h = absurd h
first_goes_on-named p (u ∷ us) s h = taken (p u) h (λ z. first_goes_on-named p us s z)
  where
    taken : (b : Bool) → In s (cond b (goes_on u ∷ us) (u ∷ first_goes_on p us)) → (In s (first_goes_on p us) → Named us s) → Named (u ∷ us) s
    taken true (inl e) ih = record { one = u; is_there = inl refl; node_is = sym (ap (λ z. z.node) e); id_is = sym (ap (λ z. z.offer.id) e) }
    taken true (inr m) ih = record { one = s; is_there = inr m; node_is = refl; id_is = refl }
    taken false (inl e) ih = record { one = u; is_there = inl refl; node_is = sym (ap (λ z. z.node) e); id_is = sym (ap (λ z. z.offer.id) e) }
    taken false (inr m) ih = let r = ih m in record { one = r.one; is_there = inr r.is_there; node_is = r.node_is; id_is = r.id_is }

pub first_goes_on-apart : (p : Start → Bool) (ss : List Start) → AreApart ss → AreApart (first_goes_on p ss)
first_goes_on-apart p [] a = a
first_goes_on-apart p (u ∷ us) a = taken (p u) (first_goes_on-apart p us a.1)
  where
    taken : (b : Bool) → AreApart (first_goes_on p us) → AreApart (cond b (goes_on u ∷ us) (u ∷ first_goes_on p us))
    taken true ih = ((λ t h n i. a.0 t h n i), a.1)
    taken false ih = ((λ t h n i. let r = first_goes_on-named p us t h in a.0 r.one r.is_there (n ∙ sym r.node_is) (i ∙ sym r.id_is)), ih)

pub filter-in : (p : Start → Bool) (ss : List Start) (s : Start) → In s (filter p ss) → In s ss
filter-in p [] s h = h
filter-in p (u ∷ us) s h = kept (p u) h (λ z. filter-in p us s z)
  where
    kept : (b : Bool) → In s (cond b (u ∷ filter p us) (filter p us)) → (In s (filter p us) → In s us) → In s (u ∷ us)
    kept true (inl e) ih = inl e
    kept true (inr m) ih = inr (ih m)
    kept false m ih = inr (ih m)

pub filter-apart : (p : Start → Bool) (ss : List Start) → AreApart ss → AreApart (filter p ss)
filter-apart p [] a = a
filter-apart p (u ∷ us) a = kept (p u) (filter-apart p us a.1)
  where
    kept : (b : Bool) → AreApart (filter p us) → AreApart (cond b (u ∷ filter p us) (filter p us))
    kept true ih = ((λ t h n i. a.0 t (filter-in p us t h) n i), ih)
    kept false ih = ih
