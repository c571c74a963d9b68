-- A check of a chain, where what it gives is known, and what an error tells of the whole.
use Rattle.std.proofs.Common.{◌≡◌, Option, Some, None, Result, Ok, Err, subst, sym}
use Rattle.spec_documents.specs.Chain.{◌>>=◌}
use Rattle.spec_documents.specs.Gives.{Tells}

pub bind_at : {A B E : Type 0} (r : Result A E) (f : A → Result B E) (x : A) → r ≡ Ok x → (r >>= f) ≡ f x
unfolding ◌>>=◌
bind_at r f x e = rw e

pub bind_err : {A B E : Type 0} (r : Result A E) (f : A → Result B E) (why : E) → r ≡ Err why → (r >>= f) ≡ Err why
unfolding ◌>>=◌
bind_err r f why e = rw e

-- the first check refuses
pub tells_on : {A B R : Type 0} (told : Option R) (r : Result A R) (f : A → Result B R) → Tells told r → Tells told (r >>= f)
tells_on None r f h = tt
tells_on (Some why) r f h = bind_err r f why h

-- the first check holds, and a later one refuses
pub tells_past : {A B R : Type 0} (told : Option R) (r : Result A R) (f : A → Result B R) (x : A) → r ≡ Ok x → Tells told (f x) → Tells told (r >>= f)
tells_past told r f x is h = subst (λ w. Tells told w) (sym (bind_at r f x is)) h
