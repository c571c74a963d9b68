-- Checks in their order: a chain of results, whose first refusal counts.
use Rattle.std.specs.Prelude.{Bool, true, false, Option, Some, None, Result, Ok, Err}

infixl 10 ◌>>=◌
unfoldable pub ◌>>=◌ : {A B E : Type 0} → Result A E → (A → Result B E) → Result B E
(Ok x) >>= f = f x
(Err e) >>= f = Err e

-- what a proof names to unfold chains
unfoldable pub chains : Unit {0}
unfolding ◌>>=◌
chains = tt

-- refused, where the test holds
abbrev pub unless : {E : Type 0} → Bool → E → Result (Unit {0}) E
unless true e = Err e
unless false e = Ok tt

-- refused, where there is one
abbrev pub none_of : {X E : Type 0} → (X → E) → Option X → Result (Unit {0}) E
none_of e None = Ok tt
none_of e (Some x) = Err (e x)

-- a refusal of a part, told as one of the whole
abbrev pub or_refused : {X D E : Type 0} → (D → E) → Result X D → Result X E
or_refused e (Ok x) = Ok x
or_refused e (Err d) = Err (e d)
