-- What a chain of checks that holds tells of each check.
use Rattle.std.proofs.Common.{◌≡◌, Bool, true, false, Option, Some, None, Result, Ok, Err, refl}
use Rattle.spec_documents.specs.Chain.{◌>>=◌, unless, none_of}
use Rattle.spec_messages.specs.Message.{wanted}

-- the first step's value, and then the rest
pub bind_then : {A B E P : Type 0} (r : Result A E) (f : A → Result B E) (y : B) → (r >>= f) ≡ Ok y → ((x : A) → r ≡ Ok x → f x ≡ Ok y → P) → P
unfolding ◌>>=◌
bind_then (Ok x) f y e k = k x refl e
bind_then (Err d) f y e k = cc

pub unless_ok : {E : Type 0} (b : Bool) (e : E) (u : Unit {0}) → unless b e ≡ Ok u → b ≡ false
unless_ok true e u h = cc
unless_ok false e u h = refl

pub none_ok : {X E : Type 0} (e : X → E) (o : Option X) (u : Unit {0}) → none_of e o ≡ Ok u → o ≡ None
none_ok e None u h = refl
none_ok e (Some x) u h = cc

pub wanted_ok : {X E : Type 0} (o : Option X) (e : E) (x : X) → wanted o e ≡ Ok x → o ≡ Some x
wanted_ok None e x h = cc
wanted_ok (Some y) e x h = cc

pub ok_same : {A E : Type 0} (x y : A) → (let r : Result A E = Ok x in r) ≡ Ok y → x ≡ y
ok_same x y e = cc
