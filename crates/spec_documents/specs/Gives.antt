-- What a call gives that may lack memory: what a definition computes, or the cause that it computes.
use Rattle.std.specs.Prelude.{◌≡◌, ⊤, Option, Some, None, Result, Ok, Err}

-- the cause that an error tells is the one computed. An error that tells none, as want of memory, may come at any time
abbrev pub Tells : {B R : Type 0} → Option R → Result B R → Type 0
Tells None wanted = ⊤
Tells (Some cause) wanted = wanted ≡ Err cause

-- a value is what the definition computes, as `view` sees it; an error tells the cause that it computes
abbrev pub Gives : {A B E R : Type 0} → (told : E → Option R) → (view : A → B) → Result A E → Result B R → Type 0
Gives told view (Ok x) wanted = wanted ≡ Ok (view x)
Gives told view (Err e) wanted = Tells (told e) wanted
