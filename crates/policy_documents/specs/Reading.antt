-- What reading a policy's document may answer.
use Rattle.std.specs.Prelude.{◌≡◌, ⊤, ℕ, Result, Ok, Err}
use Rattle.policy_documents.specs.declared.read.PolicyRead.{PolicyRead}
use Rattle.policy_documents.specs.declared.read.PolicyRead.TheVariants.{Form, NoMemory}

abbrev pub IsMemory : PolicyRead → Type 0
IsMemory e = e ≡ NoMemory

-- what a reader gives is what the definition gives, unless memory ran out
abbrev pub Refuses : {B : Type 0} → PolicyRead → Result B ℕ → Type 0
Refuses (Form k) wanted = wanted ≡ Err k
Refuses NoMemory wanted = ⊤

abbrev pub Gives : {A B : Type 0} → (A → B) → Result A PolicyRead → Result B ℕ → Type 0
Gives view (Ok x) wanted = wanted ≡ Ok (view x)
Gives view (Err e) wanted = Refuses e wanted
