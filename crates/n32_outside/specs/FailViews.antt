-- What is seen of a signer or verifier that fails at listed calls.
use Rattle.std.specs.Prelude.{ℕ, List}
use Rattle.n32_outside.specs.declared.fail_at.FailAt.{FailAt}

-- the signer or verifier that the others go to
abbrev pub held_object : {T : Type 0} → FailAt T → T
held_object s = s.inner

-- the numbers of the calls that fail
abbrev pub listed_calls : {T : Type 0} → FailAt T → List ℕ
listed_calls s = s.fails

-- the number of the next call
abbrev pub this_call : {T : Type 0} → FailAt T → ℕ
this_call s = s.call

-- how many listed calls there were
abbrev pub listed_faults : {T : Type 0} → FailAt T → ℕ
listed_faults s = s.faults
