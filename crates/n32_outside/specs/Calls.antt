-- Listed calls, and the counts of an object in memory.
use Rattle.std.specs.Prelude.{ℕ, ◌+◌, ◌==◌, Bool, if◌then◌else◌, min, List, [], ◌∷◌, Option, None, Some, is_some, true, false, Result, Err}
use Rattle.std.specs.List.{list_any}
use Rattle.n32_outside.specs.Causes.{last_count}
use Rattle.n32_outside.specs.declared.faults.OutFault.{OutFault}
use Rattle.n32_outside.specs.declared.faults.OutFault.TheVariants.{Failed}
use Rattle.n32_outside.specs.declared.calls.FailItem.{FailItem}

-- whether the call of that number is listed
abbrev pub fails_at : List ℕ → ℕ → Bool
fails_at calls call = list_any (λ listed. listed == call) calls

-- whether the failing put of that number still keeps its item, as the first item listed for the call says; none: the call doesn't fail
abbrev pub keeps_at : List FailItem → ℕ → Option Bool
keeps_at [] call = None
keeps_at (item ∷ items) call = if item.call == call then Some item.keeps else keeps_at items call

-- whether the keeper's call of that number is listed
abbrev pub is_failing : List FailItem → ℕ → Bool
is_failing items call = is_some (keeps_at items call)

-- whether a call of a keeper ended with a fault
abbrev pub is_fault : {T : Type 0} → Result T OutFault → Bool
is_fault (Err Failed) = true
is_fault _ = false

-- the next value of a count
abbrev pub next_count : ℕ → ℕ
next_count count = min (count + 1) last_count

-- a count after a call that failed, or did not
abbrev pub count_after : Bool → ℕ → ℕ
count_after failed count = if failed then next_count count else count
