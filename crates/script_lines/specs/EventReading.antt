-- What reading an event may answer.
use Rattle.std.specs.Prelude.{◌≡◌, ⊤, ℕ, List, Option, Some, None, Result, Ok, Err}
use Rattle.context_records.specs.declared.read.RecordRead.{RecordRead}
use Rattle.context_records.specs.declared.read.RecordRead.TheVariants as records
use Rattle.script_lines.specs.declared.event_member.EventMember.{EventMember}
use Rattle.script_lines.specs.declared.event_fault.EventRead.{EventRead}
use Rattle.script_lines.specs.declared.event_fault.EventRead.TheVariants.{Member, NoMemory}
use Rattle.script_lines.specs.EventMembers.{member_name}

abbrev pub IsMemory : EventRead → Type 0
IsMemory e = e ≡ NoMemory

-- what a reader gives is what the definition gives, unless memory ran out
abbrev pub Refuses : {B : Type 0} → EventRead → Result B (List ℕ) → Type 0
Refuses (Member k) wanted = wanted ≡ Err (member_name k)
Refuses NoMemory wanted = ⊤

abbrev pub Gives : {A B : Type 0} → (A → B) → Result A EventRead → Result B (List ℕ) → Type 0
Gives view (Ok x) wanted = wanted ≡ Ok (view x)
Gives view (Err e) wanted = Refuses e wanted

-- the member that is told, where memory sufficed
abbrev pub told : EventRead → Option (List ℕ)
told (Member k) = Some (member_name k)
told NoMemory = None

-- a refusal of a member is told by its name
abbrev pub of_member : {A : Type 0} → EventMember → Result A RecordRead → Result A EventRead
of_member k (Ok x) = Ok x
of_member k (Err records.Form) = Err (Member k)
of_member k (Err records.NoMemory) = Err NoMemory
