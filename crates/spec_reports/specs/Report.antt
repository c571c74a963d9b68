-- What a SEPP tells its peer of a message that it refused (the N32-f error reporting of TS 29.573 clause 5.2.5 in outline; which refusal has which type is this project's own).
use Rattle.std.specs.Prelude.{⊤, ℕ, ◌<◌, ◌^◌, List, Bool, ◌&&◌, ◌||◌, ◌==◌, nat_le, Option, Some, None, option_map, IsTrue, if◌then◌else◌}
use Rattle.spec_documents.specs.Text.{is_identity}

-- what went wrong with the message
pub data ErrorType : Type 0 where
  ContextNotFound : ErrorType
  DecipheringFailed : ErrorType
  IntegrityCheckFailed : ErrorType
  MessageReconstructionFailed : ErrorType
  PolicyMismatch : ErrorType
  IntegrityCheckOnModificationsFailed : ErrorType
  ModificationsInstructionsFailed : ErrorType

-- the ids of the message's metadata, and the intermediary whose modifications were refused, where one is named
pub record Report : Type 0 where
  pub context : ℕ
  pub message : ℕ
  pub error : ErrorType
  pub entry : Option (List ℕ)

-- ---- the report of a refusal

-- the type for the number of a refusal, where it is reported at all
abbrev pub type_for : ℕ → Option ErrorType
type_for n =
    if n == 21 then Some ContextNotFound
    else (if n == 23 then Some DecipheringFailed
    else (if n == 24 then Some IntegrityCheckFailed
    else (if n == 25 || (n == 26 || n == 38) then Some MessageReconstructionFailed
    else (if n == 27 || n == 33 then Some PolicyMismatch
    else (if nat_le 28 n && nat_le n 31 then Some IntegrityCheckOnModificationsFailed
    else (if n == 32 then Some ModificationsInstructionsFailed
    else None))))))

-- refusals of an intermediary's entry that tell whose it is: 28 comes where no identity can be read
abbrev pub tells_entry : ℕ → Bool
tells_entry n = nat_le 29 n && nat_le n 32

abbrev pub told_entry : ℕ → Option (List ℕ) → Option (List ℕ)
told_entry n entry = if tells_entry n then entry else None

-- the report of refusal n of a message with these ids, where the intermediary `entry` was at fault, if any
abbrev pub report_for : (n : ℕ) → (entry : Option (List ℕ)) → (context message : ℕ) → Option Report
report_for n entry context message = option_map (λ t. record { context = context; message = message; error = t; entry = told_entry n entry }) (type_for n)

-- ---- which reports have a document

abbrev pub IsEntry : Option (List ℕ) → Type 0
IsEntry None = ⊤
IsEntry (Some s) = IsTrue (is_identity s)

-- the ids have 64 bits, and the intermediary has an identity
pub record IsFormed (r : Report) : Type 0 where
  pub context : r.context < 2 ^ 64
  pub message : r.message < 2 ^ 64
  pub entry : IsEntry r.entry
