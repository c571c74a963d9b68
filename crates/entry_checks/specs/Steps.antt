-- One entry of a document, on the rest of the route and on the block so far, and what comes of it.
use Rattle.std.specs.Prelude.{◌≡◌, ℕ, List, [], ◌∷◌, Bool, true, false, not, Option, Some, None, Result, Ok, Err, if◌then◌else◌, bytes_eq}
use Rattle.spec_documents.specs.Gives.{Tells}
use Rattle.spec_documents.specs.Tree.{Tree}
use Rattle.spec_messages.specs.Message.{Message, wanted}
use Rattle.spec_messages.specs.Block.{IsBlock}
use Rattle.spec_messages.specs.Outcome.{entry_outcome}
use Rattle.spec_sealing.specs.Entries as entries
use Rattle.jws_flat.specs.View.{entry_view, jws_view}
use Rattle.spec_exchange.specs.Chain.{◌>>=◌, unless, or_refused}
use Rattle.spec_exchange.specs.EntryChecks.{Claim, Verdict, Terms, claim_of, is_signed, not_allowed}
use Rattle.spec_exchange.specs.EntryRefusals.{EntryRefusal, BadForm, OffRoute, OtherTag}
use Rattle.entry_checks.specs.declared.bound.SignedEntry.{SignedEntry}
use Rattle.entry_checks.specs.declared.bound.Bound.{Bound}
use Rattle.entry_checks.specs.declared.route.Route.{Route}
use Rattle.entry_checks.specs.declared.refused.EntryWhy.TheVariants.{Form, Identity, Verifier, Signature, Tag, Operation}
use Rattle.entry_checks.specs.declared.refused.EntriesFault.{EntriesFault}
use Rattle.entry_checks.specs.declared.refused.EntriesFault.TheVariants as all
use Rattle.entry_checks.specs.declared.refused.StepFault.{StepFault}
use Rattle.entry_checks.specs.declared.refused.StepFault.TheVariants.{Refused, NoMemory}
use Rattle.entry_checks.specs.Views.{route_view, why_view}

-- ---- refusals

-- the refusal that is told of an entry, where memory sufficed
abbrev pub step_told : StepFault → Option EntryRefusal
step_told (Refused why) = Some (why_view why)
step_told NoMemory = None

-- what the verifier has said where this is the fault: that the signature is true, but for the one refusal
abbrev pub fault_says : StepFault → Bool
fault_says (Refused (Form member)) = true
fault_says (Refused Identity) = true
fault_says (Refused Verifier) = true
fault_says (Refused Signature) = false
fault_says (Refused Tag) = true
fault_says (Refused (Operation number why)) = true
fault_says NoMemory = true

-- the verifier has failed where this is the fault
abbrev pub fault_fails : StepFault → Bool
fault_fails (Refused (Form member)) = false
fault_fails (Refused Identity) = false
fault_fails (Refused Verifier) = true
fault_fails (Refused Signature) = false
fault_fails (Refused Tag) = false
fault_fails (Refused (Operation number why)) = false
fault_fails NoMemory = false

abbrev pub said : {A : Type 0} → Result A StepFault → Bool
said (Ok x) = true
said (Err fault) = fault_says fault

abbrev pub fails : {A : Type 0} → Result A StepFault → Bool
fails (Ok x) = false
fails (Err fault) = fault_fails fault

-- the verifier was not asked, or said that the signature is true
pub record IsQuiet (fault : StepFault) : Type 0 where
  pub says : fault_says fault ≡ true
  pub fails : fault_fails fault ≡ false

-- the fault of the entry of a number, as one of all entries
abbrev pub Numbers : ℕ → StepFault → EntriesFault → Type 0
Numbers number (Refused why) result = result ≡ all.Refused (record { entry = number; why = why })
Numbers number NoMemory result = result ≡ all.NoMemory

-- ---- the route

-- the route behind the first place of the identity
abbrev pub behind : (identity : List ℕ) → List (List ℕ) → Option (List (List ℕ))
behind identity [] = None
behind identity (text ∷ route) = if bytes_eq identity text then Some route else behind identity route

-- ---- one entry

abbrev pub signed_view : SignedEntry → entries.SignedEntry
signed_view s = record { jws = jws_view s.jws; entry = entry_view s.entry }

abbrev pub bound_view : Bound → entries.Entry × List (List ℕ)
bound_view b = (entry_view b.entry, route_view b.rest)

-- an entry on the rest of the route, signed, and bound to the document of the tag: what is left of the route
abbrev pub checked_on : (tag : List ℕ) (rest : List (List ℕ)) → (Claim → Verdict) → entries.SignedEntry → Result (List (List ℕ)) EntryRefusal
checked_on tag rest v x = do
  later ← wanted (behind x.entry.identity rest) OffRoute
  _ ← is_signed (v (claim_of x))
  _ ← unless (not (bytes_eq x.entry.tag tag)) OtherTag
  Ok later

-- an entry of the form for which this holds, with what is left of the route
abbrev pub bound_on : (tag : List ℕ) (rest : List (List ℕ)) → (Claim → Verdict) → Tree → Result (entries.Entry × List (List ℕ)) EntryRefusal
bound_on tag rest v e = do
  x ← or_refused BadForm (entries.entry_in e)
  later ← checked_on tag rest v x
  Ok (x.entry, later)

-- what an entry makes: its identity, what is left of the route, the block, and the message with its holes
pub record Stepped : Type 0 where
  pub identity : List ℕ
  pub rest : List (List ℕ)
  pub block : Tree
  pub holed : Message

abbrev pub changed : Terms → entries.Entry → Tree → Message → Result (Tree × Message) EntryRefusal
changed t x j c = or_refused not_allowed (entry_outcome t.policy t.mapping x.identity t.values j c (entries.entry_ops x))

abbrev pub entry_on : Terms → (rest : List (List ℕ)) → (Claim → Verdict) → Tree → Message → Tree → Result Stepped EntryRefusal
entry_on t rest v j c e = do
  x ← bound_on t.tag rest v e
  r ← changed t x.0 j c
  Ok (record { identity = x.0.identity; rest = x.1; block = r.0; holed = r.1 })

-- ---- what the parts answer

-- w is the block that the operations make, with so many holes, which stands for the message that they make
pub record Changed (holes : ℕ) (w : Tree) (outcome : Result (Tree × Message) EntryRefusal) : Type 0 where
  pub holed : Message
  pub made : outcome ≡ Ok (w, holed)
  pub block : IsBlock w holes holed

abbrev pub Changes : {A : Type 0} → ℕ → Tree → Result (Tree × Message) EntryRefusal → Result A StepFault → Type 0
Changes holes w outcome (Ok u) = Changed holes w outcome
Changes holes w outcome (Err fault) = Tells (step_told fault) outcome

-- the same of the whole entry, which leaves this route
pub record Went (holes : ℕ) (w : Tree) (rest : List (List ℕ)) (outcome : Result Stepped EntryRefusal) : Type 0 where
  pub identity : List ℕ
  pub holed : Message
  pub made : outcome ≡ Ok (record { identity = identity; rest = rest; block = w; holed = holed })
  pub block : IsBlock w holes holed

abbrev pub Steps : ℕ → Tree → Result Stepped EntryRefusal → Result Route StepFault → Type 0
Steps holes w outcome (Ok rest) = Went holes w (route_view rest) outcome
Steps holes w outcome (Err fault) = Tells (step_told fault) outcome
