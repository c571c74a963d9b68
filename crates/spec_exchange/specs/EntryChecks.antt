-- What a receiving SEPP checks of the entries of a document, one after the other (after TS 33.501 clause 13.2.4.6; the order of checks is this project's own).
use Rattle.std.specs.Prelude.{ℕ, suc, List, [], ◌∷◌, ◌++◌, Bool, true, false, not, Option, Some, None, Result, Ok, Err, if◌then◌else◌, bytes_eq, ◌==◌}
use Rattle.spec_documents.specs.Tree.{Tree}
use Rattle.spec_messages.specs.Message.{Message}
use Rattle.spec_messages.specs.Policy.{Policy}
use Rattle.spec_messages.specs.Entry.{OpWhy}
use Rattle.spec_messages.specs.Outcome.{entry_outcome}
use Rattle.spec_sealing.specs.Jws.{Algorithm, signing_input}
use Rattle.spec_sealing.specs.Entries.{Entry, SignedEntry, entry_in, entry_ops}
use Rattle.spec_exchange.specs.Chain.{◌>>=◌, unless, or_refused}
use Rattle.spec_exchange.specs.Route.{in_route}
use Rattle.spec_exchange.specs.EntryRefusals.{EntryRefusal, BadForm, OffRoute, VerifierFailed, BadSignature, OtherTag, NotAllowed}
use Rattle.spec_exchange.specs.AcceptRefusals.{Refusal, OfEntry}

-- ---- the verifier

-- what a verifier is asked: whether the signature, by the algorithm and for the identity, is one of the input
pub record Claim : Type 0 where
  pub algorithm : Algorithm
  pub identity : List ℕ
  pub input : List ℕ
  pub signature : List ℕ

abbrev pub claim_of : SignedEntry → Claim
claim_of x = record {
  algorithm = x.jws.algorithm;
  identity = x.entry.identity;
  input = signing_input x.jws.protected x.jws.payload;
  signature = x.jws.signature;
}

-- what asking comes to
pub data Verdict : Type 0 where
  Signed : Verdict
  NotSigned : Verdict
  Fails : Verdict

-- what the verifier comes to at the entry of a number, from 1
abbrev pub Verifying : Type 0
Verifying = (number : ℕ) → Claim → Verdict

abbrev pub verdict_of : Bool → Verdict
verdict_of true = Signed
verdict_of false = NotSigned

abbrev pub is_entry : Option ℕ → ℕ → Bool
is_entry None number = false
is_entry (Some k) number = k == number

-- a verifier that tells its meaning, and fails at no entry or at one
abbrev pub by_meaning : (Claim → Bool) → Option ℕ → Verifying
by_meaning meaning failing number claim = if is_entry failing number then Fails else verdict_of (meaning claim)

abbrev pub is_signed : Verdict → Result (Unit {0}) EntryRefusal
is_signed Signed = Ok tt
is_signed NotSigned = Err BadSignature
is_signed Fails = Err VerifierFailed

-- ---- one entry

-- what all entries of a document go by: the policy and the mapping, the number of values, the text of the tag, and the intermediaries
pub record Terms : Type 0 where
  pub policy : Policy
  pub mapping : Option ℕ
  pub values : ℕ
  pub tag : List ℕ
  pub route : List (List ℕ)

-- the identities of the entries so far, and what they made: the block, and the message with its holes
pub record Progress : Type 0 where
  pub identities : List (List ℕ)
  pub block : Tree
  pub holed : Message

-- an entry of the form, in the route, signed, and bound to the document
abbrev pub bound_entry : Terms → Verifying → (number : ℕ) → (earlier : List (List ℕ)) → Tree → Result Entry EntryRefusal
bound_entry t v number earlier e = do
  x ← or_refused BadForm (entry_in e)
  _ ← unless (not (in_route (earlier ++ x.entry.identity ∷ []) t.route)) OffRoute
  _ ← is_signed (v number (claim_of x))
  _ ← unless (not (bytes_eq x.entry.tag t.tag)) OtherTag
  Ok x.entry

abbrev pub not_allowed : ℕ × OpWhy → EntryRefusal
not_allowed why = NotAllowed why.0 why.1

-- an entry's operations, each allowed
abbrev pub applied : Terms → Progress → Entry → Result Progress EntryRefusal
applied t p x = do
  r ← or_refused not_allowed (entry_outcome t.policy t.mapping x.identity t.values p.block p.holed (entry_ops x))
  Ok (record { identities = p.identities ++ x.identity ∷ []; block = r.0; holed = r.1 })

abbrev pub entry_applied : Terms → Verifying → (number : ℕ) → Progress → Tree → Result Progress EntryRefusal
entry_applied t v number p e = do
  x ← bound_entry t v number p.identities e
  applied t p x

-- ---- all entries

-- the entries in order, the first of them being of this number
abbrev pub entries_from : Terms → Verifying → (number : ℕ) → Progress → List Tree → Result Progress Refusal
entries_from t v number p [] = Ok p
entries_from t v number p (e ∷ es) = or_refused (OfEntry number) (entry_applied t v number p e) >>= λ q. entries_from t v (suc number) q es

-- what all entries make of a block and its message with holes
abbrev pub entries_applied : Terms → Verifying → Tree → Message → List Tree → Result Progress Refusal
entries_applied t v block holed es = entries_from t v 1 (record { identities = []; block = block; holed = holed }) es
