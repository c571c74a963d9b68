-- Why a document isn't delivered: the document itself, its context, its seal or its message (this project's own).
use Rattle.std.specs.Prelude.{ℕ, List, codes}
use Rattle.std.specs.Fmt.{decimal}
use Rattle.spec_messages.specs.Policy.{Address}
use Rattle.spec_messages.specs.AddressText.{address_text}
use Rattle.spec_messages.specs.Limits.{many_records, limit_name}
use Rattle.spec_sealing.specs.Header.{Misfit, Alg, Enc, Zip, Crit}
use Rattle.spec_exchange.specs.Rebuilding.{RebuildWhy}
use Rattle.spec_exchange.specs.RebuildTexts.{rebuild_text}
use Rattle.spec_exchange.specs.Telling.{Telling, bare, detailed}

pub data Refusal : Type 0 where
  -- the member of this name has not its form
  Form : (member : List ℕ) → Refusal
  -- the node has no open context of the document's id
  NoContext : Refusal
  -- the context has no keys
  NoReceiveKeys : Refusal
  -- the JWE isn't of this profile and the context's suite
  Cipher : (why : Misfit) → Refusal
  -- the tag isn't the one that recomputes
  Integrity : Refusal
  -- the message was delivered before, as the record of this number says
  Replay : (number : ℕ) → Refusal
  -- the opened document has no message
  Reconstruction : (why : RebuildWhy) → Refusal
  -- what the policy makes secret stands in clear at this address
  InClear : (address : Address) → Refusal
  -- no record more may be held
  NoRoom : Refusal

abbrev pub cipher_name : Misfit → List ℕ
cipher_name Alg = codes "alg"
cipher_name Enc = codes "enc"
cipher_name Zip = codes "zip"
cipher_name Crit = codes "crit"

abbrev pub telling : Refusal → Telling
telling (Form member) = detailed 20 (codes "FORM") member
telling NoContext = bare 21 (codes "CONTEXT_NOT_FOUND")
telling NoReceiveKeys = bare 22 (codes "NO_KEYS")
telling (Cipher why) = detailed 23 (codes "CIPHER") (cipher_name why)
telling Integrity = bare 24 (codes "INTEGRITY")
telling (Replay number) = detailed 25 (codes "REPLAY") (decimal number)
telling (Reconstruction why) = detailed 26 (codes "RECONSTRUCTION") (rebuild_text why)
telling (InClear address) = detailed 27 (codes "POLICY") (address_text address)
telling NoRoom = detailed 7 (codes "LIMIT") (limit_name many_records)
