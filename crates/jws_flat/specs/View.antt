-- What values of the program are in the words of the definitions.
use Rattle.std.specs.Prelude.{ℕ, List, Bool, true, false, Option, Some, None, codes}
use Rattle.spec_documents.specs.Tree.{Tree, null, truth, whole, words, items, members, no_items, item}
use Rattle.spec_sealing.specs.Jws as jwses
use Rattle.spec_sealing.specs.Entries as entries
use Rattle.n32_outside.specs.declared.algorithm.JwsAlg.{JwsAlg}
use Rattle.n32_outside.specs.declared.algorithm.JwsAlg.TheVariants.{Hs256, Es256}
use Rattle.jws_flat.specs.declared.jws.FlatJws.{FlatJws}
use Rattle.jws_flat.specs.declared.entry.Entry.{Entry}
use Rattle.jws_flat.specs.declared.hs256.Hs256 as signers
use Rattle.jws_flat.specs.declared.members.EntryMember.{EntryMember}
use Rattle.jws_flat.specs.declared.members.EntryMember.TheVariants.{Whole, Protected, Payload, Signature, Identity, Operations, Tag}
use Rattle.jws_flat.specs.declared.members.JwsRead.{JwsRead}
use Rattle.jws_flat.specs.declared.members.JwsRead.TheVariants.{Form, NoMemory}

abbrev pub alg_view : JwsAlg → jwses.Algorithm
alg_view Hs256 = jwses.Hs256
alg_view Es256 = jwses.Es256

abbrev pub jws_view : FlatJws → jwses.Jws
jws_view w = record { protected = w.protected; payload = w.payload; algorithm = alg_view w.alg; signature = w.signature }

abbrev pub entry_view : Entry → entries.Entry
entry_view e = record { identity = e.identity; operations = e.operations; tag = e.tag }

-- the bytes from which the keys of a signer by HMAC are made
abbrev pub root_of : signers.Hs256 → List ℕ
root_of s = s.root

-- operations that are there and are none
abbrev pub changes_nothing : Tree → Bool
changes_nothing null = true
changes_nothing (truth b) = false
changes_nothing (whole z) = false
changes_nothing (words s) = false
changes_nothing (items no_items) = true
changes_nothing (items (item t ts)) = false
changes_nothing (members ms) = false

-- ---- refusals

-- the name of a member
abbrev pub member_name : EntryMember → List ℕ
member_name Whole = codes "entry"
member_name Protected = codes "protected"
member_name Payload = codes "payload"
member_name Signature = codes "signature"
member_name Identity = codes "identity"
member_name Operations = codes "operations"
member_name Tag = codes "tag"

-- the member that an error tells
abbrev pub member_told : JwsRead → Option (List ℕ)
member_told (Form member) = Some (member_name member)
member_told NoMemory = None
