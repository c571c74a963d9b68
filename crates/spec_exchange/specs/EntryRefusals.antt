-- Why an entry of an intermediary isn't applied, in the order of the checks (this project's own).
use Rattle.std.specs.Prelude.{ℕ, List, ◌∷◌, ◌++◌, codes}
use Rattle.std.specs.Fmt.{decimal}
use Rattle.spec_documents.specs.Place.{Cause, no_place, bad_index, test_failed, into_itself, too_deep}
use Rattle.spec_messages.specs.AddressText.{address_text}
use Rattle.spec_messages.specs.Entry.{OpWhy, hole_value, into_hole, patch, hole_taken, too_large, metadata, not_block, hole_moved, not_modifiable}
use Rattle.spec_exchange.specs.Telling.{Telling, detailed}

pub data EntryRefusal : Type 0 where
  -- the member of this name has not its form
  BadForm : (member : List ℕ) → EntryRefusal
  -- the identity isn't in the route, or not behind those of the entries before
  OffRoute : EntryRefusal
  -- the verifier failed
  VerifierFailed : EntryRefusal
  -- the signature isn't the identity's
  BadSignature : EntryRefusal
  -- the entry is bound to another document
  OtherTag : EntryRefusal
  -- the operation of this number, from 1, isn't allowed
  NotAllowed : (operation : ℕ) (why : OpWhy) → EntryRefusal

abbrev pub cause_text : Cause → List ℕ
cause_text no_place = codes "NO_PLACE"
cause_text bad_index = codes "BAD_INDEX"
cause_text test_failed = codes "TEST_FAILED"
cause_text into_itself = codes "INTO_ITSELF"
cause_text too_deep = codes "TOO_DEEP"

abbrev pub reason_text : OpWhy → List ℕ
reason_text hole_value = codes "HOLE_VALUE"
reason_text into_hole = codes "INTO_HOLE"
reason_text (patch why) = cause_text why
reason_text hole_taken = codes "HOLE_TAKEN"
reason_text too_large = codes "TOO_LARGE"
reason_text metadata = codes "META"
reason_text not_block = codes "NOT_BLOCK"
reason_text hole_moved = codes "HOLE_MOVED"
reason_text (not_modifiable a) = codes "NOT_MODIFIABLE " ++ address_text a

-- two words with a blank between
abbrev pub beside : List ℕ → List ℕ → List ℕ
beside a b = a ++ 32 ∷ b

-- the refusal of the entry of this number, from 1
abbrev pub entry_telling : ℕ → EntryRefusal → Telling
entry_telling number (BadForm member) = detailed 28 (codes "MOD_FORM") (beside (decimal number) member)
entry_telling number OffRoute = detailed 29 (codes "MOD_IDENTITY") (decimal number)
entry_telling number VerifierFailed = detailed 35 (codes "VERIFIER") (decimal number)
entry_telling number BadSignature = detailed 30 (codes "MOD_SIGNATURE") (decimal number)
entry_telling number OtherTag = detailed 31 (codes "MOD_TAG") (decimal number)
entry_telling number (NotAllowed operation why) = detailed 32 (codes "MOD_OPERATION") (beside (decimal number) (beside (decimal operation) (reason_text why)))
