-- Numbers of refusals fit into 16 bits.
use Rattle.std.proofs.Common.{◌≡◌, ◌%◌, ℕ, refl}
use Rattle.receiving_sepp.specs.Views.{refused_view}
use Rattle.receiving_sepp.specs.declared.refused.Refused.{Refused}
use Rattle.spec_exchange.specs.AcceptRefusals as accepting
use Rattle.spec_exchange.specs.AcceptRefusals.{Receiving, Unasked, OfEntry, Screened, telling}
use Rattle.spec_exchange.specs.EntryRefusals.{EntryRefusal, BadForm, OffRoute, VerifierFailed, BadSignature, OtherTag, NotAllowed, entry_telling}
use Rattle.spec_exchange.specs.ReceivingRefusals as receiving
use Rattle.spec_exchange.specs.ReceivingRefusals.{Form, NoContext, NoReceiveKeys, Cipher, Integrity, Replay, Reconstruction, InClear, NoRoom}

plain_fits : (r : receiving.Refusal) → (receiving.telling r).number % 65536 ≡ (receiving.telling r).number
plain_fits (Form member) = refl
plain_fits NoContext = refl
plain_fits NoReceiveKeys = refl
plain_fits (Cipher why) = refl
plain_fits Integrity = refl
plain_fits (Replay number) = refl
plain_fits (Reconstruction why) = refl
plain_fits (InClear address) = refl
plain_fits NoRoom = refl

entry_fits : (k : ℕ) (r : EntryRefusal) → (entry_telling k r).number % 65536 ≡ (entry_telling k r).number
entry_fits k (BadForm member) = refl
entry_fits k OffRoute = refl
entry_fits k VerifierFailed = refl
entry_fits k BadSignature = refl
entry_fits k OtherTag = refl
entry_fits k (NotAllowed op why) = refl

fits : (r : accepting.Refusal) → (telling r).number % 65536 ≡ (telling r).number
fits (Receiving r) = plain_fits r
fits Unasked = refl
fits (OfEntry k r) = entry_fits k r
fits Screened = refl

pub number_fits : (r : Refused) → (telling (refused_view r)).number % 65536 ≡ (telling (refused_view r)).number
number_fits r = fits (refused_view r)
