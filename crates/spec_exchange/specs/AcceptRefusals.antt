-- Why a document isn't delivered: each check that a receiving SEPP makes, in one type (this project's own).
use Rattle.std.specs.Prelude.{ℕ, codes}
use Rattle.spec_exchange.specs.ReceivingRefusals as receiving
use Rattle.spec_exchange.specs.EntryRefusals.{EntryRefusal, entry_telling}
use Rattle.spec_exchange.specs.Telling.{Telling, bare}

pub data Refusal : Type 0 where
  -- the document, its context, its seal or its message
  Receiving : (refusal : receiving.Refusal) → Refusal
  -- the context sent no request that the response answers
  Unasked : Refusal
  -- the entry of this number, from 1
  OfEntry : (number : ℕ) (refusal : EntryRefusal) → Refusal
  -- the screen doesn't pass the message
  Screened : Refusal

abbrev pub telling : Refusal → Telling
telling (Receiving refusal) = receiving.telling refusal
telling Unasked = bare 38 (codes "UNASKED")
telling (OfEntry number refusal) = entry_telling number refusal
telling Screened = bare 33 (codes "SCREEN")
