-- What an event goes by where it asks a verifier, and where it asks none.
use Rattle.std.proofs.Common.{ℕ, true, Option, None, refl}
use Rattle.spec_exchange.specs.EntryChecks.{Verifying}
use Rattle.spec_script.specs.Choices.{Signing}
use Rattle.entry_checks.specs.Verifiers.{Meaning, Saying, UnderVerifier, verifying}
use Rattle.replay_world.specs.Outsiders.{Outsiders, Acting, Acted, Signed}
use Rattle.replay_world.proofs.Signing.{some_signing}

-- the verifier says whatever, and doesn't fail
abbrev any_saying : Saying
any_saying = record { said = λ number. true; failing = None }

-- ---- under a verifier

pub under_any : (meaning : Option Meaning) (before now : ℕ) (P : Verifying → Type 0) → ((v : Verifying) → P v) → UnderVerifier meaning before now P
under_any meaning before now P h = record { saying = any_saying; failed = tt; comes = h (verifying meaning any_saying) }

pub under_on : (meaning : Option Meaning) (before now : ℕ) (P Q : Verifying → Type 0) → ((v : Verifying) → P v → Q v) → UnderVerifier meaning before now P → UnderVerifier meaning before now Q
under_on meaning before now P Q f h = record { saying = h.saying; failed = h.failed; comes = f (verifying meaning h.saying) h.comes }

-- ---- under both

pub acted_on : (before after_ : Outsiders) (P Q : Acting → Type 0) → ((x : Acting) → P x → Q x) → Acted before after_ P → Acted before after_ Q
acted_on before after_ P Q f h = record { acting = h.acting; meant = h.meant; holds = f h.acting h.holds }

-- where the verifier isn't asked
pub acted_signing : (before after_ : Outsiders) (P : Acting → Type 0) → Signed before.signer after_.signer (λ x. (v : Verifying) → P (record { signer = x; verifier = v })) → Acted before after_ P
acted_signing before after_ P h = record {
  acting = record { signer = h.signing; verifier = verifying before.verifier.meaning any_saying };
  meant = record { signer = h.meant; verifier = record { saying = any_saying; failed = tt; is = refl } };
  holds = h.holds (verifying before.verifier.meaning any_saying);
}

-- where the signer isn't asked
pub acted_verifying : (before after_ : Outsiders) (P : Acting → Type 0) → UnderVerifier before.verifier.meaning before.verifier.faults after_.verifier.faults (λ v. (x : Signing) → P (record { signer = x; verifier = v })) → Acted before after_ P
acted_verifying before after_ P h =
    let x = some_signing before.signer.algorithm before.signer.meaning before.signer.faults after_.signer.faults in
    record {
      acting = record { signer = x.0; verifier = verifying before.verifier.meaning h.saying };
      meant = record { signer = x.1; verifier = record { saying = h.saying; failed = h.failed; is = refl } };
      holds = h.comes x.0;
    }

-- where neither is
pub acted_any : (before after_ : Outsiders) (P : Acting → Type 0) → ((x : Acting) → P x) → Acted before after_ P
acted_any before after_ P h =
    let x = some_signing before.signer.algorithm before.signer.meaning before.signer.faults after_.signer.faults in
    record {
      acting = record { signer = x.0; verifier = verifying before.verifier.meaning any_saying };
      meant = record { signer = x.1; verifier = record { saying = any_saying; failed = tt; is = refl } };
      holds = h (record { signer = x.0; verifier = verifying before.verifier.meaning any_saying });
    }
