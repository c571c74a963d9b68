-- What the program's values are, in the words of the definitions.
use Rattle.std.specs.Prelude.{ℕ, List, ◌∷◌, Option, Some, None}
use Rattle.std.specs.Option.{option_copied}
use Rattle.jws_flat.specs.View.{member_name}
use Rattle.block_patch.specs.Answers as patching
use Rattle.spec_exchange.specs.EntryChecks.{Terms}
use Rattle.spec_exchange.specs.EntryRefusals.{EntryRefusal, BadForm, OffRoute, VerifierFailed, BadSignature, OtherTag, NotAllowed}
use Rattle.spec_exchange.specs.AcceptRefusals.{Refusal, OfEntry}
use Rattle.entry_checks.specs.declared.route.Route.{Route}
use Rattle.entry_checks.specs.declared.terms.EntryTerms.{EntryTerms}
use Rattle.entry_checks.specs.declared.refused.EntryWhy.{EntryWhy}
use Rattle.entry_checks.specs.declared.refused.EntryWhy.TheVariants.{Form, Identity, Verifier, Signature, Tag, Operation}
use Rattle.entry_checks.specs.declared.refused.RefusedEntry.{RefusedEntry}
use Rattle.entry_checks.specs.declared.refused.EntriesFault.{EntriesFault}
use Rattle.entry_checks.specs.declared.refused.EntriesFault.TheVariants.{Refused, NoMemory}

-- the text in front of the others, where there is one
abbrev pub in_front : Option (List ℕ) → List (List ℕ) → List (List ℕ)
in_front None texts = texts
in_front (Some text) texts = text ∷ texts

abbrev pub route_view : Route → List (List ℕ)
route_view r = in_front (option_copied r.authorized) r.own.now

-- the terms of entries on a block with so many holes
abbrev pub terms_view : EntryTerms → (holes : ℕ) → Terms
terms_view t holes = record { policy = t.policy.now; mapping = t.mapping; values = holes; tag = t.tag.now; route = route_view t.route }

-- ---- refusals

abbrev pub why_view : EntryWhy → EntryRefusal
why_view (Form member) = BadForm (member_name member)
why_view Identity = OffRoute
why_view Verifier = VerifierFailed
why_view Signature = BadSignature
why_view Tag = OtherTag
why_view (Operation number why) = NotAllowed number (patching.why_view why)

abbrev pub refused_view : RefusedEntry → Refusal
refused_view r = OfEntry r.entry (why_view r.why)

-- the refusal that is told, where memory sufficed
abbrev pub told : EntriesFault → Option Refusal
told (Refused refused) = Some (refused_view refused)
told NoMemory = None
