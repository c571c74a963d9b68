use Rattle.std.proofs.Common.{◌≡◌, Ok, Err, refl, ap, ◌∙◌, codes}
use Rattle.spec_documents.specs.Tree.{Tree, null}
use Rattle.spec_sealing.specs.Entries.{SignedEntry, entry_in}
use Rattle.spec_documents.proofs.Chains.{bind_at, bind_err}
use Rattle.spec_exchange.specs.Chain.{or_refused}
use Rattle.spec_exchange.specs.EntryRefusals.{BadForm, OffRoute, VerifierFailed, BadSignature, OtherTag}
use Rattle.spec_exchange.proofs.accept_rows.entry_order_rows.Goals as goal

-- an entry of the form that has this entry in it
formed : (e : Tree) (x : SignedEntry) → entry_in e ≡ Ok x → or_refused (λ m. BadForm m) (entry_in e) ≡ Ok x
formed e x h = ap (or_refused (λ m. BadForm m)) h

pub returns-clause-form : goal.returns-clause-form
returns-clause-form c = bind_err _ _ (BadForm (codes "entry")) (bind_err _ _ (BadForm (codes "entry")) (ap (or_refused (λ m. BadForm m)) no_object))
  where
    no_object : entry_in null ≡ Err (codes "entry")
    no_object = bind_err _ _ (codes "entry") (bind_err _ _ (codes "entry") refl)

pub returns-clause-identity : goal.returns-clause-identity
returns-clause-identity c e h = bind_err _ _ OffRoute (bind_at _ _ _ (formed e _ h) ∙ bind_err _ _ OffRoute refl)

pub returns-clause-order : goal.returns-clause-order
returns-clause-order c e h = bind_err _ _ OffRoute (bind_at _ _ _ (formed e _ h) ∙ bind_err _ _ OffRoute refl)

pub returns-clause-fails : goal.returns-clause-fails
returns-clause-fails c e h = bind_err _ _ VerifierFailed (bind_at _ _ _ (formed e _ h) ∙ (bind_at _ _ tt refl ∙ bind_err _ _ VerifierFailed refl))

pub returns-clause-signature : goal.returns-clause-signature
returns-clause-signature c e h = bind_err _ _ BadSignature (bind_at _ _ _ (formed e _ h) ∙ (bind_at _ _ tt refl ∙ bind_err _ _ BadSignature refl))

pub returns-clause-tag : goal.returns-clause-tag
returns-clause-tag c e h = bind_err _ _ OtherTag (bind_at _ _ _ (formed e _ h) ∙ (bind_at _ _ tt refl ∙ (bind_at _ _ tt refl ∙ bind_err _ _ OtherTag refl)))

pub returns-clause-nothing : goal.returns-clause-nothing
returns-clause-nothing c e h =
    bind_at _ _ _ (bind_at _ _ _ (formed e _ h) ∙ (bind_at _ _ tt refl ∙ (bind_at _ _ tt refl ∙ bind_at _ _ tt refl)))
    ∙ bind_at _ _ _ refl
