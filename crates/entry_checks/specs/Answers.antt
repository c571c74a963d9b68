-- What checking and applying the entries of a document answers (this project's own).
use Rattle.std.specs.Prelude.{◌≡◌, ℕ, List, Result, Ok, Err}
use Rattle.spec_documents.specs.Gives.{Tells}
use Rattle.spec_documents.specs.Tree.{Tree}
use Rattle.spec_messages.specs.Message.{Message}
use Rattle.spec_messages.specs.Block.{IsBlock}
use Rattle.spec_exchange.specs.EntryChecks.{Progress}
use Rattle.spec_exchange.specs.AcceptRefusals.{Refusal}
use Rattle.entry_checks.specs.declared.refused.EntriesFault.{EntriesFault}
use Rattle.entry_checks.specs.declared.refused.EntriesFault.TheVariants.{Refused}
use Rattle.entry_checks.specs.declared.refused.RefusedEntry.{RefusedEntry}
use Rattle.entry_checks.specs.declared.refused.EntryWhy.TheVariants.{Verifier}
use Rattle.entry_checks.specs.Views.{told}

-- w is the block that the entries make, with so many holes, and stands for the message that they make
pub record Made (holes : ℕ) (w : Tree) (all : Result Progress Refusal) : Type 0 where
  pub identities : List (List ℕ)
  pub holed : Message
  pub outcome : all ≡ Ok (record { identities = identities; block = w; holed = holed })
  pub block : IsBlock w holes holed

-- the block that the entries make, or the first entry that is refused with the first reason
abbrev pub Answers : ℕ → Result Progress Refusal → Result Tree EntriesFault → Type 0
Answers holes all (Ok w) = Made holes w all
Answers holes all (Err e) = Tells (told e) all

-- the answer is that the verifier failed, at some entry
pub record IsOfVerifier {A : Type 0} (result : Result A EntriesFault) : Type 0 where
  pub refused : RefusedEntry
  pub is : result ≡ Err (Refused refused)
  pub verifier : refused.why ≡ Verifier
