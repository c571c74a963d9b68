-- What the faults of readers tell. Want of memory tells nothing.
use Rattle.std.specs.Prelude.{◌≡◌, ⊤, ℕ, List, Option, None}
use Rattle.spec_documents.specs.Tree.{Tree}
use Rattle.n32_values.specs.declared.base64url.B64Fault.{B64Fault}
use Rattle.n32_values.specs.declared.base64url.B64Fault.TheVariants as text
use Rattle.n32_values.specs.declared.read.DocFault.{DocFault}
use Rattle.n32_values.specs.declared.read.DocFault.TheVariants as document

-- there are no bytes
abbrev pub NoBytes : B64Fault → Option (List ℕ) → Type 0
NoBytes text.NotText bytes = bytes ≡ None
NoBytes text.NoMemory bytes = ⊤

-- there is no document
abbrev pub NoDocument : DocFault → Option Tree → Type 0
NoDocument document.Syntax t = t ≡ None
NoDocument document.Number t = t ≡ None
NoDocument document.NoMemory t = ⊤
