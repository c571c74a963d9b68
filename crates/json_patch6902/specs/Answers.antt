-- What applying an operation to a document t answers.
use Rattle.std.specs.Prelude.{◌≡◌, ⊤, Result, Ok, Err}
use Rattle.spec_documents.specs.Tree.{Tree}
use Rattle.spec_documents.specs.Place.{Cause}
use Rattle.json_patch6902.specs.declared.fault.ApplyFault.{ApplyFault}
use Rattle.json_patch6902.specs.declared.fault.ApplyFault.TheVariants.{Refused, NoMemory}
use Rattle.json_patch6902.specs.Faults.{cause_view}

-- the document that the definition computes, or the cause that it computes and t again
abbrev pub Applies : Tree → Result Tree Cause → Result Tree ApplyFault → Type 0
Applies t wanted (Ok d) = wanted ≡ Ok d
Applies t wanted (Err (Refused d why)) = (wanted ≡ Err (cause_view why)) × (d ≡ t)
Applies t wanted (Err NoMemory) = ⊤
