-- What filling a message with holes comes to: the filled message, or why there is none.
use Rattle.std.specs.Prelude.{◌≡◌, ⊤, ◌<◌, ◌≤◌, List, Option, Some, None, Result, Ok, Err}
use Rattle.spec_documents.specs.Tree.{Tree}
use Rattle.spec_messages.specs.Message as spec
use Rattle.spec_messages.specs.Split.{fill_whole}
use Rattle.spec_messages.specs.Rebuilt.{FillFault, not_text, too_deep, fill_fault}
use Rattle.http_message.specs.declared.message.Message.{Message}
use Rattle.http_message.specs.Reading.{message_view}
use Rattle.message_rebuilding.specs.declared.filling.RebuildFault.{RebuildFault}
use Rattle.message_rebuilding.specs.declared.filling.RebuildFault.TheVariants.{NotText, Depth, NoMemory}

-- the fault that an answer tells
abbrev pub Tells : RebuildFault → Option FillFault → Type 0
Tells (NotText n) why = why ≡ Some (not_text n)
Tells Depth why = why ≡ Some too_deep
Tells NoMemory why = ⊤

-- the answer to filling c with these values
abbrev pub Fills : Result Message RebuildFault → List Tree → spec.Message → Type 0
Fills (Ok m) vs c = (fill_fault vs c ≡ None) × (message_view m ≡ fill_whole vs c)
Fills (Err e) vs c = Tells e (fill_fault vs c)

abbrev pub FillsBody : Result (Option Tree) RebuildFault → Option Tree → Type 0
FillsBody (Ok b) body = (b ≡ body) × (spec.body_depth b ≤ 64)
FillsBody (Err (NotText n)) body = ⊥
FillsBody (Err Depth) body = 64 < spec.body_depth body
FillsBody (Err NoMemory) body = ⊤
