use Rattle.policy_documents.proofs.NameLemmas.{pointer_kept}
use Rattle.std.proofs.Common.{sym}
use Rattle.policy_documents.proofs.read.pointer_in.Goals as goal

pub returns-in-Ok : goal.returns-in-Ok
returns-in-Ok c = sym (pointer_kept c.args.text.now c.in-Ok.pointer c.in-Ok.ensures)
