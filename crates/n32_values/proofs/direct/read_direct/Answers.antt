use Rattle.std.proofs.Common.{◌≡◌, Some, sym, ap, ◌∙◌, option_and_then}
use Rattle.spec_documents.specs.Reading.{tree_from}
use Rattle.serde_json.specs.Read.{read}
use Rattle.n32_values.specs.View.{tree_of}
use Rattle.n32_values.proofs.StraightReading.{reads_to}
use Rattle.n32_values.proofs.direct.read_direct.Goals as goal

pub returns-in-Ok-new : goal.returns-in-Ok-new
returns-in-Ok-new c =
    let bytes = c.args.bytes.now in
    let t = tree_of c.in-Ok-read_whole.node in
    let utf8 = c.in-Ok.ensures.cases in
    let tree : option_and_then tree_from (read bytes) ≡ Some t = ap (λ s. option_and_then tree_from (read s)) (sym utf8.0) ∙ c.in-Ok-read_whole.ensures in
    c.documents_are_read.ensures.there bytes t (reads_to bytes t utf8.1 tree) ∙ ap Some (sym c.in-Ok-new.ensures.ok)
