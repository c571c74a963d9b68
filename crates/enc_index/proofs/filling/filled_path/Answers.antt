use Rattle.std.proofs.Common.{◌++◌, map, [], ap, sym, ◌∙◌}
use Rattle.std.specs.Option.{option_map_or}
use Rattle.spec_documents.specs.Text.{pieces, joined}
use Rattle.spec_documents.specs.Hole.{filled_text, but_first}
use Rattle.enc_index.proofs.FillTexts.{later, joined-later}
use Rattle.enc_index.proofs.filling.filled_path.Goals as goal

pub segments-init : goal.segments-init
segments-init c =
    let fill = filled_text c.args.values.now in
    let rest = map fill (option_map_or (λ t. pieces 47 t.now) c.cut.result.1 []) in
    ap (λ s. s ++ later 47 rest) c.in_ok-out.ensures.ok ∙ sym (joined-later 47 c.cut.result.0.now rest) ∙ ap (λ ps. joined 47 (but_first fill ps)) (sym c.cut.ensures.pieces)
