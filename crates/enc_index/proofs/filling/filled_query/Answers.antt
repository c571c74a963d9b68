use Rattle.std.proofs.Common.{◌++◌, map, [], ap, sym, ◌∙◌}
use Rattle.std.specs.Option.{option_map_or}
use Rattle.spec_documents.specs.Text.{pieces, joined}
use Rattle.spec_documents.specs.Hole.{filled_pair}
use Rattle.enc_index.proofs.FillTexts.{later, joined-later}
use Rattle.enc_index.proofs.filling.filled_query.Goals as goal

pub pairs-init : goal.pairs-init
pairs-init c =
    let fill = filled_pair c.args.values.now in
    let rest = map fill (option_map_or (λ t. pieces 38 t.now) c.cut.result.1 []) in
    ap (λ s. s ++ later 38 rest) (c.in_ok-push_pair.ensures ∙ ap (λ s. s ++ fill c.cut.result.0.now) c.new-out.ensures.bytes)
    ∙ sym (joined-later 38 (fill c.cut.result.0.now) rest) ∙ ap (λ ps. joined 38 (map fill ps)) (sym c.cut.ensures.pieces)
