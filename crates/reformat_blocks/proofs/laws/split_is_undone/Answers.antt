use Rattle.std.proofs.Common.{sym, subst, ap, ◌∙◌, List}
use Rattle.spec_documents.specs.Tree.{Tree}
use Rattle.spec_messages.specs.Block.{StandsFor, clear_message, sent_block}
use Rattle.spec_messages.specs.Split.{cleared, filled}
use Rattle.reformat_blocks.proofs.Undone.{kept}
use Rattle.reformat_blocks.proofs.laws.split_is_undone.Goals as goal

pub returns-clause-stands : goal.returns-clause-stands
returns-clause-stands c = λ pol k m meta j vs whole ordered low is e.
    let h = kept pol k m meta j vs e in subst (λ (t : Tree). StandsFor t (cleared pol k m)) h.block (c.sent_block_is_block.ensures pol k m meta (record { whole = whole; ordered = ordered; shallow = low; metadata = is; limits = h.limits })).stands

pub returns-clause-clear : goal.returns-clause-clear
returns-clause-clear c = λ pol k m meta j vs whole ordered low is e.
    let h = kept pol k m meta j vs e in
    ap clear_message (sym h.block) ∙ c.block_has_one_message.ensures.computed (sent_block pol k m meta) _ (cleared pol k m) (c.sent_block_is_block.ensures pol k m meta (record { whole = whole; ordered = ordered; shallow = low; metadata = is; limits = h.limits }))

pub returns-clause-filled : goal.returns-clause-filled
returns-clause-filled c = λ pol k m meta j vs whole low e.
    let h = kept pol k m meta j vs e in ap (λ (ws : List Tree). filled ws (cleared pol k m)) (sym h.hidden) ∙ c.fill_after_split.ensures pol k m whole low
