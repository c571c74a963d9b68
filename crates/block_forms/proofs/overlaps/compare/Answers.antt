use Rattle.std.proofs.Common.{◌≡◌, length, min, nat_cmp, sym, ◌∙◌, arith}
use Rattle.spec_documents.specs.Tree.{name_cmp}
use Rattle.block_forms.proofs.Overlap.{tokens_differ, tokens_alike, tokens_end}
use Rattle.block_forms.proofs.overlaps.compare.Goals as goal

pub loop-i-preserved : goal.loop-i-preserved
loop-i-preserved c =
    let told : c.cmp.result ≡ name_cmp c.token.result.now c.token-in-loop-i.result.now = c.cmp.ensures ∙ (λ k. name_cmp (c.as_str.ensures k) (c.as_str-in-loop-i.ensures k)) in
    tokens_alike c.args.left.now c.args.right.now c.loop-i.i c.token.result.now c.token-in-loop-i.result.now c.token.ensures c.token-in-loop-i.ensures (sym told ∙ c.in-Equal.is) ∙ c.loop-i.invariant

pub returns-in_default : goal.returns-in_default
returns-in_default c =
    let told : c.cmp.result ≡ name_cmp c.token.result.now c.token-in-loop-i.result.now = c.cmp.ensures ∙ (λ k. name_cmp (c.as_str.ensures k) (c.as_str-in-loop-i.ensures k)) in
    told ∙ (tokens_differ c.args.left.now c.args.right.now c.loop-i.i c.token.result.now c.token-in-loop-i.result.now c.token.ensures c.token-in-loop-i.ensures (λ e. c.in_default.not-Equal (told ∙ e)) ∙ c.loop-i.invariant)

pub returns : goal.returns
returns c =
    let past : c.loop-i.i ≡ min (length c.args.left.now) (length c.args.right.now) = omega arith in
    c.cmp-2.ensures ∙ ((λ k. nat_cmp (c.len-3.ensures k) (c.len-4.ensures k)) ∙ (sym (tokens_end c.args.left.now c.args.right.now c.loop-i.i past) ∙ c.loop-i.invariant))
