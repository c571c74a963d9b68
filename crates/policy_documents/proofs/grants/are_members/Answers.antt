use Rattle.std.proofs.Common.{is_some, sym, ◌∙◌}
use Rattle.n32_values.specs.View.{tree_of}
use Rattle.spec_documents.specs.Fields.{field_list}
use Rattle.spec_messages.specs.PolicyDocument.{grant_of}
use Rattle.policy_documents.proofs.Lists.{all_at, all_fail}
use Rattle.policy_documents.proofs.grants.are_members.Goals as goal

pub loop-i-preserved : goal.loop-i-preserved
loop-i-preserved c =
    all_at (λ e. is_some (grant_of e)) (field_list c.args.map.now) c.loop-i.i (c.entry.result.0.now, tree_of c.entry.result.1.now) _ c.entry.ensures c.loop-i.invariant
    (sym (rw c.as_str.ensures at c.is_grant.ensures) ∙ c.if-not-is_grant.false)

pub returns-then-not-is_grant : goal.returns-then-not-is_grant
returns-then-not-is_grant c =
    all_fail (λ e. is_some (grant_of e)) (field_list c.args.map.now) c.loop-i.i (c.entry.result.0.now, tree_of c.entry.result.1.now) _ c.entry.ensures c.loop-i.invariant
    (sym (rw c.as_str.ensures at c.is_grant.ensures) ∙ c.if-not-is_grant.true)
