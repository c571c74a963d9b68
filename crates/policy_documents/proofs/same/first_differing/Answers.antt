use Rattle.std.proofs.Common.{◌≡◌, ◌≤◌, ◌<◌, length, map, take, sym, ◌∙◌, subst, arith}
use Rattle.policy_documents.specs.View.{mapping_view}
use Rattle.policy_documents.proofs.SameLemmas.{mappings_same, differs_here, differs_past, differs_back, differs_none}
use Rattle.policy_documents.proofs.same.first_differing.Goals as goal

pub loop-i-preserved : goal.loop-i-preserved
loop-i-preserved c = record {
  same = mappings_same mapping_view c.args.one.now c.args.other.now c.loop-i.i c.item.result.now c.item-in-loop-i.result.now c.item.ensures c.item-in-loop-i.ensures c.loop-i.invariant.same (sym c.is_same_mapping.ensures ∙ c.if-not-is_same_mapping.false);
  within = omega arith;
}

pub returns-then-not-is_same_mapping-clause-value : goal.returns-then-not-is_same_mapping-clause-value
returns-then-not-is_same_mapping-clause-value c =
    differs_here mapping_view c.args.one.now c.args.other.now c.loop-i.i c.item.result.now c.item-in-loop-i.result.now c.item.ensures c.item-in-loop-i.ensures c.loop-i.invariant.same (sym c.is_same_mapping.ensures ∙ c.if-not-is_same_mapping.true)

pub returns-then-len-clause-value : goal.returns-then-len-clause-value
returns-then-len-clause-value c =
    let here : c.loop-i.i ≡ c.len-then-len.result = omega arith in
    let past : length c.args.one.now ≤ c.len-then-len.result = omega arith in
    let before : c.len-then-len.result < length c.args.other.now = omega arith in
    let same = subst (λ n. take n (map mapping_view c.args.one.now) ≡ take n (map mapping_view c.args.other.now)) here c.loop-i.invariant.same in
    differs_back (map mapping_view c.args.other.now) (map mapping_view c.args.one.now) c.len-then-len.result (differs_past mapping_view c.args.other.now c.args.one.now c.len-then-len.result before past (sym same))

pub returns : goal.returns
returns c =
    let one : length c.args.one.now ≤ c.loop-i.i = omega arith in
    let two : length c.args.other.now ≤ c.loop-i.i = omega arith in
    record { value = differs_none mapping_view c.args.one.now c.args.other.now c.loop-i.i one two c.loop-i.invariant.same; within = tt }
