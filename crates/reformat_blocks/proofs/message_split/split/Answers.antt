use Rattle.std.proofs.Common.{◌≡◌, ◌≤◌, length, Ok, ap, ap₂, sym, subst, ◌∙◌, arith, List}
use Rattle.std.proofs.lemmas.Bool.{ltb-true, ltb-false}
use Rattle.spec_documents.specs.Tree.{Tree, depth}
use Rattle.spec_documents.specs.Compact.{compact_text}
use Rattle.spec_messages.specs.Block.{sent_block}
use Rattle.spec_messages.specs.Fault.{block_fault}
use Rattle.spec_messages.specs.Policy.{values}
use Rattle.spec_messages.specs.Split.{cleared}
use Rattle.n32_values.specs.View.{tree_of}
use Rattle.http_message.specs.Reading.{message_view, header_view}
use Rattle.block_forms.specs.Metadata.{meta_view}
use Rattle.reformat_blocks.proofs.Hiding.{length-map}
use Rattle.reformat_blocks.proofs.Limits.{over_headers, over_items, over_values, over_text, all_within, in_all}
use Rattle.reformat_blocks.proofs.message_split.split.Goals as goal

pub returns-then-len-gt256-clause-outcome : goal.returns-then-len-gt256-clause-outcome
returns-then-len-gt256-clause-outcome c =
    let m = message_view c.args.message.now in
    let count : length c.headers.result.now ≡ length m.headers = sym (length-map header_view c.headers.result.now) ∙ ap length c.headers.ensures in
    over_headers c.args.policy.now c.args.mapping m (meta_view c.args.meta) (omega (arith, count, c.len.ensures, c.if-len-gt256.true))

pub returns-then-sent-gt4096-clause-outcome : goal.returns-then-sent-gt4096-clause-outcome
returns-then-sent-gt4096-clause-outcome c =
    let m = message_view c.args.message.now in
    let count : length c.headers.result.now ≡ length m.headers = sym (length-map header_view c.headers.result.now) ∙ ap length c.headers.ensures in
    over_items c.args.policy.now c.args.mapping m (meta_view c.args.meta) (omega (arith, count, c.len.ensures, c.if-len-gt256.false)) (omega (arith, c.in_ok-sent.ensures.items, c.if-sent-gt4096.true))

pub returns-then-len-gt1024-clause-outcome : goal.returns-then-len-gt1024-clause-outcome
returns-then-len-gt1024-clause-outcome c =
    let m = message_view c.args.message.now in
    let count : length c.headers.result.now ≡ length m.headers = sym (length-map header_view c.headers.result.now) ∙ ap length c.headers.ensures in
    let hidden : c.len-2.result ≡ length (values c.args.policy.now c.args.mapping m) = c.len-2.ensures ∙ ap length c.in_ok-sent.ensures.values in
    over_values c.args.policy.now c.args.mapping m (meta_view c.args.meta) (omega (arith, count, c.len.ensures, c.if-len-gt256.false)) (omega (arith, c.in_ok-sent.ensures.items, c.if-sent-gt4096.false))
    (omega (arith, hidden, c.if-len-gt1024.true))

pub returns-then-is_longer-clause-outcome : goal.returns-then-is_longer-clause-outcome
returns-then-is_longer-clause-outcome c =
    let m = message_view c.args.message.now in
    let count : length c.headers.result.now ≡ length m.headers = sym (length-map header_view c.headers.result.now) ∙ ap length c.headers.ensures in
    let hidden : c.len-2.result ≡ length (values c.args.policy.now c.args.mapping m) = c.len-2.ensures ∙ ap length c.in_ok-sent.ensures.values in
    let text = ap (λ t. length (compact_text t)) c.in_ok-sent.ensures.block in
    over_text c.args.policy.now c.args.mapping m (meta_view c.args.meta) (omega (arith, count, c.len.ensures, c.if-len-gt256.false)) (omega (arith, c.in_ok-sent.ensures.items, c.if-sent-gt4096.false))
    (omega (arith, hidden, c.if-len-gt1024.false)) (omega (arith, text, ltb-true 4194304 (length (compact_text (tree_of c.in_ok-sent.sent.block))) (sym c.is_longer.ensures ∙ c.if-is_longer.true)))

pub from_shallow-requires : goal.from_shallow-requires
from_shallow-requires c =
    subst (λ (t : Tree). depth t ≤ 127) (sym c.in_ok-sent.ensures.block) (c.sent_block_is_shallow.ensures c.args.policy.now c.args.mapping (message_view c.args.message.now) (meta_view c.args.meta) c.requires.shallow)

-- the sent block has no fault, with as many holes as values
abbrev faultless : goal.of_doc-requires
faultless c =
    let pol = c.args.policy.now in
    let k = c.args.mapping in
    let m = message_view c.args.message.now in
    let meta = meta_view c.args.meta in
    let count : length c.headers.result.now ≡ length m.headers = sym (length-map header_view c.headers.result.now) ∙ ap length c.headers.ensures in
    let hidden : c.len-2.result ≡ length (values pol k m) = c.len-2.ensures ∙ ap length c.in_ok-sent.ensures.values in
    let holes : c.len-3.result ≡ length (values pol k m) = c.len-3.ensures ∙ ap length c.in_ok-sent.ensures.values in
    let limits = in_all pol k m meta (omega (arith, count, c.len.ensures, c.if-len-gt256.false)) (omega (arith, c.in_ok-sent.ensures.items, c.if-sent-gt4096.false)) (omega (arith, hidden, c.if-len-gt1024.false)) in
    let block = c.sent_block_is_block.ensures pol k m meta (record { whole = c.requires.whole; ordered = c.body_is_ordered.ensures; shallow = c.requires.shallow; metadata = c.requires.meta; limits = limits }) in
    ap₂ block_fault (c.from_shallow.ensures ∙ c.in_ok-sent.ensures.block) holes ∙ c.fault_decides.ensures.none (sent_block pol k m meta) (length (values pol k m)) (cleared pol k m) block

pub of_doc-requires : goal.of_doc-requires
of_doc-requires c = faultless c

pub returns-clause-outcome : goal.returns-clause-outcome
returns-clause-outcome c =
    let pol = c.args.policy.now in
    let k = c.args.mapping in
    let m = message_view c.args.message.now in
    let count : length c.headers.result.now ≡ length m.headers = sym (length-map header_view c.headers.result.now) ∙ ap length c.headers.ensures in
    let hidden : c.len-2.result ≡ length (values pol k m) = c.len-2.ensures ∙ ap length c.in_ok-sent.ensures.values in
    let text = ap (λ t. length (compact_text t)) c.in_ok-sent.ensures.block in
    let block : c.of_doc.result ≡ sent_block pol k m (meta_view c.args.meta) = c.of_doc.ensures.value ∙ c.from_shallow.ensures ∙ c.in_ok-sent.ensures.block in
    all_within pol k m (meta_view c.args.meta) (omega (arith, count, c.len.ensures, c.if-len-gt256.false)) (omega (arith, c.in_ok-sent.ensures.items, c.if-sent-gt4096.false))
    (omega (arith, hidden, c.if-len-gt1024.false)) (omega (arith, text, ltb-false 4194304 (length (compact_text (tree_of c.in_ok-sent.sent.block))) (sym c.is_longer.ensures ∙ c.if-is_longer.false)))
    ∙ ap₂ (λ (j : Tree) (vs : List Tree). Ok (j, vs)) (sym block) (sym c.in_ok-sent.ensures.values)

pub returns-clause-holes : goal.returns-clause-holes
returns-clause-holes c = ap (block_fault c.of_doc.result) (sym c.len-3.ensures) ∙ c.of_doc.ensures.holes
