use Rattle.std.proofs.Common.{◌≡◌, suc, length, take, Ok, ap, ◌∙◌, arith}
use Rattle.spec_messages.specs.Entry.{is_member}
use Rattle.n32_values.specs.View.{tree_of}
use Rattle.block_patch.proofs.Overwriting.{overwrites_there, overwrites_nothing}
use Rattle.block_patch.proofs.guards.overwrites.Goals as goal

pub returns-in-Ok : goal.returns-in-Ok
returns-in-Ok c =
    let count : suc c.in-Some.last ≡ length c.args.path.now = omega (arith, c.in-Some.ensures.0, c.in-Some.ensures.1, c.len.ensures) in
    let front = c.truncate.ensures ∙ ap (take c.in-Some.last) c.in_ok-front.ensures in
    c.has_member.ensures
    ∙ (ap (is_member (Ok (tree_of c.in-Ok.node.now))) c.as_str.ensures
    ∙ overwrites_there c.args.block.now _ c.args.path.now _ c.in-Some.last c.token.result.now (tree_of c.in-Ok.node.now) count c.token.ensures c.node.ensures.value front c.in-Ok.ensures)

pub returns : goal.returns
returns c =
    let count : suc c.in-Some.last ≡ length c.args.path.now = omega (arith, c.in-Some.ensures.0, c.in-Some.ensures.1, c.len.ensures) in
    let front = c.truncate.ensures ∙ ap (take c.in-Some.last) c.in_ok-front.ensures in
    overwrites_nothing c.args.block.now _ c.args.path.now _ c.in-Some.last _ count c.node.ensures.value front c.in-Err.ensures
