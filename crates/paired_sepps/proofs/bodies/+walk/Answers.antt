use Rattle.std.proofs.Common.{length, ◌≤◌, arith}
use Rattle.std.proofs.lemmas.List.{take_all}
use Rattle.spec_documents.specs.Fields.{field_list}
use Rattle.n32_values.specs.View.{tree_of}
use Rattle.n32_values.proofs.Trees.{depth_within, member_depth_within}
use Rattle.n32_values.proofs.Documents.{items_more, members_more, named, map_valid}
use Rattle.paired_sepps.proofs.bodies.+walk.Goals as goal

pub are_documents-is_document-requires : goal.are_documents-is_document-requires
are_documents-is_document-requires t c = omega (arith, depth_within c.args.list.now c.loop-i.i (tree_of c.item.result.now) c.item.ensures, c.decreases)

pub are_documents-loop-i-preserved : goal.are_documents-loop-i-preserved
are_documents-loop-i-preserved t c = items_more c.args.list.now c.loop-i.i (tree_of c.item.result.now) c.item.ensures c.loop-i.invariant c.is_document.ensures

pub are_members-is_document-requires : goal.are_members-is_document-requires
are_members-is_document-requires t c = omega (arith, member_depth_within c.args.map.now c.loop-i.i c.entry.result.0.now (tree_of c.entry.result.1.now) c.entry.ensures, c.decreases)

pub are_members-loop-i-preserved : goal.are_members-loop-i-preserved
are_members-loop-i-preserved t c = members_more (field_list c.args.map.now) c.loop-i.i c.entry.result.0.now (tree_of c.entry.result.1.now) c.entry.ensures c.loop-i.invariant (named c.as_str-utf8.ensures c.as_str-utf8.utf8) c.is_document.ensures

pub are_members-returns : goal.are_members-returns
are_members-returns t c =
    map_valid c.args.map.now c.len-i-end.ensures.ascending
    (let all : length (field_list c.args.map.now) ≤ c.loop-i.i = omega arith in rw (take_all c.loop-i.i (field_list c.args.map.now) all) at c.loop-i.invariant)
