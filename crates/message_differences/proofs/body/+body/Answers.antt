use Rattle.std.proofs.Common.{rules, ◌≡◌, [], ◌∷◌, ◌++◌, option_map, map, sym, ap, ap₂, subst, ◌∙◌, arith}
use Rattle.std.specs.List.{find}
use Rattle.spec_documents.specs.Fields.{field_list}
use Rattle.spec_documents.proofs.FieldLemmas.{fields-field_list}
use Rattle.spec_messages.specs.Policy.{body_at, members_changed}
use Rattle.n32_values.specs.View.{tree_of}
use Rattle.policy_tables.specs.View.{address_view}
use Rattle.n32_values.proofs.Trees.{member_depth_within}
use Rattle.std.specs.Int.{from_bool}
use Rattle.message_differences.specs.Fixed.{fixed_by, FirstFixed}
use Rattle.message_differences.specs.Turns.{Comes}
use Rattle.message_differences.proofs.TurnLemmas.{turn_found, turn_none, less_at, greater_at, equal_at, member_ordered, changed_is}
use Rattle.message_differences.proofs.body.+body.Goals as goal

pub first_in_members-members-init : goal.first_in_members-members-init
first_in_members-members-init t c = ap₂ (λ x y. find (fixed_by c.args.change.now) (map body_at (members_changed c.args.place.now x y))) (fields-field_list c.args.before.now) (fields-field_list c.args.after.now)

pub first_in_members-returns-in-Some-fixed : goal.first_in_members-returns-in-Some-fixed
first_in_members-returns-in-Some-fixed t c =
    turn_found (fixed_by c.args.change.now) c.args.place.now (field_list c.args.before.now) (field_list c.args.after.now) c.members.i c.members.j c.in-Some.order (address_view c.in-Some-fixed.address) _
    c.in-Some.ensures.ascending.0 c.in-Some.ensures.ascending.1 c.in-Some.ensures.next (sym c.in_ok-fixed.ensures ∙ ap (option_map address_view) c.in-Some-fixed.is) c.members.invariant

pub first_in_members-members-preserved : goal.first_in_members-members-preserved
first_in_members-members-preserved t c =
    turn_none (fixed_by c.args.change.now) c.args.place.now (field_list c.args.before.now) (field_list c.args.after.now) c.members.i c.members.j c.in-Some.order c.from-passed.result c.from-added.result _
    c.in-Some.ensures.ascending.0 c.in-Some.ensures.ascending.1 c.in-Some.ensures.next (c.from-passed.ensures ∙ ap from_bool c.is_le.ensures) (c.from-added.ensures ∙ ap from_bool c.is_ge.ensures)
    (sym c.in_ok-fixed.ensures ∙ ap (option_map address_view) c.in_default-fixed.is) c.members.invariant

pub fixed_at_next-returns-in-Less : goal.fixed_at_next-returns-in-Less
fixed_at_next-returns-in-Less t c =
    let ms = field_list c.args.before.now in
    let ns = field_list c.args.after.now in
    let comes = subst (λ o. Comes ms c.args.i ns c.args.j o) c.in-Less.is c.requires.comes in
    subst (λ ps. FirstFixed c.args.change.now c.fixed_name.result (map body_at ps)) (sym (less_at c.args.place.now c.entry.result.0.now (tree_of c.entry.result.1.now) ms ns c.args.i c.args.j c.entry.ensures comes)) c.fixed_name.ensures

pub fixed_at_next-returns-in-Greater : goal.fixed_at_next-returns-in-Greater
fixed_at_next-returns-in-Greater t c =
    let ms = field_list c.args.before.now in
    let ns = field_list c.args.after.now in
    let comes = subst (λ o. Comes ms c.args.i ns c.args.j o) c.in-Greater.is c.requires.comes in
    subst (λ ps. FirstFixed c.args.change.now c.fixed_name-in-Greater.result (map body_at ps))
    (sym (greater_at c.args.place.now c.entry-in-Greater.result.0.now (tree_of c.entry-in-Greater.result.1.now) ms ns c.args.i c.args.j c.entry-in-Greater.ensures comes)) c.fixed_name-in-Greater.ensures

pub fixed_at_next-first_in_member-requires : goal.fixed_at_next-first_in_member-requires
fixed_at_next-first_in_member-requires t c = (
  omega (arith, member_depth_within c.args.before.now c.args.i c.entry-in-Equal.result.0.now (tree_of c.entry-in-Equal.result.1.now) c.entry-in-Equal.ensures, c.decreases),
  member_ordered c.args.before.now c.args.i c.entry-in-Equal.result.0.now (tree_of c.entry-in-Equal.result.1.now) c.requires.ordered c.entry-in-Equal.ensures,
)

pub fixed_at_next-returns-in-Equal : goal.fixed_at_next-returns-in-Equal
fixed_at_next-returns-in-Equal t c =
    let ms = field_list c.args.before.now in
    let ns = field_list c.args.after.now in
    let comes = subst (λ o. Comes ms c.args.i ns c.args.j o) c.in-Equal.is c.requires.comes in
    subst (λ ps. FirstFixed c.args.change.now c.first_in_member.result (map body_at ps))
    (sym (equal_at c.args.place.now c.entry-in-Equal.result.0.now c.entry-in-Equal-2.result.0.now (tree_of c.entry-in-Equal.result.1.now) (tree_of c.entry-in-Equal-2.result.1.now) ms ns c.args.i c.args.j c.entry-in-Equal.ensures c.entry-in-Equal-2.ensures comes))
    c.first_in_member.ensures

pub first_in_member-returns-then-is_same_doc : goal.first_in_member-returns-then-is_same_doc
first_in_member-returns-then-is_same_doc t c =
    let same : tree_of c.args.before.now ≡ tree_of c.args.after.now = c.is_same_doc.ensures.0 (search rules) in
    sym (ap (λ ps. find (fixed_by c.args.change.now) (map body_at ps)) (changed_is (c.args.place.now ++ c.args.name.now ∷ []) _ _ c.requires.ordered same))
