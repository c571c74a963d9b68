use Rattle.std.proofs.Common.{◌≡◌, [], ◌∷◌, length, Ok, Err, refl, sym, ap, ◌∙◌, arith}
use Rattle.std.proofs.lemmas.Bool.{eqb-true}
use Rattle.std.proofs.lemmas.Result.{err_from_is_err_and}
use Rattle.spec_documents.specs.Tree.{items, trees, members, set_member, get_member}
use Rattle.spec_documents.specs.Place.{no_place, child}
use Rattle.n32_values.specs.View.{tree_of}
use Rattle.json_patch6902.specs.Edits.{IsItemAt, change_view}
use Rattle.json_patch6902.proofs.NewPlaces.{item_child}
use Rattle.json_patch6902.proofs.EditSteps.{edits_under, nothing_under, refused_under, ok_under, empty_list, there_is, put_item, member_child, member_none}
use Rattle.json_patch6902.proofs.change.+change.Goals as goal

pub change_at-returns-then-is_empty-clause-edit : goal.change_at-returns-then-is_empty-clause-edit
change_at-returns-then-is_empty-clause-edit t c =
    let none : length c.in-Some.rest.now ≡ 0 = eqb-true (length c.in-Some.rest.now) 0 (sym c.is_empty.ensures ∙ c.if-is_empty.true) in
    let path : c.args.path.now ≡ c.in-Some.token.now ∷ [] = c.in-Some.ensures.cases.0 ∙ ap (λ q. c.in-Some.token.now ∷ q) (empty_list c.in-Some.rest.now none) in
    rw path c.change_child.ensures.edit

pub change_at-returns-then-is_empty-clause-taken : goal.change_at-returns-then-is_empty-clause-taken
change_at-returns-then-is_empty-clause-taken t c =
    let none : length c.in-Some.rest.now ≡ 0 = eqb-true (length c.in-Some.rest.now) 0 (sym c.is_empty.ensures ∙ c.if-is_empty.true) in
    let path : c.args.path.now ≡ c.in-Some.token.now ∷ [] = c.in-Some.ensures.cases.0 ∙ ap (λ q. c.in-Some.token.now ∷ q) (empty_list c.in-Some.rest.now none) in
    rw path c.change_child.ensures.taken

pub change_at-returns-in_default : goal.change_at-returns-in_default
change_at-returns-in_default t c = record { edit = (rw (empty_list c.args.path.now c.in_default.ensures.cases) refl, refl); taken = tt }

pub change_in_item-returns-in_err-place-clause-edit : goal.change_in_item-returns-in_err-place-clause-edit
change_in_item-returns-in_err-place-clause-edit t c =
    let p = err_from_is_err_and c.from_residual.result c.from_residual.ensures.1 in
    rw (p.1, p.2) (refused_under (change_view c.args.change) c.args.token.now c.args.rest.now (items (trees c.args.list.now)) _ c.requires (rw c.as_str.ensures at c.in_err-place.ensures))

pub change_in_item-returns-in-Some-clause-edit : goal.change_in_item-returns-in-Some-clause-edit
change_in_item-returns-in-Some-clause-edit t c =
    let place : IsItemAt c.args.token.now c.args.list.now c.in_ok-place.place = rw c.as_str.ensures at c.in_ok-place.ensures in
    edits_under (change_view c.args.change) c.args.token.now c.args.rest.now (items (trees c.args.list.now)) (tree_of c.in-Some.item.now) (tree_of c.change_at.new.node) _ c.change_at.result c.requires
    (item_child c.args.token.now c.args.list.now c.in_ok-place.place _ place (sym c.in-Some.ensures.value)) (put_item c.args.token.now c.args.list.now c.in_ok-place.place _ place) c.change_at.ensures.edit

pub change_in_item-returns-in-Some-clause-taken : goal.change_in_item-returns-in-Some-clause-taken
change_in_item-returns-in-Some-clause-taken t c =
    let place : IsItemAt c.args.token.now c.args.list.now c.in_ok-place.place = rw c.as_str.ensures at c.in_ok-place.ensures in
    ok_under c.args.change c.args.token.now c.args.rest.now (items (trees c.args.list.now)) (tree_of c.in-Some.item.now) c.change_at.result
    (item_child c.args.token.now c.args.list.now c.in_ok-place.place _ place (sym c.in-Some.ensures.value)) c.change_at.ensures.taken

pub change_in_item-returns-in-None-clause-edit : goal.change_in_item-returns-in-None-clause-edit
change_in_item-returns-in-None-clause-edit t c =
    let place : IsItemAt c.args.token.now c.args.list.now c.in_ok-place.place = rw c.as_str.ensures at c.in_ok-place.ensures in
    absurd (there_is c.args.list.now c.in_ok-place.place place.within (sym c.in-None.ensures.value))

pub change_in_member-returns-in-Some-clause-edit : goal.change_in_member-returns-in-Some-clause-edit
change_in_member-returns-in-Some-clause-edit t c =
    edits_under (change_view c.args.change) c.args.token.now c.args.rest.now (members c.args.map.now) (tree_of c.in-Some.member.now) (tree_of c.change_at.new.node) _ c.change_at.result c.requires
    (member_child c.args.token.now c.args.map.now _ (rw c.as_str.ensures at (sym c.in-Some.ensures.value))) (ap (λ k. members (set_member k (tree_of c.change_at.new.node) c.args.map.now)) (sym c.as_str.ensures)) c.change_at.ensures.edit

pub change_in_member-returns-in-Some-clause-taken : goal.change_in_member-returns-in-Some-clause-taken
change_in_member-returns-in-Some-clause-taken t c =
    ok_under c.args.change c.args.token.now c.args.rest.now (members c.args.map.now) (tree_of c.in-Some.member.now) c.change_at.result
    (member_child c.args.token.now c.args.map.now _ (rw c.as_str.ensures at (sym c.in-Some.ensures.value))) c.change_at.ensures.taken

pub change_in_member-returns-in-None-clause-edit : goal.change_in_member-returns-in-None-clause-edit
change_in_member-returns-in-None-clause-edit t c =
    (nothing_under (change_view c.args.change) c.args.token.now c.args.rest.now (members c.args.map.now) no_place c.requires (member_none c.args.token.now c.args.map.now (rw c.as_str.ensures at (sym c.in-None.ensures.value))), refl)
