use Rattle.std.proofs.Common.{◌≡◌, ℕ, List, true, false, Some, option_map, map, filter, take, is_some, bytes_eq, sym, ap, ◌∙◌, if◌then◌else◌}
use Rattle.std.specs.List.{find}
use Rattle.spec_messages.specs.Policy.{is_in}
use Rattle.policy_tables.specs.View.{address_view}
use Rattle.message_differences.specs.Fixed.{fixed_by}
use Rattle.message_differences.specs.Named.{verdict, differ, address_of}
use Rattle.message_differences.proofs.FindLemmas.{get_at, view_at}
use Rattle.message_differences.proofs.NameLemmas.{known_seen, known_skipped, known_added, once_skipped, asked_found, asked_none}
use Rattle.message_differences.proofs.names.first_name.Goals as goal

pub loop-i-preserved-then-contains_key : goal.loop-i-preserved-then-contains_key
loop-i-preserved-then-contains_key c =
    let names = map (λ n. n.now) c.args.names.now in
    let x = c.index-names-i.result.now in
    let d = differ c.args.before.now c.args.after.now in
    let there = view_at (λ n. n.now) c.args.names.now c.loop-i.i c.index-names-i.result (get_at c.args.names.now c.loop-i.i c.index-names-i.result c.loop-i-test.true c.index-names-i.is) in
    let seen : is_in (take c.loop-i.i names) x ≡ true = sym (known_seen d (take c.loop-i.i names) x c.loop-i.verdicts c.loop-i.invariant.known) ∙ ap (λ y. is_some (verdict y c.loop-i.verdicts)) (sym c.as_str.ensures) ∙ sym c.contains_key.ensures ∙ c.if-contains_key.true in record {
      known = known_skipped d names c.loop-i.i x c.loop-i.verdicts there seen c.loop-i.invariant.known;
      left = sym (ap (λ ns. find (fixed_by c.args.change.now) (map (address_of c.args.place) (filter d ns))) (once_skipped names c.loop-i.i x there seen)) ∙ c.loop-i.invariant.left;
    }

pub returns-in-Some-clause-found : goal.returns-in-Some-clause-found
returns-in-Some-clause-found c =
    let names = map (λ n. n.now) c.args.names.now in
    let x = c.index-names-i.result.now in
    let d = differ c.args.before.now c.args.after.now in
    let there = view_at (λ n. n.now) c.args.names.now c.loop-i.i c.index-names-i.result (get_at c.args.names.now c.loop-i.i c.index-names-i.result c.loop-i-test.true c.index-names-i.is) in
    let new : is_in (take c.loop-i.i names) x ≡ false = sym (known_seen d (take c.loop-i.i names) x c.loop-i.verdicts c.loop-i.invariant.known) ∙ ap (λ y. is_some (verdict y c.loop-i.verdicts)) (sym c.as_str.ensures) ∙ sym c.contains_key.ensures ∙ c.if-contains_key.false in
    asked_found (fixed_by c.args.change.now) (address_of c.args.place) d names c.loop-i.i x c.is_changed-changed.result (address_view c.in-Some.address) _ there new (c.is_changed-changed.ensures ∙ ap d c.as_str-in-loop-i.ensures)
    (sym c.in_ok-fixed.ensures ∙ ap (option_map address_view) c.in-Some.is) c.loop-i.invariant.left

pub loop-i-preserved : goal.loop-i-preserved
loop-i-preserved c =
    let names = map (λ n. n.now) c.args.names.now in
    let x = c.index-names-i.result.now in
    let d = differ c.args.before.now c.args.after.now in
    let there = view_at (λ n. n.now) c.args.names.now c.loop-i.i c.index-names-i.result (get_at c.args.names.now c.loop-i.i c.index-names-i.result c.loop-i-test.true c.index-names-i.is) in
    let new : is_in (take c.loop-i.i names) x ≡ false = sym (known_seen d (take c.loop-i.i names) x c.loop-i.verdicts c.loop-i.invariant.known) ∙ ap (λ y. is_some (verdict y c.loop-i.verdicts)) (sym c.as_str.ensures) ∙ sym c.contains_key.ensures ∙ c.if-contains_key.false in
    let same : c.is_changed-changed.result ≡ d x = c.is_changed-changed.ensures ∙ ap d c.as_str-in-loop-i.ensures in
    let noted : (q : List ℕ) → verdict q c.note.new.verdicts ≡ (if bytes_eq x q then Some c.is_changed-changed.result else verdict q c.loop-i.verdicts) =
    λ q. c.in_ok-note.ensures q ∙ ap (λ y. if bytes_eq y q then Some c.is_changed-changed.result else verdict q c.loop-i.verdicts) c.as_str-in-loop-i-2.ensures in record {
      known = known_added d names c.loop-i.i x c.is_changed-changed.result c.loop-i.verdicts c.note.new.verdicts there same c.loop-i.invariant.known noted;
      left = asked_none (fixed_by c.args.change.now) (address_of c.args.place) d names c.loop-i.i x c.is_changed-changed.result _ there new same (sym c.in_ok-fixed.ensures ∙ ap (option_map address_view) c.in_default.is) c.loop-i.invariant.left;
    }
