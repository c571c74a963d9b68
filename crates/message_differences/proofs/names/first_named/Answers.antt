use Rattle.std.proofs.Common.{◌≡◌, ◌++◌, true, false, not, Some, option_map, map, sym, ap, ◌∙◌}
use Rattle.std.specs.List.{find}
use Rattle.spec_messages.specs.Policy.{line, same_list, same_named, names_changed}
use Rattle.policy_tables.specs.View.{address_view}
use Rattle.message_differences.specs.Fixed.{fixed_by}
use Rattle.message_differences.specs.Named.{named_view, differ, address_of, order_of}
use Rattle.message_differences.proofs.SelfLemmas.{same_nothing}
use Rattle.message_differences.proofs.NameLemmas.{changed_by, names_first, order_is, named_found, named_order}
use Rattle.message_differences.proofs.names.first_named.Goals as goal

pub returns-then-is_same_list : goal.returns-then-is_same_list
returns-then-is_same_list c =
    sym (ap (find (fixed_by c.args.change.now)) (same_nothing (address_of c.args.place) (order_of c.args.place) (map named_view c.args.before.now) (map named_view c.args.after.now) (sym c.is_same_list.ensures ∙ c.if-is_same_list.true)))

pub returns-in-Some : goal.returns-in-Some
returns-in-Some c =
    let xs = map named_view c.args.before.now in
    let ys = map named_view c.args.after.now in
    let names = map (λ n. n.now) c.deref.result.now in
    let d = differ c.in_ok-own.own c.in_ok-other.other in
    let all : names ≡ map (λ a. a.0) (xs ++ ys) = ap (map (λ n. n.now)) c.deref.ensures.value ∙ c.in_ok-names.ensures in
    let same : d ≡ changed_by xs ys = λ i q. not (same_list same_named (c.in_ok-own.ensures q i) (c.in_ok-other.ensures q i)) in
    let first : find (fixed_by c.args.change.now) (map (address_of c.args.place) (names_changed xs ys)) ≡ option_map address_view c.in_ok-found.found =
    sym (c.in_ok-found.ensures.found ∙ ap (find (fixed_by c.args.change.now)) (names_first (address_of c.args.place) xs ys d names all same)) in
    sym (named_found (fixed_by c.args.change.now) (address_of c.args.place) (order_of c.args.place) xs ys (address_view c.in-Some.address) (first ∙ ap (option_map address_view) c.in-Some.is))

pub returns-then-same : goal.returns-then-same
returns-then-same c =
    let xs = map named_view c.args.before.now in
    let ys = map named_view c.args.after.now in
    let names = map (λ n. n.now) c.deref.result.now in
    let d = differ c.in_ok-own.own c.in_ok-other.other in
    let all : names ≡ map (λ a. a.0) (xs ++ ys) = ap (map (λ n. n.now)) c.deref.ensures.value ∙ c.in_ok-names.ensures in
    let same : d ≡ changed_by xs ys = λ i q. not (same_list same_named (c.in_ok-own.ensures q i) (c.in_ok-other.ensures q i)) in
    let first : find (fixed_by c.args.change.now) (map (address_of c.args.place) (names_changed xs ys)) ≡ option_map address_view c.in_ok-found.found =
    sym (c.in_ok-found.ensures.found ∙ ap (find (fixed_by c.args.change.now)) (names_first (address_of c.args.place) xs ys d names all same)) in
    let known = c.in_ok-found.ensures.known c.in_default.is in
    sym (named_order (fixed_by c.args.change.now) (address_of c.args.place) (order_of c.args.place) xs ys true (first ∙ ap (option_map address_view) c.in_default.is)
    (sym (order_is xs ys d names c.first_name.new.verdicts all same known) ∙ sym c.in_ok-same.ensures ∙ c.if-same.true))

pub returns : goal.returns
returns c =
    let xs = map named_view c.args.before.now in
    let ys = map named_view c.args.after.now in
    let names = map (λ n. n.now) c.deref.result.now in
    let d = differ c.in_ok-own.own c.in_ok-other.other in
    let all : names ≡ map (λ a. a.0) (xs ++ ys) = ap (map (λ n. n.now)) c.deref.ensures.value ∙ c.in_ok-names.ensures in
    let same : d ≡ changed_by xs ys = λ i q. not (same_list same_named (c.in_ok-own.ensures q i) (c.in_ok-other.ensures q i)) in
    let first : find (fixed_by c.args.change.now) (map (address_of c.args.place) (names_changed xs ys)) ≡ option_map address_view c.in_ok-found.found =
    sym (c.in_ok-found.ensures.found ∙ ap (find (fixed_by c.args.change.now)) (names_first (address_of c.args.place) xs ys d names all same)) in
    let known = c.in_ok-found.ensures.known c.in_default.is in
    ap (λ l. Some (line l)) c.order.ensures
    ∙ sym (named_order (fixed_by c.args.change.now) (address_of c.args.place) (order_of c.args.place) xs ys false (first ∙ ap (option_map address_view) c.in_default.is)
    (sym (order_is xs ys d names c.first_name.new.verdicts all same known) ∙ sym c.in_ok-same.ensures ∙ c.if-same.false))
