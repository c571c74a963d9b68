-- Lists that are the same have no difference.
use Rattle.std.proofs.Common.{◌≡◌, ℕ, List, [], ◌∷◌, ◌++◌, map, filter, Bool, true, false, not, Option, Some, None, refl, sym, ap, ap₂, ◌∙◌, if◌then◌else◌}
use Rattle.std.proofs.lemmas.Bool.{and_parts, and_from}
use Rattle.std.proofs.lemmas.Bool.Decides.{Decides-eqb}
use Rattle.std.proofs.lemmas.Slice.Eq.{bytes_eq-Decides}
use Rattle.std.specs.Prelude.{bytes_eq}
use Rattle.spec_messages.specs.Message.{Part, clear, hole_part}
use Rattle.spec_messages.specs.Policy.{Address, LinePart, Named, line, unless, same_part, same_option, same_list, same_named, of_name, once_each, names_changed, others, named_changed}

part_is : (p q : Part) → same_part p q ≡ true → p ≡ q
part_is (clear s) (clear r) e = ap clear ((bytes_eq-Decides s r).0 e)
part_is (hole_part m) (hole_part n) e = ap hole_part ((Decides-eqb m n).0 e)
part_is (clear s) (hole_part n) e = cc
part_is (hole_part m) (clear r) e = cc

value_is : (o p : Option Part) → same_option same_part o p ≡ true → o ≡ p
value_is None None e = refl
value_is (Some x) (Some y) e = ap Some (part_is x y e)
value_is None (Some y) e = cc
value_is (Some x) None e = cc

named_is : (a b : Named) → same_named a b ≡ true → a ≡ b
named_is a b e = let p = and_parts (bytes_eq a.0 b.0) _ e in let name = (bytes_eq-Decides a.0 b.0).0 p.0 in let value = value_is a.1 b.1 p.1 in λ i. (name i, value i)

list_is : (xs ys : List Named) → same_list same_named xs ys ≡ true → xs ≡ ys
list_is [] [] e = refl
list_is [] (y ∷ ys) e = cc
list_is (x ∷ xs) [] e = cc
list_is (x ∷ xs) (y ∷ ys) e = let p = and_parts (same_named x y) _ e in ap₂ (λ a more. a ∷ more) (named_is x y p.0) (list_is xs ys p.1)

part_self : (p : Part) → same_part p p ≡ true
part_self (clear s) = (bytes_eq-Decides s s).1 refl
part_self (hole_part n) = (Decides-eqb n n).1 refl

value_self : (o : Option Part) → same_option same_part o o ≡ true
value_self None = refl
value_self (Some p) = part_self p

list_self : (xs : List Named) → same_list same_named xs xs ≡ true
list_self [] = refl
list_self (x ∷ xs) = and_from (same_named x x) _ (and_from (bytes_eq x.0 x.0) _ ((bytes_eq-Decides x.0 x.0).1 refl) (value_self x.1)) (list_self xs)

none_pass : {X : Type 0} (test : X → Bool) (xs : List X) → ((x : X) → test x ≡ false) → filter test xs ≡ []
none_pass test [] e = refl
none_pass test (x ∷ xs) e = ap₂ (λ b r. if b then x ∷ r else r) (e x) (none_pass test xs e)

changed_self : (address : List ℕ → Address) (order : LinePart) (xs : List Named) → named_changed address order xs xs ≡ []
changed_self address order xs =
    ap₂ (λ names b. map address names ++ unless b (line order)) (none_pass (λ x. not (same_list same_named (of_name x xs) (of_name x xs))) (once_each [] (map (λ a. a.0) (xs ++ xs))) (λ x. ap not (list_self (of_name x xs)))) (list_self (others (names_changed xs xs) xs))

-- the same list has no difference
pub same_nothing : (address : List ℕ → Address) (order : LinePart) (xs ys : List Named) → same_list same_named xs ys ≡ true → named_changed address order xs ys ≡ []
same_nothing address order xs ys e = sym (ap (named_changed address order xs) (list_is xs ys e)) ∙ changed_self address order xs
