-- Holes, by their digits and by their one member.
use Rattle.std.proofs.Common.{◌≡◌, ◌≢◌, ℕ, ◌-◌, List, ◌++◌, take, drop, length, Bool, true, false, ◌&&◌, Option, Some, None, refl, sym, ap, ◌∙◌, codes, if◌then◌else◌, length-append, arith}
use Rattle.std.proofs.lemmas.Bool.{and_parts}
use Rattle.std.proofs.lemmas.List.{take_at}
use Rattle.std.proofs.lemmas.Slice.Eq.{bytes_eq-Decides}
use Rattle.std.specs.Prelude.{bytes_eq, nat_le}
use Rattle.std.specs.Ordering.{match_ordering}
use Rattle.std.specs.declared.cmp.Ordering.{Ordering}
use Rattle.std.specs.declared.cmp.Ordering.TheVariants.{Less, Equal, Greater}
use Rattle.spec_documents.specs.Tree.{Tree, Members, no_members, member, get_member, name_cmp}
use Rattle.spec_documents.specs.Fields.{field_list}
use Rattle.spec_documents.specs.Place.{is_index, index_number}
use Rattle.spec_documents.specs.Hole.{mark, natural, hole_members, hole_opening, text_hole}
use Rattle.doc_forms.specs.Capped.{digits_number, natural_at}

-- ---- texts

abbrev middle : List ℕ → List ℕ
middle s = take (length s - 16) (drop 15 s)

middle_is : (d : List ℕ) → middle (hole_opening ++ d ++ codes "}") ≡ d
middle_is d =
    let long : length (hole_opening ++ d ++ codes "}") - 16 ≡ length d = omega (arith, length-append d (codes "}")) in
    ap (λ (k : ℕ). take k (d ++ codes "}")) long ∙ take_at d (codes "}") (length d) refl

abbrev hole_by : List ℕ → List ℕ → Option ℕ
hole_by s digits = if (is_index digits && nat_le (length digits) 10) && bytes_eq s (hole_opening ++ digits ++ codes "}") then Some (index_number digits) else None

both_if : {X : Type 0} (a b : Bool) (x : X) → b ≡ true → (if a && b then Some x else None) ≡ (if a then Some x else None)
both_if true b x e = rw e refl
both_if false b x e = refl

pub hole_digits : (s d : List ℕ) → s ≡ hole_opening ++ d ++ codes "}" → text_hole s ≡ digits_number d
hole_digits s d e =
    ap text_hole e
    ∙ ap (hole_by (hole_opening ++ d ++ codes "}")) (middle_is d)
    ∙ both_if (is_index d && nat_le (length d) 10) (bytes_eq (hole_opening ++ d ++ codes "}") (hole_opening ++ d ++ codes "}")) (index_number d) ((bytes_eq-Decides (hole_opening ++ d ++ codes "}") (hole_opening ++ d ++ codes "}")).1 refl)

other_text : (s d : List ℕ) (t : Bool) → ((is_index d && nat_le (length d) 10) && bytes_eq s (hole_opening ++ d ++ codes "}")) ≡ t → s ≢ hole_opening ++ d ++ codes "}" → (if t then Some (index_number d) else None) ≡ None
other_text s d false e h = refl
other_text s d true e h = absurd (h ((bytes_eq-Decides s (hole_opening ++ d ++ codes "}")).0 (and_parts _ _ e).1))

pub not_hole : (s : List ℕ) → ((d : List ℕ) → s ≢ hole_opening ++ d ++ codes "}") → text_hole s ≡ None
not_hole s h = other_text s (middle s) _ refl (h (middle s))

-- ---- objects

pub other_count : (ms : Members) → (length (field_list ms) ≡ 1 → ⊥) → hole_members ms ≡ None
other_count no_members h = refl
other_count (member k u no_members) h = absurd (h refl)
other_count (member k u (member l w ms)) h = refl

by_order : (o : Ordering) (u : Tree) → natural_at (match_ordering o None (Some u) None) ≡ match_ordering o None (natural u) None
by_order Less u = refl
by_order Equal u = refl
by_order Greater u = refl

pub one_member : (ms : Members) → length (field_list ms) ≡ 1 → hole_members ms ≡ natural_at (get_member mark ms)
one_member no_members h = cc
one_member (member k u no_members) h = sym (by_order (name_cmp mark k) u)
one_member (member k u (member l w ms)) h = absurd (omega arith)
