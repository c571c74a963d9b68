-- Templates: what begins with no brace or slash, and names that come twice.
use Rattle.std.proofs.Common.{◌≡◌, ◌≢◌, ℕ, List, [], ◌∷◌, ◌++◌, map, drop, ◌+◌, slice_get, Some, None, Bool, true, false, not, ◌&&◌, ◌||◌, ◌==◌, refl, sym, ap, ◌∙◌}
use Rattle.std.specs.List.{list_any}
use Rattle.std.specs.Str.{bytes_eq}
use Rattle.std.proofs.lemmas.Bool.{eqb-true}
use Rattle.n32_values.proofs.Trees.{drop_at}
use Rattle.spec_documents.proofs.MarkLemmas.{any-append}
use Rattle.spec_messages.specs.PolicyDocument.{pattern_of, fixed_of, patterns_in, name_list, variable_names, are_distinct}
use Rattle.policy_documents.specs.View.{pattern_view}
use Rattle.policy_documents.specs.declared.policy.Pattern.{Pattern}
use Rattle.policy_documents.specs.declared.policy.Pattern.TheVariants.{Fixed, Variable}

no_brace_step : (t : Bool) (b : ℕ) (bs : List ℕ) → (b == 123) ≡ t → ((rest : List ℕ) → b ∷ bs ≢ 123 ∷ rest) → pattern_of (b ∷ bs) ≡ fixed_of (b ∷ bs)
no_brace_step true b bs e h = absurd (h bs (ap (λ x. x ∷ bs) (eqb-true b 123 e)))
no_brace_step false b bs e h = rw e refl

pub no_brace : (bs : List ℕ) → ((rest : List ℕ) → bs ≢ 123 ∷ rest) → pattern_of bs ≡ fixed_of bs
no_brace [] h = refl
no_brace (b ∷ bs) h = no_brace_step (b == 123) b bs refl h

no_slash_step : (t : Bool) (b : ℕ) (bs : List ℕ) → (b == 47) ≡ t → ((rest : List ℕ) → b ∷ bs ≢ 47 ∷ rest) → patterns_in (b ∷ bs) ≡ None
no_slash_step true b bs e h = absurd (h bs (ap (λ x. x ∷ bs) (eqb-true b 47 e)))
no_slash_step false b bs e h = rw e refl

pub no_slash : (bs : List ℕ) → ((rest : List ℕ) → bs ≢ 47 ∷ rest) → patterns_in bs ≡ None
no_slash [] h = refl
no_slash (b ∷ bs) h = no_slash_step (b == 47) b bs refl h

-- whether a name is among the variables from the pattern at i on
pub names_at : (ps : List Pattern) (i : ℕ) (p : Pattern) → slice_get ps i ≡ Some p → variable_names (map pattern_view (drop i ps)) ≡ name_list (pattern_view p) ++ variable_names (map pattern_view (drop (i + 1) ps))
names_at ps i p is = ap (λ qs. variable_names (map pattern_view qs)) (drop_at ps i p is)

pub named_here : (ps : List Pattern) (i : ℕ) (p : Pattern) (x : List ℕ) (all : Bool) → slice_get ps i ≡ Some p → list_any (bytes_eq x) (variable_names (map pattern_view (drop i ps))) ≡ all → list_any (bytes_eq x) (name_list (pattern_view p)) ≡ true → true ≡ all
named_here ps i p x all is h e =
    sym (ap (λ t. t || list_any (bytes_eq x) (variable_names (map pattern_view (drop (i + 1) ps)))) e) ∙ sym (any-append (bytes_eq x) (name_list (pattern_view p)) (variable_names (map pattern_view (drop (i + 1) ps)))) ∙ (rw (names_at ps i p is) at h)

pub named_later : (ps : List Pattern) (i : ℕ) (p : Pattern) (x : List ℕ) (all : Bool) → slice_get ps i ≡ Some p → list_any (bytes_eq x) (variable_names (map pattern_view (drop i ps))) ≡ all → list_any (bytes_eq x) (name_list (pattern_view p)) ≡ false
    → list_any (bytes_eq x) (variable_names (map pattern_view (drop (i + 1) ps))) ≡ all
named_later ps i p x all is h e =
    sym (ap (λ t. t || list_any (bytes_eq x) (variable_names (map pattern_view (drop (i + 1) ps)))) e) ∙ sym (any-append (bytes_eq x) (name_list (pattern_view p)) (variable_names (map pattern_view (drop (i + 1) ps)))) ∙ (rw (names_at ps i p is) at h)

-- a pattern that is no variable
pub distinct_fixed : (ps : List Pattern) (i : ℕ) (s : List ℕ) (all : Bool) → slice_get ps i ≡ Some (Fixed s) → are_distinct (variable_names (map pattern_view (drop i ps))) ≡ all → are_distinct (variable_names (map pattern_view (drop (i + 1) ps))) ≡ all
distinct_fixed ps i s all is h = rw (drop_at ps i (Fixed s) is) at h

pub distinct_more : (ps : List Pattern) (i : ℕ) (x : List ℕ) (all : Bool) → slice_get ps i ≡ Some (Variable x) → are_distinct (variable_names (map pattern_view (drop i ps))) ≡ all
    → list_any (bytes_eq x) (variable_names (map pattern_view (drop (i + 1) ps))) ≡ false → are_distinct (variable_names (map pattern_view (drop (i + 1) ps))) ≡ all
distinct_more ps i x all is h e = sym (ap (λ t. not t && are_distinct (variable_names (map pattern_view (drop (i + 1) ps)))) e) ∙ (rw (drop_at ps i (Variable x) is) at h)

pub distinct_twice : (ps : List Pattern) (i : ℕ) (x : List ℕ) (all : Bool) → slice_get ps i ≡ Some (Variable x) → are_distinct (variable_names (map pattern_view (drop i ps))) ≡ all
    → list_any (bytes_eq x) (variable_names (map pattern_view (drop (i + 1) ps))) ≡ true → false ≡ all
distinct_twice ps i x all is h e = sym (ap (λ t. not t && are_distinct (variable_names (map pattern_view (drop (i + 1) ps)))) e) ∙ (rw (drop_at ps i (Variable x) is) at h)
