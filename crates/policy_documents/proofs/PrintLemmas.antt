-- Texts and lists that are printed item by item.
use Rattle.std.proofs.Common.{◌≡◌, ℕ, List, [], ◌∷◌, ◌++◌, map, take, drop, ◌+◌, slice_get, Some, sym, ap, ◌∙◌, append_assoc}
use Rattle.std.proofs.lemmas.List.{map-append}
use Rattle.n32_values.proofs.Trees.{drop_at, take_at}
use Rattle.spec_documents.specs.Tree.{Tree}
use Rattle.spec_messages.specs.PolicyDocument.{pattern_text, template_text}
use Rattle.policy_documents.specs.View.{pattern_view}
use Rattle.policy_documents.specs.declared.policy.Pattern.{Pattern}

template_more : (ps : List Pattern) (i : ℕ) (p : Pattern) (out all : List ℕ) → slice_get ps i ≡ Some p → out ++ template_text (map pattern_view (drop i ps)) ≡ all
    → ((out ++ 47 ∷ []) ++ pattern_text (pattern_view p)) ++ template_text (map pattern_view (drop (i + 1) ps)) ≡ all
template_more ps i p out all is h = append_assoc (out ++ 47 ∷ []) (pattern_text (pattern_view p)) _ ∙ append_assoc out (47 ∷ []) _ ∙ (rw (drop_at ps i p is) at h)

-- a step of the loop that writes a template
pub template_step : (ps : List Pattern) (i : ℕ) (p : Pattern) (out mid new all : List ℕ) → slice_get ps i ≡ Some p → mid ≡ out ++ 47 ∷ [] → new ≡ mid ++ pattern_text (pattern_view p)
    → out ++ template_text (map pattern_view (drop i ps)) ≡ all → new ++ template_text (map pattern_view (drop (i + 1) ps)) ≡ all
template_step ps i p out mid new all is slash text h =
    ap (λ t. t ++ template_text (map pattern_view (drop (i + 1) ps))) (text ∙ ap (λ t. t ++ pattern_text (pattern_view p)) slash) ∙ template_more ps i p out all is h

-- a step of a loop that makes a list of nodes
pub nodes_step : {A B : Type 0} (f : B → Tree) (g : A → B) (xs : List A) (i : ℕ) (x : A) (list new : List Tree) (t : Tree) → slice_get xs i ≡ Some x → list ≡ map f (map g (take i xs)) → new ≡ list ++ t ∷ [] → t ≡ f (g x)
    → new ≡ map f (map g (take (i + 1) xs))
nodes_step f g xs i x list new t is h e n =
    e ∙ (λ j. h j ++ n j ∷ []) ∙ sym (ap (λ ys. map f (map g ys)) (take_at xs i x is) ∙ ap (map f) (map-append g (take i xs) (x ∷ [])) ∙ map-append f (map g (take i xs)) (g x ∷ []))
