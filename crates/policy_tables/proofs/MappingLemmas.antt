-- Templates and mappings, one by one.
use Rattle.std.proofs.Common.{◌≡◌, ◌≢◌, ℕ, suc, List, [], ◌∷◌, map, drop, ◌+◌, slice_get, length, Option, Some, Bool, true, false, ◌&&◌, refl, sym, ap, ◌∙◌, if◌then◌else◌, arith}
use Rattle.n32_values.proofs.Trees.{drop_at}
use Rattle.spec_messages.specs.Message as messages
use Rattle.spec_messages.specs.Policy as spec
use Rattle.http_message.specs.Reading.{part_view}
use Rattle.http_message.specs.declared.message.Part.{Part}
use Rattle.policy_documents.specs.View.{pattern_view}
use Rattle.policy_documents.specs.declared.policy.Pattern.{Pattern}

and-false : (b : Bool) → (b && false) ≡ false
and-false true = refl
and-false false = refl

pub lengths_differ : (ps : List Pattern) (ss : List Part) → length ps ≢ length ss → spec.fits_segments (map pattern_view ps) (map part_view ss) ≡ false
lengths_differ [] [] h = absurd (h refl)
lengths_differ [] (s ∷ ss) h = refl
lengths_differ (p ∷ ps) [] h = refl
lengths_differ (p ∷ ps) (s ∷ ss) h = ap (λ t. spec.fits_segment (pattern_view p) (part_view s) && t) (lengths_differ ps ss (λ e. h (ap suc e))) ∙ and-false (spec.fits_segment (pattern_view p) (part_view s))

pub fits_at : (ps : List Pattern) (ss : List Part) (i : ℕ) (p : Pattern) (s : Part) (all : Bool) → slice_get ps i ≡ Some p → slice_get ss i ≡ Some s
    → spec.fits_segments (map pattern_view (drop i ps)) (map part_view (drop i ss)) ≡ all → spec.fits_segment (pattern_view p) (part_view s) ≡ true
    → spec.fits_segments (map pattern_view (drop (i + 1) ps)) (map part_view (drop (i + 1) ss)) ≡ all
fits_at ps ss i p s all a b h e =
    sym (ap (λ t. t && spec.fits_segments (map pattern_view (drop (i + 1) ps)) (map part_view (drop (i + 1) ss))) e) ∙ (rw (drop_at ps i p a, drop_at ss i s b) at h)

pub fails_at : (ps : List Pattern) (ss : List Part) (i : ℕ) (p : Pattern) (s : Part) (all : Bool) → slice_get ps i ≡ Some p → slice_get ss i ≡ Some s
    → spec.fits_segments (map pattern_view (drop i ps)) (map part_view (drop i ss)) ≡ all → spec.fits_segment (pattern_view p) (part_view s) ≡ false → false ≡ all
fails_at ps ss i p s all a b h e =
    sym (ap (λ t. t && spec.fits_segments (map pattern_view (drop (i + 1) ps)) (map part_view (drop (i + 1) ss))) e) ∙ (rw (drop_at ps i p a, drop_at ss i s b) at h)

one_more : (n : ℕ) → suc n ≡ n + 1
one_more n = omega arith

-- the first mapping that fits, or one that doesn't
pub mapping_here : {A : Type 0} (view : A → spec.Mapping) (gs : List A) (i : ℕ) (g : A) (l : messages.Line) (all : Option ℕ) → slice_get gs i ≡ Some g → spec.mapping_from i (map view (drop i gs)) l ≡ all → spec.fits (view g) l ≡ true → Some i ≡ all
mapping_here view gs i g l all is h e = sym (ap (λ t. if t then Some i else spec.mapping_from (suc i) (map view (drop (i + 1) gs)) l) e) ∙ (rw (drop_at gs i g is) at h)

pub mapping_later : {A : Type 0} (view : A → spec.Mapping) (gs : List A) (i : ℕ) (g : A) (l : messages.Line) (all : Option ℕ) → slice_get gs i ≡ Some g → spec.mapping_from i (map view (drop i gs)) l ≡ all → spec.fits (view g) l ≡ false
    → spec.mapping_from (i + 1) (map view (drop (i + 1) gs)) l ≡ all
mapping_later view gs i g l all is h e =
    ap (λ n. spec.mapping_from n (map view (drop (i + 1) gs)) l) (sym (one_more i))
    ∙ sym (ap (λ t. if t then Some i else spec.mapping_from (suc i) (map view (drop (i + 1) gs)) l) e) ∙ (rw (drop_at gs i g is) at h)
