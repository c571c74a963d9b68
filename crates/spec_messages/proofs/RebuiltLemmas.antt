-- A message with holes has a fill exactly where there is no cause against it.
use Rattle.std.proofs.Common.{◌≡◌, ℕ, List, [], ◌∷◌, map, Bool, true, false, ◌&&◌, Option, Some, None, refl, ap, ap₂, if◌then◌else◌, arith}
use Rattle.std.proofs.lemmas.Bool.{and_parts, and_from}
use Rattle.std.specs.Prelude.{nat_le, nat_lt}
use Rattle.std.specs.List.{list_all}
use Rattle.spec_documents.specs.Tree.{Tree}
use Rattle.spec_documents.specs.Text.{is_segment, is_query_value, is_header_value}
use Rattle.spec_documents.specs.Hole.{value_at, is_words}
use Rattle.spec_messages.specs.Message.{Part, clear, hole_part, Head, request, response, Message, body_depth}
use Rattle.spec_messages.specs.Split.{fill_whole, has_text, has_value, head_has_texts, has_texts, filled}
use Rattle.spec_messages.specs.Fault.{first_of, when}
use Rattle.spec_messages.specs.Rebuilt.{FillFault, too_deep, lesser, least, misfit, value_misfit, segments_misfit, head_misfit, text_misfit, as_not_text, fill_fault}

-- ---- none is the least of none alone

lesser_none : (a b : Option ℕ) → lesser a b ≡ None → (a ≡ None) × (b ≡ None)
lesser_none None b e = (refl, e)
lesser_none (Some m) None e = cc
lesser_none (Some m) (Some n) e = cc

none_lesser : (a b : Option ℕ) → a ≡ None → b ≡ None → lesser a b ≡ None
none_lesser a b d e = ap₂ lesser d e

fits_none : (b : Bool) (n : ℕ) → (if b then None else Some n) ≡ None → b ≡ true
fits_none true n e = refl
fits_none false n e = cc

none_fits : (b : Bool) (n : ℕ) → b ≡ true → (if b then None else Some n) ≡ None
none_fits true n e = refl
none_fits false n e = cc

part_fits : (test : List ℕ → Bool) (vs : List Tree) (p : Part) → misfit test vs p ≡ None → has_text test vs p ≡ true
part_fits test vs (clear s) e = refl
part_fits test vs (hole_part n) e = fits_none (is_words test (value_at vs n)) n e

part_none : (test : List ℕ → Bool) (vs : List Tree) (p : Part) → has_text test vs p ≡ true → misfit test vs p ≡ None
part_none test vs (clear s) e = refl
part_none test vs (hole_part n) e = none_fits (is_words test (value_at vs n)) n e

value_fits : (vs : List Tree) (o : Option Part) → value_misfit vs o ≡ None → has_value vs o ≡ true
value_fits vs None e = refl
value_fits vs (Some p) e = part_fits is_query_value vs p e

value_none : (vs : List Tree) (o : Option Part) → has_value vs o ≡ true → value_misfit vs o ≡ None
value_none vs None e = refl
value_none vs (Some p) e = part_none is_query_value vs p e

all_fit : {X : Type 0} (f : X → Option ℕ) (test : X → Bool) → ((x : X) → f x ≡ None → test x ≡ true) → (xs : List X) → least (map f xs) ≡ None → list_all test xs ≡ true
all_fit f test h [] e = refl
all_fit f test h (x ∷ xs) e = let p = lesser_none (f x) (least (map f xs)) e in and_from (test x) _ (h x p.0) (all_fit f test h xs p.1)

none_of : {X : Type 0} (f : X → Option ℕ) (test : X → Bool) → ((x : X) → test x ≡ true → f x ≡ None) → (xs : List X) → list_all test xs ≡ true → least (map f xs) ≡ None
none_of f test h [] e = refl
none_of f test h (x ∷ xs) e = let p = and_parts (test x) _ e in none_lesser (f x) _ (h x p.0) (none_of f test h xs p.1)

head_fits : (vs : List Tree) (h : Head) → head_misfit vs h ≡ None → head_has_texts vs h ≡ true
head_fits vs (request l) e =
    let p = lesser_none (segments_misfit vs l.segments) _ e in
    and_from _ _ (all_fit (misfit is_segment vs) (has_text is_segment vs) (part_fits is_segment vs) l.segments p.0)
    (all_fit (λ p. value_misfit vs p.value) (λ p. has_value vs p.value) (λ p. value_fits vs p.value) l.query p.1)
head_fits vs (response s) e = refl

head_none : (vs : List Tree) (h : Head) → head_has_texts vs h ≡ true → head_misfit vs h ≡ None
head_none vs (request l) e =
    let p = and_parts (list_all (has_text is_segment vs) l.segments) _ e in
    none_lesser _ _ (none_of (misfit is_segment vs) (has_text is_segment vs) (part_none is_segment vs) l.segments p.0)
    (none_of (λ p. value_misfit vs p.value) (λ p. has_value vs p.value) (λ p. value_none vs p.value) l.query p.1)
head_none vs (response s) e = refl

pub texts_fit : (vs : List Tree) (m : Message) → text_misfit vs m ≡ None → has_texts vs m ≡ true
texts_fit vs m e =
    let p = lesser_none (head_misfit vs m.head) _ e in
    and_from _ _ (head_fits vs m.head p.0) (all_fit (λ h. misfit is_header_value vs h.value) (λ h. has_text is_header_value vs h.value) (λ h. part_fits is_header_value vs h.value) m.headers p.1)

pub fit_texts : (vs : List Tree) (m : Message) → has_texts vs m ≡ true → text_misfit vs m ≡ None
fit_texts vs m e =
    let p = and_parts (head_has_texts vs m.head) _ e in
    none_lesser _ _ (head_none vs m.head p.0) (none_of (λ h. misfit is_header_value vs h.value) (λ h. has_text is_header_value vs h.value) (λ h. part_none is_header_value vs h.value) m.headers p.1)

-- ---- the fill and its cause

when_low : {A : Type 0} (d : ℕ) (x : A) → when (nat_lt 64 d) x ≡ None → nat_le d 64 ≡ true
when_low d x e = by (nat_lt 64 d) refl e
  where
    by : (b : Bool) → nat_lt 64 d ≡ b → when b x ≡ None → nat_le d 64 ≡ true
    by true f e = cc
    by false f e = grind arith

high_when : {A : Type 0} (d : ℕ) (x : A) → nat_le d 64 ≡ true → when (nat_lt 64 d) x ≡ None
high_when d x e = by (nat_lt 64 d) refl
  where
    by : (b : Bool) → nat_lt 64 d ≡ b → when b x ≡ None
    by true f = absurd (grind arith)
    by false f = refl

first_none : {A : Type 0} (a b : Option A) → first_of a b ≡ None → (a ≡ None) × (b ≡ None)
first_none None b e = (refl, e)
first_none (Some x) b e = cc

not_text_none : (o : Option ℕ) → as_not_text o ≡ None → o ≡ None
not_text_none None e = refl
not_text_none (Some n) e = cc

pub faultless_filled : (vs : List Tree) (m : Message) → fill_fault vs m ≡ None → filled vs m ≡ Some (fill_whole vs m)
faultless_filled vs m e =
    let p = first_none (as_not_text (text_misfit vs m)) _ e in
    let texts = texts_fit vs m (not_text_none (text_misfit vs m) p.0) in
    let low = when_low (body_depth (fill_whole vs m).body) too_deep p.1 in
    ap (λ b. if b then Some (fill_whole vs m) else None) (and_from (has_texts vs m) _ texts low)

both_none : (a b : Bool) (m : Message) (f : Option FillFault) (why : FillFault) → (a ≡ true → b ≡ true → f ≡ None) → f ≡ Some why → (if a && b then Some m else None) ≡ None
both_none true true m f why h e = let none = h refl refl in cc
both_none true false m f why h e = refl
both_none false b m f why h e = refl

pub faulty_unfilled : (vs : List Tree) (m : Message) (why : FillFault) → fill_fault vs m ≡ Some why → filled vs m ≡ None
faulty_unfilled vs m why e =
    both_none (has_texts vs m) (nat_le (body_depth (fill_whole vs m).body) 64) (fill_whole vs m) (fill_fault vs m) why
    (λ t d. ap₂ first_of (ap as_not_text (fit_texts vs m t)) (high_when (body_depth (fill_whole vs m).body) too_deep d)) e
