-- What an object tells intermediaries.
use Rattle.std.proofs.Common.{◌≡◌, ℕ, List, [], ◌∷◌, Option, Some, None, Bool, true, false, ◌&&◌, unwrap_or, is_some, if◌then◌else◌, refl, sym, ap, ◌∙◌, Ordering}
use Rattle.std.specs.declared.cmp.Ordering.TheVariants.{Less, Equal, Greater}
use Rattle.std.specs.Ordering.{match_ordering, is_eq}
use Rattle.std.specs.List.{list_all}
use Rattle.std.specs.Str.{bytes_eq}
use Rattle.std.proofs.lemmas.Map.Text.{is_eq-slice_cmp}
use Rattle.spec_documents.specs.Tree.{Tree, null, truth, whole, words, items, members, Members, no_members, member, get_member, name_cmp}
use Rattle.spec_documents.specs.Fields.{Field, field_list}
use Rattle.spec_documents.specs.Text.{is_identity}
use Rattle.spec_messages.specs.Message.{all_read, onto_read}
use Rattle.spec_messages.specs.Policy.{answer_for}
use Rattle.spec_messages.specs.PolicyDocument.{truth_of, told, grant_of, grants_of, grants_tree}
use Rattle.spec_messages.proofs.PolicyBack.{grants_written}
use Rattle.policy_documents.specs.Granted.{grants_in, truth_in}

onto_some : {B : Type 0} (o : Option B) (r : Option (List B)) → (is_some o && is_some r) ≡ is_some (onto_read o r)
onto_some None r = refl
onto_some (Some y) None = refl
onto_some (Some y) (Some ys) = refl

-- each is read exactly where all are
pub all_given : (es : List Field) → list_all (λ e. is_some (grant_of e)) es ≡ is_some (all_read grant_of es)
all_given [] = refl
all_given (e ∷ es) = ap (λ t. is_some (grant_of e) && t) (all_given es) ∙ onto_some (grant_of e) (all_read grant_of es)

pub none_given : (t : Tree) → is_some (grants_of t) ≡ false → None ≡ grants_of t
none_given t h = none_by (grants_of t) h
  where
    none_by : {A : Type 0} (o : Option A) → is_some o ≡ false → None ≡ o
    none_by None h = refl
    none_by (Some x) h = cc

some_by : (o : Option (List (List ℕ × Bool))) → is_some o ≡ true → o ≡ Some (unwrap_or o [])
some_by None h = cc
some_by (Some x) h = refl

-- ---- a look-up by name

told_truth : (k : List ℕ) (t : Tree) (g : List ℕ × Bool) → told k (truth_of t) ≡ Some g → (g.0 ≡ k) × (truth_of t ≡ Some g.1)
told_truth k null g e = cc
told_truth k (truth b) g e = told_by k b g (is_identity k) e
  where
    told_by : (k : List ℕ) (b : Bool) (g : List ℕ × Bool) (t : Bool) → (if t then Some (k, b) else None) ≡ Some g → (g.0 ≡ k) × (Some b ≡ Some g.1)
    told_by k b g true e = let same : ◌≡◌ {A = List ℕ × Bool} (k, b) g = cc in (ap (λ x. x.0) (sym same), ap (λ x. Some x.1) same)
    told_by k b g false e = cc
told_truth k (whole z) g e = cc
told_truth k (words s) g e = cc
told_truth k (items ts) g e = cc
told_truth k (members ms) g e = cc

onto_parts : {B : Type 0} (o : Option B) (r : Option (List B)) (ys : List B) → onto_read o r ≡ Some ys → (y : B) × (zs : List B) × (o ≡ Some y) × (r ≡ Some zs) × (y ∷ zs ≡ ys)
onto_parts None r ys e = cc
onto_parts (Some y) None ys e = cc
onto_parts (Some y) (Some zs) ys e = let same : y ∷ zs ≡ ys = cc in (y, zs, refl, refl, same)

found_step : (o : Ordering) (t : Bool) (u : Tree) (b : Bool) (r : Option Tree) (rest : Option Bool) → is_eq o ≡ t → truth_of u ≡ Some b → rest ≡ truth_in r → (if t then Some b else rest) ≡ truth_in (match_ordering o r (Some u) r)
found_step Less true u b r rest e h i = cc
found_step Less false u b r rest e h i = i
found_step Equal true u b r rest e h i = sym h
found_step Equal false u b r rest e h i = cc
found_step Greater true u b r rest e h i = cc
found_step Greater false u b r rest e h i = i

answer_by : (k : List ℕ) (ms : Members) (gs : List (List ℕ × Bool)) → all_read grant_of (field_list ms) ≡ Some gs → answer_for k gs ≡ truth_in (get_member k ms)
answer_by k no_members gs e = let same : [] ≡ gs = cc in ap (answer_for k) (sym same)
answer_by k (member l u ms) gs e =
    let h = onto_parts (grant_of (l, u)) (all_read grant_of (field_list ms)) gs e in
    let t = told_truth l u h.0 h.2 in
    ap (answer_for k) (sym h.4)
    ∙ ap (λ x. if bytes_eq k x then Some h.0.1 else answer_for k h.1) t.0
    ∙ found_step (name_cmp k l) (bytes_eq k l) u h.0.1 (get_member k ms) (answer_for k h.1) (is_eq-slice_cmp k l) t.1 (answer_by k ms h.1 h.3)

-- what the object tells is the truth value at the name
pub answer_at : (k : List ℕ) (t : Tree) (ms : Members) (gs : List (List ℕ × Bool)) → t ≡ members ms → grants_of t ≡ Some (grants_in t) → grants_in t ≡ gs → truth_in (get_member k ms) ≡ answer_for k gs
answer_at k t ms gs is h e = sym (answer_by k ms gs (ap grants_of (sym is) ∙ h ∙ ap Some e))

pub written : (t : Tree) → grants_of t ≡ Some (grants_in t) → t ≡ grants_tree (grants_in t)
written t h = sym (grants_written t (grants_in t) h)

pub same_written : (t u : Tree) → grants_of t ≡ Some (grants_in t) → grants_of u ≡ Some (grants_in u) → grants_in t ≡ grants_in u → t ≡ u
same_written t u h g e = written t h ∙ ap grants_tree e ∙ sym (written u g)
