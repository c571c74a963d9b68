-- What is printed of a policy that was read is read to it again.
use Rattle.std.proofs.Common.{not, codes, ◌≤◌, nat_le, ◌≡◌, ℕ, suc, List, [], ◌∷◌, ◌++◌, Bool, true, false, ◌&&◌, ◌||◌, ◌==◌, Option, Some, None, option_map, Result, Ok, refl, sym, ap, ◌∙◌, subst, length, nat_lt, if◌then◌else◌, map, filter, append-nil, is_ok}
use Rattle.std.specs.List.{list_all, list_any}
use Rattle.std.specs.Str.{bytes_eq}
use Rattle.std.proofs.lemmas.Bool.{and_from, and_parts, eqb-true, leb-true}
use Rattle.std.proofs.lemmas.List.{length-map}
use Rattle.std.proofs.lemmas.Slice.Eq.{bytes_eq-Decides}
use Rattle.spec_documents.specs.Tree.{Tree, null, truth, whole, words, items, members, get_member, items_in}
use Rattle.spec_documents.specs.Place.{◌>>=◌, read_pointer}
use Rattle.spec_documents.specs.Fields.{Field, fields, field_list}
use Rattle.spec_documents.specs.Text.{is_uri_byte, is_segment, is_query_name, is_header_name, is_method, lower, pieces, cut_at, is_identity}
use Rattle.spec_documents.proofs.TreeLemmas.{bind_ok}
use Rattle.spec_documents.proofs.FieldLemmas.{list-trees, fields-field_list}
use Rattle.spec_documents.proofs.HeadLemmas.{avoids, avoids_by, pieces_more, pieces_one, cut_there}
use Rattle.spec_messages.specs.Message.{wanted, text_at, text_in, all_read, onto_read, any_text}
use Rattle.spec_messages.specs.Policy.{Location, uri_param, header, body, multipart_binary, Sort, ueid, location, key_material, authentication_material, authorization_token, other, nonsensitive, Element, Pattern, fixed, variable, Mapping, Policy, same_sort}
use Rattle.spec_messages.specs.PolicyDocument.{location_text, location_of, sort_text, all_sorts, sort_of, is_name_byte, is_variable_name, braced, fixed_of, pattern_of, variable_names, are_distinct, if_distinct, patterns_in, without_root, template_of, chosen, if_there, if_passes, name_of, name_in, truth_of, told, grant_of, grants_of, Target, element_of, each_read, mapping_of, mappings_from, most_mappings, if_few, in_order, listed_sorts, sorts_of, sorts_in, policy_of, pattern_text, template_text, grants_tree, element_tree, list_of, mapping_tree, sort_tree, ReadsBack}
use Rattle.spec_messages.proofs.PieceLemmas.{cut_pieces, pieces_after}
use Rattle.spec_messages.proofs.WholeRead.{lower_passes}

-- ---- small steps

wanted_ok : {A : Type 0} (o : Option A) (k : ℕ) (x : A) → wanted o k ≡ Ok x → o ≡ Some x
wanted_ok None k x e = cc
wanted_ok (Some y) k x e = let same : y ≡ x = cc in ap Some same

picked : {A : Type 0} (t : Bool) (x y : A) → (if t then Some x else None) ≡ Some y → (t ≡ true) × (x ≡ y)
picked true x y e = let same : x ≡ y = cc in (refl, same)
picked false x y e = cc

mapped : {A B : Type 0} (f : A → B) (o : Option A) (y : B) → option_map f o ≡ Some y → (x : A) × (o ≡ Some x) × (f x ≡ y)
mapped f None y e = cc
mapped f (Some x) y e = let same : f x ≡ y = cc in (x, refl, same)

onto_parts : {B : Type 0} (o : Option B) (r : Option (List B)) (ys : List B) → onto_read o r ≡ Some ys → (y : B) × (zs : List B) × (o ≡ Some y) × (r ≡ Some zs) × (y ∷ zs ≡ ys)
onto_parts None r ys e = cc
onto_parts (Some y) None ys e = cc
onto_parts (Some y) (Some zs) ys e = let same : y ∷ zs ≡ ys = cc in (y, zs, refl, refl, same)

-- ---- words

pub location_back : (l : Location) → location_of (location_text l) ≡ Some l
location_back uri_param = refl
location_back header = refl
location_back body = refl
location_back multipart_binary = refl

pub sort_back : (s : Sort) → sort_of (sort_text s) ≡ Some s
sort_back ueid = refl
sort_back location = refl
sort_back key_material = refl
sort_back authentication_material = refl
sort_back authorization_token = refl
sort_back other = refl
sort_back nonsensitive = refl

-- ---- templates

-- what is read as a pattern
abbrev Fits : Pattern → Type 0
Fits (fixed s) = is_segment s ≡ true
Fits (variable x) = is_variable_name x ≡ true

fixed_fits : (s : List ℕ) (p : Pattern) → fixed_of s ≡ Some p → Fits p
fixed_fits s p e = let h = picked (is_segment s) (fixed s) p e in subst Fits h.1 h.0

braced_fits : (cut : List ℕ × Option (List ℕ)) (p : Pattern) → braced cut ≡ Some p → Fits p
braced_fits (name, None) p e = cc
braced_fits (name, Some end) p e =
    let h = picked ((length end == 0) && is_variable_name name) (variable name) p e in
    subst Fits h.1 (and_parts (length end == 0) (is_variable_name name) h.0).1

pattern_by : (t : Bool) (b : ℕ) (bs : List ℕ) (p : Pattern) → (if t then braced (cut_at 125 bs) else fixed_of (b ∷ bs)) ≡ Some p → Fits p
pattern_by true b bs p e = braced_fits (cut_at 125 bs) p e
pattern_by false b bs p e = fixed_fits (b ∷ bs) p e

pattern_fits : (s : List ℕ) (p : Pattern) → pattern_of s ≡ Some p → Fits p
pattern_fits [] p e = fixed_fits [] p e
pattern_fits (b ∷ bs) p e = pattern_by (b == 123) b bs p e

fixed_step : (t : Bool) (b : ℕ) (bs : List ℕ) → (b == 123) ≡ t → is_segment (b ∷ bs) ≡ true → (if t then braced (cut_at 125 bs) else fixed_of (b ∷ bs)) ≡ Some (fixed (b ∷ bs))
fixed_step true b bs e h =
    let is : b ≡ 123 = eqb-true b 123 e in
    let no : is_uri_byte b ≡ true = (and_parts (is_uri_byte b) (is_segment bs) h).0 in
    let never : false ≡ true = ap is_uri_byte (sym is) ∙ no in
    cc
fixed_step false b bs e h = ap (λ t. if t then Some (fixed (b ∷ bs)) else None) h

pattern_back : (p : Pattern) → Fits p → pattern_of (pattern_text p) ≡ Some p
pattern_back (fixed []) h = refl
pattern_back (fixed (b ∷ bs)) h = fixed_step (b == 123) b bs refl h
pattern_back (variable x) h =
    let bytes : list_all is_name_byte x ≡ true = (and_parts (nat_lt 0 (length x)) (list_all is_name_byte x) h).1 in
    ap braced (cut_there 125 x [] (avoids_by is_name_byte 125 refl x bytes)) ∙ ap (λ t. if t then Some (variable x) else None) h

all-append : (f : ℕ → Bool) (xs ys : List ℕ) → list_all f xs ≡ true → list_all f ys ≡ true → list_all f (xs ++ ys) ≡ true
all-append f [] ys a b = b
all-append f (x ∷ xs) ys a b = let p = and_parts (f x) (list_all f xs) a in and_from _ _ p.0 (all-append f xs ys p.1 b)

no_slash : (p : Pattern) → Fits p → avoids 47 (pattern_text p) ≡ true
no_slash (fixed s) h = avoids_by is_uri_byte 47 refl s h
no_slash (variable x) h =
    let bytes : list_all is_name_byte x ≡ true = (and_parts (nat_lt 0 (length x)) (list_all is_name_byte x) h).1 in
    all-append (λ b. not (b == 47)) x (125 ∷ []) (avoids_by is_name_byte 47 refl x bytes) refl

abbrev AllFit : List Pattern → Type 0
AllFit [] = Unit {0}
AllFit (p ∷ ps) = Fits p × AllFit ps

all_fit : (xs : List (List ℕ)) (ps : List Pattern) → all_read pattern_of xs ≡ Some ps → AllFit ps
all_fit [] ps e = let same : [] ≡ ps = cc in subst AllFit same tt
all_fit (x ∷ xs) ps e = let h = onto_parts (pattern_of x) (all_read pattern_of xs) ps e in subst AllFit h.4 (pattern_fits x h.0 h.2, all_fit xs h.1 h.3)

pieces_back : (p : Pattern) (ps : List Pattern) → AllFit (p ∷ ps) → all_read pattern_of (pieces 47 (pattern_text p ++ template_text ps)) ≡ Some (p ∷ ps)
pieces_back p [] h =
    ap (λ s. all_read pattern_of (pieces 47 s)) (append-nil (pattern_text p)) ∙ ap (all_read pattern_of) (pieces_one 47 (pattern_text p) (no_slash p h.0))
    ∙ ap (λ o. onto_read o (Some [])) (pattern_back p h.0)
pieces_back p (q ∷ ps) h =
    ap (all_read pattern_of) (pieces_more 47 (pattern_text p) (pattern_text q ++ template_text ps) (no_slash p h.0))
    ∙ ap (λ o. onto_read o (all_read pattern_of (pieces 47 (pattern_text q ++ template_text ps)))) (pattern_back p h.0)
    ∙ ap (onto_read (Some p)) (pieces_back q ps h.1)

-- a path has a segment
first_of : (f : List ℕ → Option Pattern) (cut : List ℕ × Option (List ℕ)) (ps : List Pattern) → all_read f (pieces_after 47 cut) ≡ Some ps → (q : Pattern) × (qs : List Pattern) × (ps ≡ q ∷ qs)
first_of f (front, None) ps e = let h = onto_parts (f front) (Some []) ps e in (h.0, h.1, sym h.4)
first_of f (front, Some rest) ps e = let h = onto_parts (f front) (all_read f (pieces 47 rest)) ps e in (h.0, h.1, sym h.4)

patterns_back : (ps : List Pattern) (q : Pattern) (qs : List Pattern) → AllFit ps → ps ≡ q ∷ qs → patterns_in (template_text ps) ≡ Some ps
patterns_back [] q qs h e = cc
patterns_back (p ∷ ps) q qs h e = pieces_back p ps h

patterns_step : (t : Bool) (bs : List ℕ) (ps : List Pattern) → (if t then all_read pattern_of (pieces 47 bs) else None) ≡ Some ps → patterns_in (template_text ps) ≡ Some ps
patterns_step true bs ps e =
    let h = first_of pattern_of (cut_at 47 bs) ps (ap (all_read pattern_of) (sym (cut_pieces 47 bs)) ∙ e) in
    patterns_back ps h.0 h.1 (all_fit (pieces 47 bs) ps e) h.2
patterns_step false bs ps e = cc

patterns_again : (s : List ℕ) (ps : List Pattern) → patterns_in s ≡ Some ps → patterns_in (template_text ps) ≡ Some ps
patterns_again [] ps e = cc
patterns_again (b ∷ bs) ps e = patterns_step (b == 47) bs ps e

rooted : (ps : List Pattern) → without_root (template_text ps) ≡ template_text ps
rooted [] = refl
rooted (p ∷ ps) = refl

distinct_by : (o : Option (List Pattern)) (ps : List Pattern) → if_distinct o ≡ Some ps → (o ≡ Some ps) × (are_distinct (variable_names ps) ≡ true)
distinct_by None ps e = cc
distinct_by (Some qs) ps e =
    let h = picked (are_distinct (variable_names qs)) qs ps e in
    (ap Some h.1, subst (λ xs. are_distinct (variable_names xs) ≡ true) h.1 h.0)

template_back : (s : List ℕ) (ps : List Pattern) → template_of s ≡ Some ps → template_of (template_text ps) ≡ Some ps
template_back s ps e =
    let h = distinct_by (patterns_in (without_root s)) ps e in
    ap (λ r. if_distinct (patterns_in r)) (rooted ps) ∙ ap if_distinct (patterns_again (without_root s) ps h.0) ∙ ap (λ t. if t then Some ps else None) h.1

chosen_words : {A : Type 0} (f : List ℕ → Option A) (o : Option Tree) (x : A) → chosen f o ≡ Some x → (s : List ℕ) × (f s ≡ Some x)
chosen_words f None x e = cc
chosen_words f (Some null) x e = cc
chosen_words f (Some (truth b)) x e = cc
chosen_words f (Some (whole z)) x e = cc
chosen_words f (Some (words s)) x e = (s, e)
chosen_words f (Some (items ts)) x e = cc
chosen_words f (Some (members ms)) x e = cc

-- ---- names

passes_back : (test : List ℕ → Bool) (s r : List ℕ) → if_passes test s ≡ Some r → if_passes test r ≡ Some r
passes_back test s r e = let h = picked (test s) s r e in subst (λ x. if_passes test x ≡ Some x) h.1 (ap (λ t. if t then Some s else None) h.0)

header_back : (s r : List ℕ) → option_map lower (if_passes is_header_name s) ≡ Some r → option_map lower (if_passes is_header_name r) ≡ Some r
header_back s r e =
    let m = mapped lower (if_passes is_header_name s) r e in
    let h = picked (is_header_name s) s m.0 m.1 in
    let low = and_parts (is_header_name (lower s)) (bytes_eq (lower (lower s)) (lower s)) (lower_passes s h.0) in
    let same : lower (lower s) ≡ lower s = (bytes_eq-Decides (lower (lower s)) (lower s)).0 low.1 in
    subst (λ x. option_map lower (if_passes is_header_name x) ≡ Some x) (ap lower h.1 ∙ m.2)
    (ap (λ t. option_map lower (if t then Some (lower s) else None)) low.0 ∙ ap Some same)

name_back : (l : Location) (s r : List ℕ) → name_of l s ≡ Some r → name_of l r ≡ Some r
name_back uri_param s r e = passes_back is_query_name s r e
name_back header s r e = header_back s r e
name_back body s r e = passes_back (λ x. is_ok (read_pointer x)) s r e
name_back multipart_binary s r e = passes_back any_text s r e

there_by : {A : Type 0} (f : Tree → Option A) (t : Tree) (x : Option A) → option_map Some (f t) ≡ Some x → (y : A) × (f t ≡ Some y) × (x ≡ Some y)
there_by f t x e = let m = mapped Some (f t) x e in (m.0, m.1, sym m.2)

name_in_back : (l : Location) (o : Option Tree) (x : Option (List ℕ)) → name_in l o ≡ Some x → name_in l (option_map words x) ≡ Some x
name_in_back l None x e = let same : None ≡ x = cc in subst (λ y. name_in l (option_map words y) ≡ Some y) same refl
name_in_back l (Some t) x e =
    let h = there_by (λ u. chosen (name_of l) (Some u)) t x e in
    let s = chosen_words (name_of l) (Some t) h.0 h.1 in
    subst (λ y. name_in l (option_map words y) ≡ Some y) (sym h.2) (ap (option_map Some) (name_back l s.0 h.0 s.1))

-- ---- truth values and grants

truth_back : (o : Option Tree) (x : Option Bool) → if_there truth_of o ≡ Some x → if_there truth_of (option_map truth x) ≡ Some x
truth_back o None e = refl
truth_back o (Some b) e = refl

told_by : (ipx : List ℕ) (t : Tree) (g : List ℕ × Bool) → told ipx (truth_of t) ≡ Some g → (g.0 ≡ ipx) × (truth g.1 ≡ t)
told_by ipx null g e = cc
told_by ipx (truth b) g e = let h = picked (is_identity ipx) (ipx, b) g e in (ap (λ x. x.0) (sym h.1), ap (λ x. truth x.1) (sym h.1))
told_by ipx (whole z) g e = cc
told_by ipx (words s) g e = cc
told_by ipx (items ts) g e = cc
told_by ipx (members ms) g e = cc

grants_fields : (es : List Field) (gs : List (List ℕ × Bool)) → all_read grant_of es ≡ Some gs → map (λ g. (g.0, truth g.1)) gs ≡ es
grants_fields [] gs e = let same : [] ≡ gs = cc in ap (map (λ g. (g.0, truth g.1))) (sym same)
grants_fields (x ∷ es) gs e =
    let h = onto_parts (grant_of x) (all_read grant_of es) gs e in
    let t = told_by x.0 x.1 h.0 h.2 in
    let rest = grants_fields es h.1 h.3 in
    ap (map (λ g. (g.0, truth g.1))) (sym h.4) ∙ (λ i. (t.0 i, t.1 i) ∷ rest i)

-- a node that tells is the document of what it tells
pub grants_written : (t : Tree) (gs : List (List ℕ × Bool)) → grants_of t ≡ Some gs → grants_tree gs ≡ t
grants_written null gs e = cc
grants_written (truth b) gs e = cc
grants_written (whole z) gs e = cc
grants_written (words s) gs e = cc
grants_written (items ts) gs e = cc
grants_written (members ms) gs e = ap (λ es. members (fields es)) (grants_fields (field_list ms) gs e) ∙ ap members (fields-field_list ms)

grants_back : (o : Option Tree) (x : Option (List (List ℕ × Bool))) → if_there grants_of o ≡ Some x → if_there grants_of (option_map grants_tree x) ≡ Some x
grants_back None x e = let same : None ≡ x = cc in subst (λ y. if_there grants_of (option_map grants_tree y) ≡ Some y) same refl
grants_back (Some t) x e =
    let h = there_by grants_of t x e in
    subst (λ y. if_there grants_of (option_map grants_tree y) ≡ Some y) (sym h.2) (ap (option_map Some) (ap grants_of (grants_written t h.0 h.1) ∙ h.1))

-- ---- elements

abbrev targeted : ℕ → Location → Option Tree → Option Tree → Result Target ℕ
targeted k l oq or = wanted (name_in l oq) k >>= λ q. wanted (name_in l or) k >>= λ r. Ok (record { place = l; in_request = q; in_response = r })

-- the chain of an element over the members that it looks up
abbrev chain : ℕ → Option Tree → Option Tree → Option Tree → Option Tree → Option Tree → Option Tree → Result Element ℕ
chain k ol os oq or om og =
    wanted (chosen location_of ol) k >>= λ l.
    wanted (chosen sort_of os) k >>= λ s.
    targeted k l oq or >>= λ t.
    wanted (if_there truth_of om) k >>= λ m.
    wanted (if_there grants_of og) k >>= λ g.
    Ok (record { place = t.place; sort = s; in_request = t.in_request; in_response = t.in_response; modifiable = m; by_ipx = g })

-- what the members of a printed element are
abbrev printed : ℕ → Element → Result Element ℕ
printed k e = chain k (Some (words (location_text e.place))) (Some (words (sort_text e.sort))) (option_map words e.in_request) (option_map words e.in_response) (option_map truth e.modifiable) (option_map grants_tree e.by_ipx)

element_looks : (k : ℕ) (l : Location) (s : Sort) (q r : Option (List ℕ)) (m : Option Bool) (g : Option (List (List ℕ × Bool)))
    → element_of k (element_tree (record { place = l; sort = s; in_request = q; in_response = r; modifiable = m; by_ipx = g }))
    ≡ printed k (record { place = l; sort = s; in_request = q; in_response = r; modifiable = m; by_ipx = g })
element_looks k l s None None None None = refl
element_looks k l s None None None (Some g) = refl
element_looks k l s None None (Some m) None = refl
element_looks k l s None None (Some m) (Some g) = refl
element_looks k l s None (Some r) None None = refl
element_looks k l s None (Some r) None (Some g) = refl
element_looks k l s None (Some r) (Some m) None = refl
element_looks k l s None (Some r) (Some m) (Some g) = refl
element_looks k l s (Some q) None None None = refl
element_looks k l s (Some q) None None (Some g) = refl
element_looks k l s (Some q) None (Some m) None = refl
element_looks k l s (Some q) None (Some m) (Some g) = refl
element_looks k l s (Some q) (Some r) None None = refl
element_looks k l s (Some q) (Some r) None (Some g) = refl
element_looks k l s (Some q) (Some r) (Some m) None = refl
element_looks k l s (Some q) (Some r) (Some m) (Some g) = refl

-- the chain of what was read once more
chain_back : (k : ℕ) (e : Element) → name_in e.place (option_map words e.in_request) ≡ Some e.in_request → name_in e.place (option_map words e.in_response) ≡ Some e.in_response
    → if_there truth_of (option_map truth e.modifiable) ≡ Some e.modifiable → if_there grants_of (option_map grants_tree e.by_ipx) ≡ Some e.by_ipx → printed k e ≡ Ok e
chain_back k e a b c d = rw (location_back e.place, sort_back e.sort, a, b, c, d) refl

chain_reads : (k j : ℕ) (ol os oq or om og : Option Tree) (e : Element) → chain k ol os oq or om og ≡ Ok e → printed j e ≡ Ok e
chain_reads k j ol os oq or om og e h =
    let a = bind_ok (wanted (chosen location_of ol) k) _ e h in
    let b = bind_ok (wanted (chosen sort_of os) k) _ e a.2 in
    let t = bind_ok (targeted k a.0 oq or) _ e b.2 in
    let q = bind_ok (wanted (name_in a.0 oq) k) _ t.0 t.1 in
    let r = bind_ok (wanted (name_in a.0 or) k) _ t.0 q.2 in
    let m = bind_ok (wanted (if_there truth_of om) k) _ e t.2 in
    let g = bind_ok (wanted (if_there grants_of og) k) _ e m.2 in
    let target : record { place = a.0; in_request = q.0; in_response = r.0 } ≡ t.0 = cc in
    let same : record { place = t.0.place; sort = b.0; in_request = t.0.in_request; in_response = t.0.in_response; modifiable = m.0; by_ipx = g.0 } ≡ e = cc in
    let whole_one : record { place = a.0; sort = b.0; in_request = q.0; in_response = r.0; modifiable = m.0; by_ipx = g.0 } ≡ e =
    ap (λ (x : Target). record { place = x.place; sort = b.0; in_request = x.in_request; in_response = x.in_response; modifiable = m.0; by_ipx = g.0 }) target ∙ same in
    subst (λ x. printed j x ≡ Ok x) whole_one
    (chain_back j (record { place = a.0; sort = b.0; in_request = q.0; in_response = r.0; modifiable = m.0; by_ipx = g.0 })
    (name_in_back a.0 oq q.0 (wanted_ok _ k q.0 q.1)) (name_in_back a.0 or r.0 (wanted_ok _ k r.0 r.1))
    (truth_back om m.0 (wanted_ok _ k m.0 m.1)) (grants_back og g.0 (wanted_ok _ k g.0 g.1)))

element_back : (k j : ℕ) (t : Tree) (e : Element) → element_of k t ≡ Ok e → element_of j (element_tree e) ≡ Ok e
element_back k j null e h = cc
element_back k j (truth b) e h = cc
element_back k j (whole z) e h = cc
element_back k j (words s) e h = cc
element_back k j (items ts) e h = cc
element_back k j (members ms) e h =
    element_looks j e.place e.sort e.in_request e.in_response e.modifiable e.by_ipx
    ∙ chain_reads k j (get_member (codes "ieLoc") ms) (get_member (codes "ieType") ms) (get_member (codes "reqIe") ms) (get_member (codes "rspIe") ms) (get_member (codes "isModifiable") ms) (get_member (codes "isModifiableByIpx") ms) e h

-- ---- lists

each_back : {A : Type 0} (f : Tree → Result A ℕ) (g : Tree → Result A ℕ) (print : A → Tree) → ((t : Tree) (x : A) → f t ≡ Ok x → g (print x) ≡ Ok x) → (ts : List Tree) (xs : List A) → each_read f ts ≡ Ok xs → each_read g (map print xs) ≡ Ok xs
each_back f g print back [] xs e = let same : [] ≡ xs = cc in subst (λ ys. each_read g (map print ys) ≡ Ok ys) same refl
each_back f g print back (t ∷ ts) xs e =
    let a = bind_ok (f t) _ xs e in
    let b = bind_ok (each_read f ts) _ xs a.2 in
    let same : a.0 ∷ b.0 ≡ xs = cc in
    let here = back t a.0 a.1 in
    let rest = each_back f g print back ts b.0 b.1 in
    subst (λ ys. each_read g (map print ys) ≡ Ok ys) same (rw (here, rest) refl)

-- ---- mappings

text_by : (test : List ℕ → Bool) (o : Option Tree) (s : List ℕ) → text_in test o ≡ Some s → text_in test (Some (words s)) ≡ Some s
text_by test None s e = cc
text_by test (Some null) s e = cc
text_by test (Some (truth b)) s e = cc
text_by test (Some (whole z)) s e = cc
text_by test (Some (words r)) s e = passes_back test r s e
text_by test (Some (items ts)) s e = cc
text_by test (Some (members ms)) s e = cc

template_again : (o : Option Tree) (ps : List Pattern) → chosen template_of o ≡ Some ps → template_of (template_text ps) ≡ Some ps
template_again o ps e = let s = chosen_words template_of o ps e in template_back s.0 ps s.1

mapping_back : (k j : ℕ) (t : Tree) (g : Mapping) → mapping_of k t ≡ Ok g → mapping_of j (mapping_tree g) ≡ Ok g
mapping_back k j null g h = cc
mapping_back k j (truth b) g h = cc
mapping_back k j (whole z) g h = cc
mapping_back k j (words s) g h = cc
mapping_back k j (items ts) g h = cc
mapping_back k j (members ms) g h =
    let p = bind_ok (wanted (chosen template_of (get_member (codes "apiSignature") ms)) k) _ g h in
    let m = bind_ok (wanted (text_at is_method (codes "apiMethod") ms) k) _ g p.2 in
    let l = bind_ok (wanted (items_in (get_member (codes "IeList") ms)) k) _ g m.2 in
    let e = bind_ok (each_read (element_of k) l.0) _ g l.2 in
    let same : record { method = m.0; patterns = p.0; elements = e.0 } ≡ g = cc in
    let tp = template_again (get_member (codes "apiSignature") ms) p.0 (wanted_ok _ k p.0 p.1) in
    let tm = text_by is_method (get_member (codes "apiMethod") ms) m.0 (wanted_ok _ k m.0 m.1) in
    let te = each_back (element_of k) (element_of j) element_tree (element_back k j) l.0 e.0 e.1 in
    let tl = list-trees (map element_tree e.0) in
    subst (λ x. mapping_of j (mapping_tree x) ≡ Ok x) same (rw (tp, tm, tl, te) refl)

mappings_back : (k j : ℕ) (ts : List Tree) (gs : List Mapping) → mappings_from k ts ≡ Ok gs → mappings_from j (map mapping_tree gs) ≡ Ok gs
mappings_back k j [] gs e = let same : [] ≡ gs = cc in subst (λ ys. mappings_from j (map mapping_tree ys) ≡ Ok ys) same refl
mappings_back k j (t ∷ ts) gs e =
    let a = bind_ok (mapping_of k t) _ gs e in
    let b = bind_ok (mappings_from (suc k) ts) _ gs a.2 in
    let same : a.0 ∷ b.0 ≡ gs = cc in
    let here = mapping_back k j t a.0 a.1 in
    let rest = mappings_back (suc k) (suc j) ts b.0 b.1 in
    subst (λ ys. mappings_from j (map mapping_tree ys) ≡ Ok ys) same (rw (here, rest) refl)

mappings_many : (k : ℕ) (ts : List Tree) (gs : List Mapping) → mappings_from k ts ≡ Ok gs → length gs ≡ length ts
mappings_many k [] gs e = let same : [] ≡ gs = cc in ap length (sym same)
mappings_many k (t ∷ ts) gs e =
    let a = bind_ok (mapping_of k t) _ gs e in
    let b = bind_ok (mappings_from (suc k) ts) _ gs a.2 in
    let same : a.0 ∷ b.0 ≡ gs = cc in
    ap length (sym same) ∙ ap suc (mappings_many (suc k) ts b.0 b.1)

few_by : (o : Option (List Tree)) (ts : List Tree) → if_few o ≡ Some ts → nat_le (length ts) most_mappings ≡ true
few_by None ts e = cc
few_by (Some us) ts e = let h = picked (nat_le (length us) most_mappings) us ts e in subst (λ x. nat_le (length x) most_mappings ≡ true) h.1 h.0

-- ---- types

and-true : (b : Bool) → (b && true) ≡ b
and-true true = refl
and-true false = refl

and-false : (b : Bool) → (b && false) ≡ false
and-false true = refl
and-false false = refl

or-false : (b : Bool) → (b || false) ≡ b
or-false true = refl
or-false false = refl

any_filter : (f g : Sort → Bool) (xs : List Sort) → list_any f (filter g xs) ≡ list_any (λ x. g x && f x) xs
any_filter f g [] = refl
any_filter f g (x ∷ xs) = any_step f g x xs (g x) refl (any_filter f g xs)
  where
    any_step : (f g : Sort → Bool) (x : Sort) (xs : List Sort) (t : Bool) → g x ≡ t → list_any f (filter g xs) ≡ list_any (λ y. g y && f y) xs → list_any f (filter g (x ∷ xs)) ≡ list_any (λ y. g y && f y) (x ∷ xs)
    any_step f g x xs true e h = rw e (ap (λ b. f x || b) h)
    any_step f g x xs false e h = rw e h

sort_among : (g : Sort → Bool) (x : Sort) → list_any (λ y. g y && same_sort x y) all_sorts ≡ g x
sort_among g ueid = simp (and-true, and-false, or-false)
sort_among g location = simp (and-true, and-false, or-false)
sort_among g key_material = simp (and-true, and-false, or-false)
sort_among g authentication_material = simp (and-true, and-false, or-false)
sort_among g authorization_token = simp (and-true, and-false, or-false)
sort_among g other = simp (and-true, and-false, or-false)
sort_among g nonsensitive = simp (and-true, and-false, or-false)

filter_same : (f g : Sort → Bool) → ((x : Sort) → f x ≡ g x) → (xs : List Sort) → filter f xs ≡ filter g xs
filter_same f g h xs = ap (λ (p : Sort → Bool). filter p xs) (λ i x. h x i)

-- what is in order is put in order to itself
pub in_order-again : (ss : List Sort) → in_order (in_order ss) ≡ in_order ss
in_order-again ss =
    filter_same (λ x. list_any (same_sort x) (in_order ss)) (λ x. list_any (same_sort x) ss)
    (λ x. any_filter (same_sort x) (λ y. list_any (same_sort y) ss) all_sorts ∙ sort_among (λ y. list_any (same_sort y) ss) x) all_sorts

sorts_list : (ss : List Sort) → listed_sorts (map sort_tree ss) ≡ Some ss
sorts_list [] = refl
sorts_list (s ∷ ss) = rw (sort_back s, sorts_list ss) refl

sorts_ordered : (o : Option Tree) (ss : List Sort) → sorts_in o ≡ Some ss → in_order ss ≡ ss
sorts_ordered None ss e = let same : [] ≡ ss = cc in subst (λ x. in_order x ≡ x) same refl
sorts_ordered (Some t) ss e = let m = mapped in_order (sorts_of t) ss e in subst (λ x. in_order x ≡ x) m.2 (in_order-again m.0)

sorts_back : (o : Option Tree) (ss : List Sort) → sorts_in o ≡ Some ss → sorts_in (Some (list_of sort_tree ss)) ≡ Some ss
sorts_back o ss e = ap (λ ts. option_map in_order (listed_sorts ts)) (list-trees (map sort_tree ss)) ∙ ap (option_map in_order) (sorts_list ss) ∙ ap Some (sorts_ordered o ss e)

-- ---- policies

pub policy_few : (t : Tree) (p : Policy) → policy_of t ≡ Ok p → length p.mappings ≤ most_mappings
policy_few null p h = cc
policy_few (truth b) p h = cc
policy_few (whole z) p h = cc
policy_few (words s) p h = cc
policy_few (items ts) p h = cc
policy_few (members ms) p h =
    let l = bind_ok (wanted (if_few (items_in (get_member (codes "apiIeMappingList") ms))) 0) _ p h in
    let s = bind_ok (wanted (sorts_in (get_member (codes "dataTypeEncPolicy") ms)) 0) _ p l.2 in
    let g = bind_ok (mappings_from 1 l.0) _ p s.2 in
    let same : record { mappings = g.0; sorts = s.0 } ≡ p = cc in
    let few : length l.0 ≤ most_mappings = leb-true (length l.0) most_mappings (few_by (items_in (get_member (codes "apiIeMappingList") ms)) l.0 (wanted_ok _ 0 l.0 l.1)) in
    let many : length g.0 ≡ length l.0 = mappings_many 1 l.0 g.0 g.1 in
    subst (λ (x : Policy). length x.mappings ≤ most_mappings) same (subst (λ n. n ≤ most_mappings) (sym many) few)

-- a policy that was read is what its own document is read to
pub policy_back : (t : Tree) (p : Policy) → policy_of t ≡ Ok p → ReadsBack p
policy_back null p h = cc
policy_back (truth b) p h = cc
policy_back (whole z) p h = cc
policy_back (words s) p h = cc
policy_back (items ts) p h = cc
policy_back (members ms) p h =
    let l = bind_ok (wanted (if_few (items_in (get_member (codes "apiIeMappingList") ms))) 0) _ p h in
    let s = bind_ok (wanted (sorts_in (get_member (codes "dataTypeEncPolicy") ms)) 0) _ p l.2 in
    let g = bind_ok (mappings_from 1 l.0) _ p s.2 in
    let same : record { mappings = g.0; sorts = s.0 } ≡ p = cc in
    let few : nat_le (length l.0) most_mappings ≡ true = few_by (items_in (get_member (codes "apiIeMappingList") ms)) l.0 (wanted_ok _ 0 l.0 l.1) in
    let many : nat_le (length (map mapping_tree g.0)) most_mappings ≡ true = ap (λ n. nat_le n most_mappings) (length-map g.0 mapping_tree ∙ mappings_many 1 l.0 g.0 g.1) ∙ few in
    let tl = list-trees (map mapping_tree g.0) in
    let ts = sorts_back (get_member (codes "dataTypeEncPolicy") ms) s.0 (wanted_ok _ 0 s.0 s.1) in
    let tg = mappings_back 1 1 l.0 g.0 g.1 in
    subst ReadsBack same (rw (tl, many, ts, tg) refl)
