-- The lines of two requests: their parts, the segments and the variables of their paths.
use Rattle.std.proofs.Common.{◌≡◌, ℕ, ◌+◌, ◌≤◌, List, [], ◌∷◌, ◌++◌, map, length, drop, Bool, true, false, ◌&&◌, ◌||◌, Option, Some, None, zero, suc, slice_get, refl, sym, ap, ap₂, ◌∙◌, arith, if◌then◌else◌}
use Rattle.std.specs.List.{find}
use Rattle.spec_messages.specs.Message.{Part, Line}
use Rattle.spec_messages.specs.Policy.{Pattern, fixed, variable, Address, LinePart, query, line_query_order, named_changed, pairs_named, line, line_method, line_scheme, line_authority, line_version, line_path, unless, is_free, same_part, same_path, variables_changed}
use Rattle.n32_values.proofs.Trees.{drop_at}
use Rattle.message_differences.specs.Fixed.{variable_changed, parts_then, Begins}
use Rattle.message_differences.proofs.FindLemmas.{found_first, found_later}

one_more : (n : ℕ) → suc n ≡ n + 1
one_more n = omega arith

and_false : (b : Bool) → b && false ≡ false
and_false true = refl
and_false false = refl

pub drop_end : {A : Type 0} (xs : List A) (i : ℕ) → length xs ≤ i → drop i xs ≡ []
drop_end [] zero h = refl
drop_end [] (suc i) h = refl
drop_end (x ∷ xs) zero h = absurd (omega arith)
drop_end (x ∷ xs) (suc i) h = drop_end xs i (omega arith)

-- ---- paths

pub paths_apart : {A : Type 0} (view : A → Part) (ps : List Pattern) (i : ℕ) (xs ys : List A) → (length xs ≡ length ys → ⊥) → same_path ps i (map view xs) (map view ys) ≡ false
paths_apart view ps i [] [] n = absurd (n refl)
paths_apart view ps i [] (y ∷ ys) n = refl
paths_apart view ps i (x ∷ xs) [] n = refl
paths_apart view ps i (x ∷ xs) (y ∷ ys) n =
    ap (λ b. (is_free (slice_get ps i) || same_part (view x) (view y)) && b) (paths_apart view ps (suc i) xs ys (λ e. n (ap suc e))) ∙ and_false (is_free (slice_get ps i) || same_part (view x) (view y))

paths_step : {A : Type 0} (view : A → Part) (ps : List Pattern) (xs ys : List A) (i : ℕ) (x y : A) (b : Bool) → slice_get xs i ≡ Some x → slice_get ys i ≡ Some y
    → (is_free (slice_get ps i) || same_part (view x) (view y)) ≡ b → same_path ps i (map view (drop i xs)) (map view (drop i ys)) ≡ b && same_path ps (i + 1) (map view (drop (i + 1) xs)) (map view (drop (i + 1) ys))
paths_step view ps xs ys i x y b is there e =
    ap₂ (λ a b. same_path ps i (map view a) (map view b)) (drop_at xs i x is) (drop_at ys i y there)
    ∙ ap₂ (λ c n. c && same_path ps n (map view (drop (i + 1) xs)) (map view (drop (i + 1) ys))) e (one_more i)

pub paths_here : {A : Type 0} (view : A → Part) (ps : List Pattern) (xs ys : List A) (i : ℕ) (x y : A) (all : Bool) → slice_get xs i ≡ Some x → slice_get ys i ≡ Some y
    → same_path ps i (map view (drop i xs)) (map view (drop i ys)) ≡ all → (is_free (slice_get ps i) || same_part (view x) (view y)) ≡ false → false ≡ all
paths_here view ps xs ys i x y all is there h e = sym (paths_step view ps xs ys i x y false is there e) ∙ h

pub paths_later : {A : Type 0} (view : A → Part) (ps : List Pattern) (xs ys : List A) (i : ℕ) (x y : A) (all : Bool) → slice_get xs i ≡ Some x → slice_get ys i ≡ Some y
    → same_path ps i (map view (drop i xs)) (map view (drop i ys)) ≡ all → (is_free (slice_get ps i) || same_part (view x) (view y)) ≡ true → same_path ps (i + 1) (map view (drop (i + 1) xs)) (map view (drop (i + 1) ys)) ≡ all
paths_later view ps xs ys i x y all is there h e = sym (paths_step view ps xs ys i x y true is there e) ∙ h

-- ---- variables

pub variables_step : {A : Type 0} (view : A → Pattern) (qs : List A) (i : ℕ) (q : A) (rs ss : List Part) → slice_get qs i ≡ Some q
    → variables_changed (map view (drop i qs)) i rs ss ≡ variable_changed (view q) (slice_get rs i) (slice_get ss i) ++ variables_changed (map view (drop (i + 1) qs)) (i + 1) rs ss
variables_step view qs i q rs ss is =
    ap (λ ps. variables_changed (map view ps) i rs ss) (drop_at qs i q is)
    ∙ by (view q)
    ∙ ap (λ n. variable_changed (view q) (slice_get rs i) (slice_get ss i) ++ variables_changed (map view (drop (i + 1) qs)) n rs ss) (one_more i)
  where
    by : (p : Pattern) → variables_changed (p ∷ map view (drop (i + 1) qs)) i rs ss ≡ variable_changed p (slice_get rs i) (slice_get ss i) ++ variables_changed (map view (drop (i + 1) qs)) (suc i) rs ss
    by (fixed s) = refl
    by (variable x) = refl

pub variables_found : {A : Type 0} (P : Address → Bool) (view : A → Pattern) (qs : List A) (i : ℕ) (q : A) (rs ss : List Part) (r s : Option Part) (y : Address) (all : Option Address) → slice_get qs i ≡ Some q → r ≡ slice_get rs i → s ≡ slice_get ss i
    → find P (variable_changed (view q) r s) ≡ Some y → find P (variables_changed (map view (drop i qs)) i rs ss) ≡ all → Some y ≡ all
variables_found P view qs i q rs ss r s y all is er es e h =
    sym (ap (find P) (variables_step view qs i q rs ss is ∙ ap₂ (λ a b. variable_changed (view q) a b ++ variables_changed (map view (drop (i + 1) qs)) (i + 1) rs ss) (sym er) (sym es))
    ∙ found_first P (variable_changed (view q) r s) (variables_changed (map view (drop (i + 1) qs)) (i + 1) rs ss) y e) ∙ h

pub variables_none : {A : Type 0} (P : Address → Bool) (view : A → Pattern) (qs : List A) (i : ℕ) (q : A) (rs ss : List Part) (r s : Option Part) (all : Option Address) → slice_get qs i ≡ Some q → r ≡ slice_get rs i → s ≡ slice_get ss i
    → find P (variable_changed (view q) r s) ≡ None → find P (variables_changed (map view (drop i qs)) i rs ss) ≡ all → find P (variables_changed (map view (drop (i + 1) qs)) (i + 1) rs ss) ≡ all
variables_none P view qs i q rs ss r s all is er es e h =
    sym (ap (find P) (variables_step view qs i q rs ss is ∙ ap₂ (λ a b. variable_changed (view q) a b ++ variables_changed (map view (drop (i + 1) qs)) (i + 1) rs ss) (sym er) (sym es))
    ∙ found_later P (variable_changed (view q) r s) (variables_changed (map view (drop (i + 1) qs)) (i + 1) rs ss) e) ∙ h

-- ---- the parts of a line

abbrev five : Bool → Bool → Bool → Bool → Bool → List Address → List Address
five a b c d e rest = unless a (line line_method) ++ unless b (line line_scheme) ++ unless c (line line_authority) ++ unless d (line line_version) ++ unless e (line line_path) ++ rest

pub begins_method : (a b c d e : Bool) (rest : List Address) → a ≡ false → (more : List Address) × (five a b c d e rest ≡ line line_method ∷ more)
begins_method a b c d e rest ea = (unless b (line line_scheme) ++ unless c (line line_authority) ++ unless d (line line_version) ++ unless e (line line_path) ++ rest, ap (λ x. five x b c d e rest) ea)

pub begins_scheme : (a b c d e : Bool) (rest : List Address) → a ≡ true → b ≡ false → (more : List Address) × (five a b c d e rest ≡ line line_scheme ∷ more)
begins_scheme a b c d e rest ea eb = (unless c (line line_authority) ++ unless d (line line_version) ++ unless e (line line_path) ++ rest, ap₂ (λ x y. five x y c d e rest) ea eb)

pub begins_authority : (a b c d e : Bool) (rest : List Address) → a ≡ true → b ≡ true → c ≡ false → (more : List Address) × (five a b c d e rest ≡ line line_authority ∷ more)
begins_authority a b c d e rest ea eb ec = (unless d (line line_version) ++ unless e (line line_path) ++ rest, λ i. five (ea i) (eb i) (ec i) d e rest)

pub begins_version : (a b c d e : Bool) (rest : List Address) → a ≡ true → b ≡ true → c ≡ true → d ≡ false → (more : List Address) × (five a b c d e rest ≡ line line_version ∷ more)
begins_version a b c d e rest ea eb ec ed = (unless e (line line_path) ++ rest, λ i. five (ea i) (eb i) (ec i) (ed i) e rest)

pub begins_path : (a b c d e : Bool) (rest : List Address) → a ≡ true → b ≡ true → c ≡ true → d ≡ true → e ≡ false → (more : List Address) × (five a b c d e rest ≡ line line_path ∷ more)
begins_path a b c d e rest ea eb ec ed ee = (rest, λ i. five (ea i) (eb i) (ec i) (ed i) (ee i) rest)

pub no_part : (a b c d e : Bool) (rest : List Address) → a ≡ true → b ≡ true → c ≡ true → d ≡ true → e ≡ true → five a b c d e rest ≡ rest
no_part a b c d e rest ea eb ec ed ee = λ i. five (ea i) (eb i) (ec i) (ed i) (ee i) rest

-- ---- a whole line, by the patterns of its path

abbrev pub line_by : List Pattern → Line → Line → List Address
line_by ps a b = parts_then ps a b (variables_changed ps 0 a.segments b.segments) ++ named_changed query line_query_order (pairs_named a.query) (pairs_named b.query)

pub line_part : (P : Address → Bool) (ps : List Pattern) (a b : Line) (l : LinePart) → P (line l) ≡ true → Begins (Some l) (parts_then ps a b) → find P (line_by ps a b) ≡ Some (line l)
line_part P ps a b l e h =
    let named = named_changed query line_query_order (pairs_named a.query) (pairs_named b.query) in
    let found = h (variables_changed ps 0 a.segments b.segments) in
    ap (λ xs. find P (xs ++ named)) found.1 ∙ ap (λ c. if c then Some (line l) else find P (found.0 ++ named)) e

pub line_variable : (P : Address → Bool) (ps : List Pattern) (a b : Line) (y : Address) → Begins None (parts_then ps a b) → find P (variables_changed ps 0 a.segments b.segments) ≡ Some y → find P (line_by ps a b) ≡ Some y
line_variable P ps a b y h e =
    let named = named_changed query line_query_order (pairs_named a.query) (pairs_named b.query) in
    let variables = variables_changed ps 0 a.segments b.segments in
    ap (λ xs. find P (xs ++ named)) (h variables) ∙ found_first P variables named y e

pub line_query : (P : Address → Bool) (ps : List Pattern) (a b : Line) → Begins None (parts_then ps a b) → find P (variables_changed ps 0 a.segments b.segments) ≡ None
    → find P (line_by ps a b) ≡ find P (named_changed query line_query_order (pairs_named a.query) (pairs_named b.query))
line_query P ps a b h e =
    let named = named_changed query line_query_order (pairs_named a.query) (pairs_named b.query) in
    let variables = variables_changed ps 0 a.segments b.segments in
    ap (λ xs. find P (xs ++ named)) (h variables) ∙ found_later P variables named e
