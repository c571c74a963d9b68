-- Names of pairs and headers: each once, those seen, and those that changed.
use Rattle.std.proofs.Common.{◌≡◌, ℕ, ◌+◌, List, [], ◌∷◌, ◌++◌, map, filter, take, drop, slice_get, Vec, Bool, true, false, not, ◌&&◌, ◌||◌, Option, Some, None, unwrap_or, is_some, refl, sym, ap, ap₂, ◌∙◌, subst, append_assoc, append-nil, if◌then◌else◌}
use Rattle.std.specs.Prelude.{bytes_eq}
use Rattle.std.specs.List.{list_all, find}
use Rattle.std.specs.Option.{option_map_or}
use Rattle.std.specs.Global.{Global}
use Rattle.std.specs.Borrow.{Bor}
use Rattle.std.specs.BTreeMap.{BTreeMap, get_by}
use Rattle.spec_documents.specs.Tree.{name_cmp}
use Rattle.std.proofs.lemmas.Bool.{and_parts, and_from, or_right}
use Rattle.std.proofs.lemmas.Slice.Eq.{bytes_eq-Decides}
use Rattle.spec_messages.specs.Policy.{Address, is_in, once_each, Named, same_list, same_named, of_name, names_changed, named_changed, others, LinePart, line, unless}
use Rattle.n32_values.proofs.Trees.{drop_at, take_at}
use Rattle.message_differences.specs.declared.named.Named.{Named as Item}
use Rattle.message_differences.specs.Named.{named_view, items_of, verdict, stays, Known}
use Rattle.message_differences.proofs.FindLemmas.{found_first, found_later}

same_bytes : (x : List ℕ) → bytes_eq x x ≡ true
same_bytes x = (bytes_eq-Decides x x).1 refl

bytes_turn : (x y : List ℕ) → bytes_eq x y ≡ bytes_eq y x
bytes_turn x y = by (bytes_eq x y) (bytes_eq y x) refl refl
  where
    by : (b c : Bool) → bytes_eq x y ≡ b → bytes_eq y x ≡ c → b ≡ c
    by true true e f = refl
    by false false e f = refl
    by true false e f = sym ((bytes_eq-Decides y x).1 (sym ((bytes_eq-Decides x y).0 e))) ∙ f
    by false true e f = sym e ∙ (bytes_eq-Decides x y).1 (sym ((bytes_eq-Decides y x).0 f))

-- the names of s and x, in whatever order
in_more : (s : List (List ℕ)) (x q : List ℕ) → is_in (s ++ x ∷ []) q ≡ bytes_eq q x || is_in s q
in_more [] x q = refl
in_more (y ∷ s) x q = ap (λ b. bytes_eq q y || b) (in_more s x q) ∙ turned (bytes_eq q y) (bytes_eq q x) (is_in s q)
  where
    turned : (a b c : Bool) → a || (b || c) ≡ b || (a || c)
    turned true true c = refl
    turned true false c = refl
    turned false b c = refl

-- only which names were seen counts
once_alike : (s t xs : List (List ℕ)) → ((q : List ℕ) → is_in s q ≡ is_in t q) → once_each s xs ≡ once_each t xs
once_alike s t [] e = refl
once_alike s t (x ∷ xs) e =
    ap₂ (λ b r. if b then r else x ∷ once_each (x ∷ s) xs) (e x) (once_alike s t xs e)
    ∙ ap (λ r. if is_in t x then once_each t xs else x ∷ r) (once_alike (x ∷ s) (x ∷ t) xs (λ q. ap (λ b. bytes_eq q x || b) (e q)))

seen_more : (s : List (List ℕ)) (x q : List ℕ) → is_in s x ≡ true → is_in s q ≡ is_in (s ++ x ∷ []) q
seen_more s x q h = step (bytes_eq q x) refl ∙ sym (in_more s x q)
  where
    step : (b : Bool) → bytes_eq q x ≡ b → is_in s q ≡ b || is_in s q
    step false e = refl
    step true e = subst (λ y. is_in s y ≡ true) (sym ((bytes_eq-Decides q x).0 e)) h

pub once_seen : (s : List (List ℕ)) (x : List ℕ) (xs : List (List ℕ)) → is_in s x ≡ true → once_each s (x ∷ xs) ≡ once_each (s ++ x ∷ []) xs
once_seen s x xs h =
    ap (λ b. if b then once_each s xs else x ∷ once_each (x ∷ s) xs) h
    ∙ once_alike s (s ++ x ∷ []) xs (λ q. seen_more s x q h)

pub once_new : (s : List (List ℕ)) (x : List ℕ) (xs : List (List ℕ)) → is_in s x ≡ false → once_each s (x ∷ xs) ≡ x ∷ once_each (s ++ x ∷ []) xs
once_new s x xs h =
    ap (λ b. if b then once_each s xs else x ∷ once_each (x ∷ s) xs) h
    ∙ ap (λ r. x ∷ r) (once_alike (x ∷ s) (s ++ x ∷ []) xs (λ q. sym (in_more s x q)))

-- ---- which names are there

in_filter : (d : List ℕ → Bool) (xs : List (List ℕ)) (q : List ℕ) → is_in (filter d xs) q ≡ is_in xs q && d q
in_filter d [] q = refl
in_filter d (x ∷ xs) q = step (d x) (bytes_eq q x) refl refl (in_filter d xs q)
  where
    step : (b c : Bool) → d x ≡ b → bytes_eq q x ≡ c → is_in (filter d xs) q ≡ is_in xs q && d q → is_in (if b then x ∷ filter d xs else filter d xs) q ≡ (c || is_in xs q) && d q
    step true true e f h = ap (λ t. t || is_in (filter d xs) q) f ∙ sym (ap d ((bytes_eq-Decides q x).0 f) ∙ e)
    step true false e f h = ap (λ t. t || is_in (filter d xs) q) f ∙ h
    step false true e f h = h ∙ none (is_in xs q)
      where
        here : d q ≡ false
        here = ap d ((bytes_eq-Decides q x).0 f) ∙ e

        none : (b : Bool) → b && d q ≡ d q
        none true = refl
        none false = sym here
    step false false e f h = h

in_once : (s xs : List (List ℕ)) (q : List ℕ) → is_in (once_each s xs) q ≡ is_in xs q && not (is_in s q)
in_once s [] q = refl
in_once s (x ∷ xs) q = step (is_in s x) (bytes_eq q x) refl refl (in_once s xs q) (in_once (x ∷ s) xs q)
  where
    step : (b c : Bool) → is_in s x ≡ b → bytes_eq q x ≡ c → is_in (once_each s xs) q ≡ is_in xs q && not (is_in s q) → is_in (once_each (x ∷ s) xs) q ≡ is_in xs q && not (bytes_eq q x || is_in s q)
        → is_in (if b then once_each s xs else x ∷ once_each (x ∷ s) xs) q ≡ (c || is_in xs q) && not (is_in s q)
    step true true e f h k = h ∙ none (is_in xs q) ∙ sym out
      where
        out : not (is_in s q) ≡ false
        out = ap (λ y. not (is_in s y)) ((bytes_eq-Decides q x).0 f) ∙ ap not e

        none : (b : Bool) → b && not (is_in s q) ≡ false
        none true = out
        none false = refl
    step true false e f h k = h
    step false true e f h k = ap (λ t. t || is_in (once_each (x ∷ s) xs) q) f ∙ sym (ap (λ y. not (is_in s y)) ((bytes_eq-Decides q x).0 f) ∙ ap not e)
    step false false e f h k = ap (λ t. t || is_in (once_each (x ∷ s) xs) q) f ∙ k ∙ ap (λ t. is_in xs q && not (t || is_in s q)) f

in_changed : (d : List ℕ → Bool) (xs : List (List ℕ)) (q : List ℕ) → is_in xs q ≡ true → is_in (filter d (once_each [] xs)) q ≡ d q
in_changed d xs q h = in_filter d (once_each [] xs) q ∙ ap (λ b. b && d q) (in_once [] xs q ∙ ap (λ b. b && true) h)

-- ---- verdicts

pub known_seen : (d : List ℕ → Bool) (s : List (List ℕ)) (x : List ℕ) (v : BTreeMap (Bor (List ℕ)) Bool) → Known d s v → is_some (verdict x v) ≡ is_in s x
known_seen d s x v h = ap is_some (h x) ∙ step (is_in s x)
  where
    step : (b : Bool) → is_some (if b then Some (d x) else None) ≡ b
    step true = refl
    step false = refl

pub known_same : (d : List ℕ → Bool) (s : List (List ℕ)) (x : List ℕ) (v : BTreeMap (Bor (List ℕ)) Bool) → is_in s x ≡ true → Known d s v → Known d (s ++ x ∷ []) v
known_same d s x v e h q = h q ∙ ap (λ b. if b then Some (d q) else None) (seen_more s x q e)

pub known_more : (d : List ℕ → Bool) (s : List (List ℕ)) (x : List ℕ) (c : Bool) (v w : BTreeMap (Bor (List ℕ)) Bool) → c ≡ d x → Known d s v
    → ((q : List ℕ) → verdict q w ≡ (if bytes_eq x q then Some c else verdict q v)) → Known d (s ++ x ∷ []) w
known_more d s x c v w is h step q = step q ∙ by (bytes_eq x q) refl ∙ ap (λ b. if b then Some (d q) else None) (sym (in_more s x q))
  where
    by : (b : Bool) → bytes_eq x q ≡ b → (if b then Some c else verdict q v) ≡ (if bytes_eq q x || is_in s q then Some (d q) else None)
    by true e =
        let same : x ≡ q = (bytes_eq-Decides x q).0 e in
        ap Some (is ∙ ap d same) ∙ sym (ap (λ b. if b || is_in s q then Some (d q) else None) ((bytes_eq-Decides q x).1 (sym same)))
    by false e = h q ∙ sym (ap (λ b. if b || is_in s q then Some (d q) else None) (apart (bytes_eq q x) refl))
      where
        apart : (b : Bool) → bytes_eq q x ≡ b → b ≡ false
        apart false f = refl
        apart true f = let yes : bytes_eq x q ≡ true = (bytes_eq-Decides x q).1 (sym ((bytes_eq-Decides q x).0 f)) in let no_way : true ≡ false = sym yes ∙ e in no_way

-- ---- what is left in another order

pub others_stay : (d : List ℕ → Bool) (names : List (List ℕ)) (v : BTreeMap (Bor (List ℕ)) Bool) (xs : List Named) → Known d names v → list_all (λ a. is_in names a.0) xs ≡ true
    → filter (λ a. stays v a.0) xs ≡ filter (λ a. not (is_in (filter d (once_each [] names)) a.0)) xs
others_stay d names v [] h e = refl
others_stay d names v (a ∷ xs) h e =
    let p = and_parts (is_in names a.0) _ e in
    let told : verdict a.0 v ≡ Some (d a.0) = h a.0 ∙ ap (λ b. if b then Some (d a.0) else None) p.0 in
    let test : stays v a.0 ≡ not (is_in (filter d (once_each [] names)) a.0) = ap (λ o. not (unwrap_or o false)) told ∙ ap not (sym (in_changed d names a.0 p.0)) in
    ap₂ (λ b r. if b then a ∷ r else r) test (others_stay d names v xs h p.1)

names_in : (front xs back : List Named) → list_all (λ a. is_in (map (λ a. a.0) (front ++ (xs ++ back))) a.0) xs ≡ true
names_in front xs back = step front xs
  where
    here : (front : List Named) (a : Named) (back : List Named) → is_in (map (λ a. a.0) (front ++ a ∷ back)) a.0 ≡ true
    here [] a back = ap (λ b. b || is_in (map (λ a. a.0) back) a.0) (same_bytes a.0)
    here (f ∷ front) a back = or_right (bytes_eq a.0 f.0) _ (here front a back)

    step : (front xs : List Named) → list_all (λ a. is_in (map (λ a. a.0) (front ++ (xs ++ back))) a.0) xs ≡ true
    step front [] = refl
    step front (a ∷ xs) = and_from (is_in (map (λ a. a.0) (front ++ a ∷ (xs ++ back))) a.0) _ (here front a (xs ++ back))
        (subst (λ all. list_all (λ b. is_in (map (λ b. b.0) all) b.0) xs ≡ true) (append_assoc front (a ∷ []) (xs ++ back)) (step (front ++ a ∷ []) xs))

pub left_in : (xs ys : List Named) → list_all (λ a. is_in (map (λ a. a.0) (xs ++ ys)) a.0) xs ≡ true
left_in xs ys = names_in [] xs ys

pub right_in : (xs ys : List Named) → list_all (λ a. is_in (map (λ a. a.0) (xs ++ ys)) a.0) ys ≡ true
right_in xs ys = subst (λ all. list_all (λ b. is_in (map (λ b. b.0) (xs ++ all)) b.0) ys ≡ true) (append-nil ys) (names_in xs ys [])

-- ---- lists beside one another

pub filter_view : {A B : Type 0} (f : B → Bool) (view : A → B) (xs : List A) → map view (filter (λ x. f (view x)) xs) ≡ filter f (map view xs)
filter_view f view [] = refl
filter_view f view (x ∷ xs) = step (f (view x)) ∙ ap (λ r. if f (view x) then view x ∷ r else r) (filter_view f view xs)
  where
    step : (b : Bool) → map view (if b then x ∷ filter (λ x. f (view x)) xs else filter (λ x. f (view x)) xs) ≡ (if b then view x ∷ map view (filter (λ x. f (view x)) xs) else map view (filter (λ x. f (view x)) xs))
    step true = refl
    step false = refl

-- ---- one name of the list

pub once_skipped : (names : List (List ℕ)) (i : ℕ) (x : List ℕ) → slice_get names i ≡ Some x → is_in (take i names) x ≡ true → once_each (take i names) (drop i names) ≡ once_each (take (i + 1) names) (drop (i + 1) names)
once_skipped names i x is seen =
    ap (once_each (take i names)) (drop_at names i x is) ∙ once_seen (take i names) x (drop (i + 1) names) seen ∙ ap (λ s. once_each s (drop (i + 1) names)) (sym (take_at names i x is))

pub once_added : (names : List (List ℕ)) (i : ℕ) (x : List ℕ) → slice_get names i ≡ Some x → is_in (take i names) x ≡ false → once_each (take i names) (drop i names) ≡ x ∷ once_each (take (i + 1) names) (drop (i + 1) names)
once_added names i x is seen =
    ap (once_each (take i names)) (drop_at names i x is) ∙ once_new (take i names) x (drop (i + 1) names) seen ∙ ap (λ s. x ∷ once_each s (drop (i + 1) names)) (sym (take_at names i x is))

pub known_skipped : (d : List ℕ → Bool) (names : List (List ℕ)) (i : ℕ) (x : List ℕ) (v : BTreeMap (Bor (List ℕ)) Bool) → slice_get names i ≡ Some x → is_in (take i names) x ≡ true → Known d (take i names) v → Known d (take (i + 1) names) v
known_skipped d names i x v is seen h = subst (λ s. Known d s v) (sym (take_at names i x is)) (known_same d (take i names) x v seen h)

pub known_added : (d : List ℕ → Bool) (names : List (List ℕ)) (i : ℕ) (x : List ℕ) (c : Bool) (v w : BTreeMap (Bor (List ℕ)) Bool) → slice_get names i ≡ Some x → c ≡ d x → Known d (take i names) v
    → ((q : List ℕ) → verdict q w ≡ (if bytes_eq x q then Some c else verdict q v)) → Known d (take (i + 1) names) w
known_added d names i x c v w is e h step = subst (λ s. Known d s w) (sym (take_at names i x is)) (known_more d (take i names) x c v w e h step)

-- the address that is asked for at a name
pub asked_split : (address : List ℕ → Address) (d : List ℕ → Bool) (x : List ℕ) (c : Bool) (rest : List (List ℕ)) → c ≡ d x → map address (filter d (x ∷ rest)) ≡ (if c then address x ∷ [] else []) ++ map address (filter d rest)
asked_split address d x c rest e = step (d x) ∙ ap (λ b. (if b then address x ∷ [] else []) ++ map address (filter d rest)) (sym e)
  where
    step : (b : Bool) → map address (if b then x ∷ filter d rest else filter d rest) ≡ (if b then address x ∷ [] else []) ++ map address (filter d rest)
    step true = refl
    step false = refl

pub asked_found : (P : Address → Bool) (address : List ℕ → Address) (d : List ℕ → Bool) (names : List (List ℕ)) (i : ℕ) (x : List ℕ) (c : Bool) (y : Address) (all : Option Address) → slice_get names i ≡ Some x → is_in (take i names) x ≡ false → c ≡ d x
    → find P (if c then address x ∷ [] else []) ≡ Some y → find P (map address (filter d (once_each (take i names) (drop i names)))) ≡ all → Some y ≡ all
asked_found P address d names i x c y all is new e h left =
    sym (ap (λ ns. find P (map address (filter d ns))) (once_added names i x is new) ∙ ap (find P) (asked_split address d x c (once_each (take (i + 1) names) (drop (i + 1) names)) e)
    ∙ found_first P (if c then address x ∷ [] else []) (map address (filter d (once_each (take (i + 1) names) (drop (i + 1) names)))) y h) ∙ left

pub asked_none : (P : Address → Bool) (address : List ℕ → Address) (d : List ℕ → Bool) (names : List (List ℕ)) (i : ℕ) (x : List ℕ) (c : Bool) (all : Option Address) → slice_get names i ≡ Some x → is_in (take i names) x ≡ false → c ≡ d x
    → find P (if c then address x ∷ [] else []) ≡ None → find P (map address (filter d (once_each (take i names) (drop i names)))) ≡ all → find P (map address (filter d (once_each (take (i + 1) names) (drop (i + 1) names)))) ≡ all
asked_none P address d names i x c all is new e h left =
    sym (ap (λ ns. find P (map address (filter d ns))) (once_added names i x is new) ∙ ap (find P) (asked_split address d x c (once_each (take (i + 1) names) (drop (i + 1) names)) e)
    ∙ found_later P (if c then address x ∷ [] else []) (map address (filter d (once_each (take (i + 1) names) (drop (i + 1) names)))) h) ∙ left

-- ---- all names of two lists

abbrev pub changed_by : List Named → List Named → List ℕ → Bool
changed_by xs ys q = not (same_list same_named (of_name q xs) (of_name q ys))

pub names_first : (address : List ℕ → Address) (xs ys : List Named) (d : List ℕ → Bool) (names : List (List ℕ)) → names ≡ map (λ a. a.0) (xs ++ ys) → d ≡ changed_by xs ys → map address (filter d (once_each [] names)) ≡ map address (names_changed xs ys)
names_first address xs ys d names en ed = λ i. map address (filter (ed i) (once_each [] (en i)))

pub order_is : (xs ys : List Named) (d : List ℕ → Bool) (names : List (List ℕ)) (v : BTreeMap (Bor (List ℕ)) Bool) → names ≡ map (λ a. a.0) (xs ++ ys) → d ≡ changed_by xs ys → Known d names v
    → same_list same_named (filter (λ a. stays v a.0) xs) (filter (λ a. stays v a.0) ys) ≡ same_list same_named (others (names_changed xs ys) xs) (others (names_changed xs ys) ys)
order_is xs ys d names v en ed h =
    let known : Known (changed_by xs ys) (map (λ a. a.0) (xs ++ ys)) v = subst (λ f. Known f (map (λ a. a.0) (xs ++ ys)) v) ed (subst (λ ns. Known d ns v) en h) in
    ap₂ (same_list same_named) (others_stay (changed_by xs ys) (map (λ a. a.0) (xs ++ ys)) v xs known (left_in xs ys)) (others_stay (changed_by xs ys) (map (λ a. a.0) (xs ++ ys)) v ys known (right_in xs ys))

pub group_view : (q : List ℕ) (o : Option (Vec Item Global)) (xs : List Item) → option_map_or (λ g. g.items) o [] ≡ filter (λ n. bytes_eq q n.name.now) xs → option_map_or (λ g. map named_view g.items) o [] ≡ of_name q (map named_view xs)
group_view q None xs e = ap (map named_view) e ∙ filter_view (λ a. bytes_eq q a.0) named_view xs
group_view q (Some g) xs e = ap (map named_view) e ∙ filter_view (λ a. bytes_eq q a.0) named_view xs

filter_last : {A : Type 0} (f : A → Bool) (xs : List A) (x : A) → filter f (xs ++ x ∷ []) ≡ (if f x then filter f xs ++ x ∷ [] else filter f xs)
filter_last f [] x = refl
filter_last f (y ∷ xs) x = ap (λ r. if f y then y ∷ r else r) (filter_last f xs x) ∙ by (f y) (f x)
  where
    by : (b c : Bool) → (if b then y ∷ (if c then filter f xs ++ x ∷ [] else filter f xs) else (if c then filter f xs ++ x ∷ [] else filter f xs)) ≡ (if c then (if b then y ∷ filter f xs else filter f xs) ++ x ∷ [] else (if b then y ∷ filter f xs else filter f xs))
    by true true = refl
    by true false = refl
    by false true = refl
    by false false = refl

-- one more item of a list, kept where it passes
pub filter_more : {A : Type 0} (f : A → Bool) (xs : List A) (i : ℕ) (x : A) (kept : List A) → slice_get xs i ≡ Some x → kept ≡ filter f (take i xs) → (if f x then kept ++ x ∷ [] else kept) ≡ filter f (take (i + 1) xs)
filter_more f xs i x kept is e = ap (λ r. if f x then r ++ x ∷ [] else r) e ∙ sym (ap (filter f) (take_at xs i x is) ∙ filter_last f (take i xs) x)

-- ---- the three kinds of answers

pub named_found : (P : Address → Bool) (address : List ℕ → Address) (order : LinePart) (xs ys : List Named) (y : Address) → find P (map address (names_changed xs ys)) ≡ Some y → find P (named_changed address order xs ys) ≡ Some y
named_found P address order xs ys y e = found_first P (map address (names_changed xs ys)) (unless (same_list same_named (others (names_changed xs ys) xs) (others (names_changed xs ys) ys)) (line order)) y e

pub named_order : (P : Address → Bool) (address : List ℕ → Address) (order : LinePart) (xs ys : List Named) (same : Bool) → find P (map address (names_changed xs ys)) ≡ None → same_list same_named (others (names_changed xs ys) xs) (others (names_changed xs ys) ys) ≡ same
    → find P (named_changed address order xs ys) ≡ find P (unless same (line order))
named_order P address order xs ys same e s =
    found_later P (map address (names_changed xs ys)) (unless (same_list same_named (others (names_changed xs ys) xs) (others (names_changed xs ys) ys)) (line order)) e ∙ ap (λ b. find P (unless b (line order))) s

-- ---- groups that change at one name

pub items_after : (name q : List ℕ) (m n : BTreeMap (Bor (List ℕ)) (Vec Item Global)) (w : Option (Vec Item Global)) → get_by (λ k. name_cmp q k.now) n ≡ (if bytes_eq name q then w else get_by (λ k. name_cmp q k.now) m)
    → items_of q n ≡ (if bytes_eq name q then option_map_or (λ g. g.items) w [] else items_of q m)
items_after name q m n w e = ap (λ o. option_map_or (λ g. g.items) o []) e ∙ by (bytes_eq name q)
  where
    by : (b : Bool) → option_map_or (λ g. g.items) (if b then w else get_by (λ k. name_cmp q k.now) m) [] ≡ (if b then option_map_or (λ g. g.items) w [] else items_of q m)
    by true = refl
    by false = refl

-- one more item in the group of a name
pub group_grows : (name q : List ℕ) (old middle new : BTreeMap (Bor (List ℕ)) (Vec Item Global)) (group : List Item) (x : Item) → items_of q new ≡ (if bytes_eq name q then group else items_of q middle)
    → items_of q middle ≡ (if bytes_eq name q then [] else items_of q old) → group ≡ items_of name old ++ x ∷ [] → items_of q new ≡ (if bytes_eq q name then items_of q old ++ x ∷ [] else items_of q old)
group_grows name q old middle new group x later before is =
    later ∙ ap₂ (λ g m. if bytes_eq name q then g else m) is before ∙ by (bytes_eq name q) refl ∙ ap (λ b. if b then items_of q old ++ x ∷ [] else items_of q old) (bytes_turn name q)
  where
    by : (b : Bool) → bytes_eq name q ≡ b → (if b then items_of name old ++ x ∷ [] else (if b then [] else items_of q old)) ≡ (if b then items_of q old ++ x ∷ [] else items_of q old)
    by true e = ap (λ y. items_of y old ++ x ∷ []) ((bytes_eq-Decides name q).0 e)
    by false e = refl
