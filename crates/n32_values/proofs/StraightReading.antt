-- The grammar's loops, a turn at a time, and what is read straight is what is read by way of `serde_json`.
use Rattle.std.proofs.Common.{◌≡◌, ℕ, ◌-◌, ◌<◌, ◌≤◌, List, [], ◌∷◌, ◌++◌, length, Option, Some, None, IsUtf8, option_map, option_and_then, Ordering, Less, Equal, Greater, refl, ap, ◌∙◌}
use Rattle.json.specs.Token.{Token}
use Rattle.json.specs.Lex.{tokens}
use Rattle.json.specs.Json as json
use Rattle.json.specs.Json.{Parse, parse_map, after_end_array, read_key, if_last}
use Rattle.json.proofs.Grammar.{items_end, items_more, members_end, members_more}
use Rattle.std.specs.Ordering.{match_ordering}
use Rattle.serde_json.specs.Data as data_of
use Rattle.serde_json.specs.Find.{as_integer}
use Rattle.serde_json.specs.Read.{number_of, of_json, of_items, of_members, converted, read}
use Rattle.spec_documents.specs.Reading.{tree_from, trees_from, members_from, ReadsTo}
use Rattle.spec_documents.specs.Tree.{Tree, items, members, whole, Trees, no_items, item, trees, Members, no_members, member, name_cmp, put_member}
use Rattle.n32_values.specs.Direct.{tree_json, trees_json, members_json}

abbrev pick : {A : Type 0} → A → Option A → A
pick d None = d
pick d (Some a) = a

found : {A B : Type 0} (a : A) (r s : List Token) (x : Option B) (b : B) → option_map {U = B × List Token} (λ y. (y, r)) x ≡ Some (b, s) → (r ≡ s) × (x ≡ Some b)
found a r s None b e = absurd (cc)
found a r s (Some y) b e = let same = ap (pick (y, r)) e in (ap (λ p. p.1) same, ap (λ p. Some p.0) same)

pub converted_some : {A B : Type 0} (f : A → Option B) (o : Option (A × List Token)) (b : B) (r : List Token) → converted f o ≡ Some (b, r) → (a : A) × (o ≡ Some (a, r)) × (f a ≡ Some b)
converted_some f None b r e = absurd (cc)
converted_some f (Some p) b r e = let both = found p.0 p.1 r (f p.0) b e in (p.0, ap (λ s. Some (p.0, s)) both.0, both.1)

twice : {A B : Type 0} (g : A → B) (r : List Token) (x : Option A) → option_map (λ b. (b, r)) (option_map g x) ≡ parse_map g (option_map (λ a. (a, r)) x)
twice g r None = refl
twice g r (Some a) = refl

pub converted-array : (o : Option (json.Items × List Token)) → converted tree_json (parse_map json.array o) ≡ parse_map items (converted trees_json o)
converted-array None = refl
converted-array (Some p) = twice items p.1 (trees_json p.0)

pub converted-object : (o : Option (json.Members × List Token)) → converted tree_json (parse_map json.object o) ≡ parse_map members (converted (λ ms. members_json ms no_members) o)
converted-object None = refl
converted-object (Some p) = twice members p.1 (members_json p.0 no_members)

with_item : (j : json.Json) (t : Tree) → tree_json j ≡ Some t → (o : Option (json.Items × List Token)) → converted trees_json (parse_map (json.item j) o) ≡ parse_map (item t) (converted trees_json o)
with_item j t e None = refl
with_item j t e (Some p) = rw e (twice (item t) p.1 (trees_json p.0))

with_member : (k : List ℕ) (j : json.Json) (t : Tree) (old : Members) → tree_json j ≡ Some t → (o : Option (json.Members × List Token))
    → converted (λ ms. members_json ms old) (parse_map (json.member k j) o) ≡ converted (λ ms. members_json ms (put_member k t old)) o
with_member k j t old e None = refl
with_member k j t old e (Some p) = rw e

module _ (p : Parse json.Json) where
  pub item_read : (n : ℕ) (ts r : List Token) (t : Tree) → 0 < n → after_end_array ts ≡ None → converted tree_json (p ts) ≡ Some (t, r)
      → converted trees_json (json.items p n ts) ≡ parse_map (item t) (converted trees_json (json.items p (n - 1) r))
  item_read n ts r t some going e = let j = converted_some tree_json (p ts) t r e in ap (converted trees_json) (items_more p n ts r j.0 some going j.1) ∙ with_item j.0 t j.2 _

  pub items_over : (n : ℕ) (ts r : List Token) → length ts ≤ n → after_end_array ts ≡ Some r → converted trees_json (json.items p n ts) ≡ Some (no_items, r)
  items_over n ts r enough e = ap (converted trees_json) (items_end p n ts r enough e)

  pub member_read : (old : Members) (n : ℕ) (k : List ℕ) (ts s r : List Token) (t : Tree) → 0 < n → read_key ts ≡ Some (Some k, s) → converted tree_json (p s) ≡ Some (t, r)
      → converted (λ ms. members_json ms old) (json.members p n ts) ≡ converted (λ ms. members_json ms (put_member k t old)) (json.members p (n - 1) r)
  member_read old n k ts s r t some key e =
      let j = converted_some tree_json (p s) t r e in
      ap (converted (λ ms. members_json ms old)) (members_more p n k ts s r j.0 some key j.1) ∙ with_member k j.0 t old j.2 _

  pub members_over : (old : Members) (n : ℕ) (ts r : List Token) → length ts ≤ n → read_key ts ≡ Some (None, r) → converted (λ ms. members_json ms old) (json.members p n ts) ≡ Some (old, r)
  members_over old n ts r enough e = ap (converted (λ ms. members_json ms old)) (members_end p n ts r enough e)

-- ---- a list that grows at its end

abbrev pub trees_before : List Tree → Trees → Trees
trees_before [] rest = rest
trees_before (t ∷ ts) rest = item t (trees_before ts rest)

pub trees_before-no_items : (ts : List Tree) → trees_before ts no_items ≡ trees ts
trees_before-no_items [] = refl
trees_before-no_items (t ∷ ts) = ap (item t) (trees_before-no_items ts)

trees_push : (ts : List Tree) (t : Tree) (rest : Trees) → trees_before ts (item t rest) ≡ trees_before (ts ++ t ∷ []) rest
trees_push [] t rest = refl
trees_push (u ∷ ts) t rest = ap (item u) (trees_push ts t rest)

pub one_more_tree : (ts : List Tree) (t : Tree) (r : Option (Trees × List Token)) → parse_map (trees_before ts) (parse_map (item t) r) ≡ parse_map (trees_before (ts ++ t ∷ [])) r
one_more_tree ts t None = refl
one_more_tree ts t (Some p) = ap (λ ds. Some (ds, p.1)) (trees_push ts t p.0)

pub none_before : (r : Option (Trees × List Token)) → r ≡ parse_map (λ a. a) r
none_before None = refl
none_before (Some p) = refl

-- ---- by way of the values of `serde_json`

pub and_then_some : {A B : Type 0} (f : A → Option B) (o : Option A) (b : B) → option_and_then f o ≡ Some b → (a : A) × (o ≡ Some a) × (f a ≡ Some b)
and_then_some f None b e = absurd (cc)
and_then_some f (Some a) b e = (a, refl, e)

map_some : {A B : Type 0} (f : A → B) (o : Option A) (b : B) → option_map f o ≡ Some b → (a : A) × (o ≡ Some a) × (f a ≡ b)
map_some f None b e = absurd (cc)
map_some f (Some a) b e = (a, refl, ap (pick (f a)) e)

numbers_same : (o : Option data_of.Num) → option_and_then tree_from (option_map data_of.number o) ≡ option_map whole (option_and_then as_integer o)
numbers_same None = refl
numbers_same (Some n) = refl

arrays_same : (o : Option data_of.Items) → option_and_then tree_from (option_map data_of.array o) ≡ option_map items (option_and_then trees_from o)
arrays_same None = refl
arrays_same (Some ds) = refl

objects_same : (o : Option data_of.Members) → option_and_then tree_from (option_map data_of.object o) ≡ option_map members (option_and_then members_from o)
objects_same None = refl
objects_same (Some ds) = refl

put_by : (o : Ordering) (k l : List ℕ) (d e : data_of.Data) (t u : Tree) (ds puts : data_of.Members) (ms more : Members) → tree_from d ≡ Some t → tree_from e ≡ Some u → members_from ds ≡ Some ms → members_from puts ≡ Some more
    → members_from (match_ordering o (data_of.member k d (data_of.member l e ds)) (data_of.member l d ds) (data_of.member l e puts)) ≡ Some (match_ordering o (member k t (member l u ms)) (member l t ms) (member l u more))
put_by Less k l d e t u ds puts ms more a b c x = rw (a, b, c) refl
put_by Equal k l d e t u ds puts ms more a b c x = rw (a, c) refl
put_by Greater k l d e t u ds puts ms more a b c x = rw (b, x) refl

put_same : (k : List ℕ) (d : data_of.Data) (t : Tree) (ds : data_of.Members) (ms : Members) → tree_from d ≡ Some t → members_from ds ≡ Some ms → members_from (data_of.put k d ds) ≡ Some (put_member k t ms)
put_same k d t data_of.no_members ms is h = let same : no_members ≡ ms = ap (pick no_members) h in rw is (ap (λ x. Some (put_member k t x)) same)
put_same k d t (data_of.member l e ds) ms is h =
    let first = and_then_some (λ x. option_map (member l x) (members_from ds)) (tree_from e) ms h in
    let rest = map_some (member l first.0) (members_from ds) ms first.2 in
    put_by (name_cmp k l) k l d e t first.0 ds (data_of.put k d ds) rest.0 (put_member k t rest.0) is first.1 rest.1 (put_same k d t ds rest.0 is rest.1) ∙ ap (λ x. Some (put_member k t x)) rest.2

mutual
  pub tree_same : (j : json.Json) (t : Tree) → tree_json j ≡ Some t → option_and_then tree_from (of_json j) ≡ Some t
  tree_same json.null t h = h
  tree_same (json.boolean b) t h = h
  tree_same (json.number s) t h = numbers_same (number_of s) ∙ h
  tree_same (json.string s) t h = h
  tree_same (json.array js) t h =
      let some = map_some items (trees_json js) t h in
      arrays_same (of_items js) ∙ ap (option_map items) (items_same js some.0 some.1) ∙ ap Some some.2
  tree_same (json.object ms) t h =
      let some = map_some members (members_json ms no_members) t h in
      objects_same (of_members ms data_of.no_members) ∙ ap (option_map members) (members_same ms data_of.no_members no_members some.0 refl some.1) ∙ ap Some some.2

  items_same : (js : json.Items) (ts : Trees) → trees_json js ≡ Some ts → option_and_then trees_from (of_items js) ≡ Some ts
  items_same json.no_items ts h = h
  items_same (json.item j js) ts h =
      let first = and_then_some (λ x. option_map (item x) (trees_json js)) (tree_json j) ts h in
      let rest = map_some (item first.0) (trees_json js) ts first.2 in
      let d = and_then_some tree_from (of_json j) first.0 (tree_same j first.0 first.1) in
      let ds = and_then_some trees_from (of_items js) rest.0 (items_same js rest.0 rest.1) in
      rw (d.1, ds.1, d.2, ds.2) (ap Some rest.2)

  members_same : (ms : json.Members) (ds : data_of.Members) (old all : Members) → members_from ds ≡ Some old → members_json ms old ≡ Some all → option_and_then members_from (of_members ms ds) ≡ Some all
  members_same json.no_members ds old all is h = is ∙ h
  members_same (json.member k j ms) ds old all is h =
      let first = and_then_some (λ x. members_json ms (put_member k x old)) (tree_json j) all h in
      let d = and_then_some tree_from (of_json j) first.0 (tree_same j first.0 first.1) in
      rw d.1 (members_same ms (data_of.put k d.0 ds) (put_member k first.0 old) all (put_same k d.0 first.0 ds old d.2 is) first.2)

pub whole_same : (text : List ℕ) (t : Tree) → converted tree_json (json.value 127 (tokens text)) ≡ Some (t, []) → option_and_then tree_from (read text) ≡ Some t
whole_same text t e =
    let j = converted_some tree_json (json.value 127 (tokens text)) t [] e in
    ap (λ o. option_and_then tree_from (option_and_then of_json (option_and_then (λ p. if_last p.0 p.1) o))) j.1 ∙ tree_same j.0 t j.2

pub reads_to : (bytes : List ℕ) (t : Tree) → IsUtf8 bytes → option_and_then tree_from (read bytes) ≡ Some t → ReadsTo bytes t
reads_to bytes t valid e =
    let d = and_then_some tree_from (read bytes) t e in
    record { reading = d.0; has = record { utf8 = valid; value = d.1 }; tree = d.2 }
