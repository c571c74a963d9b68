-- What is written for a document is read to the same tree.
use Rattle.std.proofs.Common.{◌≡◌, ℕ, ◌<◌, ◌^◌, ℤ, pos, negsuc, suc, List, [], ◌∷◌, ◌++◌, Option, Some, option_map, option_and_then, Greater, nat_cmp, ◌≤◌, ◌-◌, ◌⊎◌, inl, inr, ⊎_elim, Bool, true, false, decimal, subst, append-nil, IsUtf8, refl, sym, ap, ◌∙◌, arith}
use Rattle.std.specs.Cmp.Lexicographic.{slice_cmp}
use Rattle.std.specs.Ordering.{ordering_reverse}
use Rattle.std.proofs.lemmas.Int.{ints}
use Rattle.std.proofs.lemmas.Bool.{cases_lt}
use Rattle.std.proofs.lemmas.Cmp.{nat_list_cmp_total}
use Rattle.std.proofs.lemmas.Str.{IsUtf8-append, IsUtf8-from_ascii}
use Rattle.std.proofs.lemmas.Fmt.{IsAscii-decimal}
use Rattle.std.specs.Fmt.{signed_decimal, digits}
use Rattle.json.specs.Json as plain
use Rattle.json.specs.Token.{Token}
use Rattle.json.specs.Lex.{tokens}
use Rattle.json.specs.Tree as written
use Rattle.json.specs.Print.{quoted, IsNumber, ArePrintable}
use Rattle.json.specs.Word.{after_number}
use Rattle.json.proofs.Printed.Tokens.{tokens-print}
use Rattle.json.proofs.Printed.Trees.{value-json_tokens}
use Rattle.json.proofs.Printed.Decimals.{IsNumber-decimal, IsNumber-signed_decimal}
use Rattle.json.proofs.Printed.Utf8.{IsUtf8-are_ascii, IsUtf8-quoted, IsUtf8-boolean}
use Rattle.serde_json.proofs.Texts.{print-outline}
use Rattle.serde_json.specs.Data as json
use Rattle.serde_json.specs.Find.{as_integer}
use Rattle.serde_json.specs.Read.{of_json, of_items, of_members, number_of, read, max_depth}
use Rattle.serde_json.specs.Written.{outline, items_outline, members_outline, number_text, comma_if, compact_text, items_text, members_text}
use Rattle.serde_json.proofs.Numbers.{number_of-decimal, number_of-negative}
use Rattle.spec_documents.specs.Tree.{Tree, null, truth, whole, words, items, members, Trees, no_items, item, Members, no_members, member, depth, items_depth, members_depth}
use Rattle.spec_documents.specs.Fields.{field_list, AllAfter, AreAscending}
use Rattle.spec_documents.specs.Compact as text
use Rattle.spec_documents.proofs.Texts.{compact_text-data}
use Rattle.spec_documents.specs.Whole.{IsWhole}
use Rattle.spec_documents.specs.Reading.{tree_from, trees_from, members_from, ReadsTo}
use Rattle.spec_documents.specs.Data.{number_from, data_of, items_data, members_data}
use Rattle.spec_documents.specs.Document.{IsDocument, ItemsAreDocuments, MembersAreDocuments}
use Rattle.spec_documents.specs.Tokens.{tree_tokens, items_tokens, members_tokens}

integer_again : (z : ℤ) → as_integer (number_from z) ≡ Some z
integer_again (pos n) = refl
integer_again (negsuc n) = refl

mutual
  pub tree_again : (t : Tree) → tree_from (data_of t) ≡ Some t
  tree_again null = refl
  tree_again (truth b) = refl
  tree_again (whole z) = ap (option_map whole) (integer_again z)
  tree_again (words s) = refl
  tree_again (items ts) = ap (option_map items) (trees_again ts)
  tree_again (members fs) = ap (option_map members) (members_again fs)

  trees_again : (ts : Trees) → trees_from (items_data ts) ≡ Some ts
  trees_again no_items = refl
  trees_again (item t ts) = rw (tree_again t, trees_again ts)

  members_again : (fs : Members) → members_from (members_data fs) ≡ Some fs
  members_again no_members = refl
  members_again (member k t fs) = rw (tree_again t, members_again fs)

mutual
  pub data_depth : (t : Tree) → json.depth (data_of t) ≡ depth t
  data_depth null = refl
  data_depth (truth b) = refl
  data_depth (whole z) = refl
  data_depth (words s) = refl
  data_depth (items ts) = ap suc (items_data_depth ts)
  data_depth (members fs) = ap suc (members_data_depth fs)

  items_data_depth : (ts : Trees) → json.items_depth (items_data ts) ≡ items_depth ts
  items_data_depth no_items = refl
  items_data_depth (item t ts) = rw (data_depth t, items_data_depth ts)

  members_data_depth : (fs : Members) → json.members_depth (members_data fs) ≡ members_depth fs
  members_data_depth no_members = refl
  members_data_depth (member k t fs) = rw (data_depth t, members_data_depth fs)

pub pos_within : (n : ℕ) → IsWhole (pos n) → n < 2 ^ 64
pos_within n h = let le = h.below in omega (arith, ints)

pub negsuc_within : (n : ℕ) → IsWhole (negsuc n) → n < 2 ^ 63
negsuc_within n h = let le = h.above in omega (arith, ints)

number_again : (z : ℤ) → IsWhole z → number_of (number_text (number_from z)) ≡ Some (number_from z)
number_again (pos n) h = number_of-decimal n (pos_within n h)
number_again (negsuc n) h = number_of-negative n (negsuc_within n h)

-- ---- members go in one after another, each at the end

abbrev add : json.Members → List ℕ → json.Data → json.Members
add json.no_members k d = json.member k d json.no_members
add (json.member l e ms) k d = json.member l e (add ms k d)

abbrev join : json.Members → json.Members → json.Members
join json.no_members ns = ns
join (json.member l e ms) ns = json.member l e (join ms ns)

join_none : (ms : json.Members) → join ms json.no_members ≡ ms
join_none json.no_members = refl
join_none (json.member l e ms) = ap (json.member l e) (join_none ms)

join_add : (ms : json.Members) (k : List ℕ) (d : json.Data) (ns : json.Members) → join (add ms k d) ns ≡ join ms (json.member k d ns)
join_add json.no_members k d ns = refl
join_add (json.member l e ms) k d ns = ap (json.member l e) (join_add ms k d ns)

-- a name comes after those of the members
abbrev IsAbove : List ℕ → json.Members → Type 0
IsAbove k json.no_members = Unit {0}
IsAbove k (json.member l e ms) = (slice_cmp nat_cmp k l ≡ Greater) × IsAbove k ms

put_last : (ms : json.Members) (k : List ℕ) (d : json.Data) → IsAbove k ms → json.put k d ms ≡ add ms k d
put_last json.no_members k d h = refl
put_last (json.member l e ms) k d h = rw h.0 (ap (json.member l e) (put_last ms k d h.1))

above_add : (ms : json.Members) (k : List ℕ) (d : json.Data) (l : List ℕ) → IsAbove l ms → slice_cmp nat_cmp l k ≡ Greater → IsAbove l (add ms k d)
above_add json.no_members k d l h gt = (gt, tt)
above_add (json.member m e ms) k d l h gt = (h.0, above_add ms k d l h.1 gt)

abbrev AreAbove : Members → json.Members → Type 0
AreAbove no_members ms = Unit {0}
AreAbove (member k t fs) ms = IsAbove k ms × AreAbove fs ms

all_above : (fs : Members) (ms : json.Members) (k : List ℕ) (d : json.Data) → AreAbove fs ms → AllAfter k (field_list fs) → AreAbove fs (add ms k d)
all_above no_members ms k d h after = tt
all_above (member l t fs) ms k d h after = (above_add ms k d l h.0 (nat_list_cmp_total.antisymm l k ∙ ap ordering_reverse after.0), all_above fs ms k d h.1 after.1)

none_above : (fs : Members) → AreAbove fs json.no_members
none_above no_members = tt
none_above (member k t fs) = (tt, none_above fs)

mutual
  pub data_again : (t : Tree) → IsDocument t → of_json (outline (data_of t)) ≡ Some (data_of t)
  data_again null h = refl
  data_again (truth b) h = refl
  data_again (whole z) h = ap (option_map json.number) (number_again z h)
  data_again (words s) h = refl
  data_again (items ts) h = ap (option_map json.array) (items_data_again ts h)
  data_again (members fs) h = ap (option_map json.object) (members_data_again fs json.no_members h.1 h.0 (none_above fs))

  items_data_again : (ts : Trees) → ItemsAreDocuments ts → of_items (items_outline (items_data ts)) ≡ Some (items_data ts)
  items_data_again no_items h = refl
  items_data_again (item t ts) h = rw (data_again t h.0, items_data_again ts h.1)

  members_data_again : (fs : Members) (done : json.Members) → MembersAreDocuments fs → AreAscending (field_list fs) → AreAbove fs done → of_members (members_outline (members_data fs)) done ≡ Some (join done (members_data fs))
  members_data_again no_members done h up above = ap Some (sym (join_none done))
  members_data_again (member k t fs) done h up above =
      rw (data_again t h.1, put_last done k (data_of t) above.0)
      (members_data_again fs (add done k (data_of t)) h.2 up.1 (all_above fs done k (data_of t) above.1 up.0) ∙ ap Some (join_add done k (data_of t) (members_data fs)))

-- ---- the tokens are printed as they are read

printable_append : (xs ys : List Token) → ArePrintable xs → ArePrintable ys → ArePrintable (xs ++ ys)
unfolding ArePrintable
printable_append [] ys h k = k
printable_append (x ∷ xs) ys h k = (h.0, printable_append xs ys h.1 k)

least : IsNumber (signed_decimal (negsuc 9223372036854775807))
unfolding after_number digits
least = refl

negative_is : (n : ℕ) → n < 2 ^ 63 → (n < 2 ^ 63 - 1) ⊎ (n ≡ 2 ^ 63 - 1) → IsNumber (signed_decimal (negsuc n))
negative_is n h (inl below) = IsNumber-signed_decimal (negsuc n) (omega arith)
negative_is n h (inr same) = let P : ℕ → Type 0 = λ m. IsNumber (signed_decimal (negsuc m)) in subst P (sym same) least

last : (n : ℕ) → n < 2 ^ 63 → (n < 2 ^ 63 - 1) ⊎ (n ≡ 2 ^ 63 - 1)
last n lt = ⊎_elim inl (λ (le : 2 ^ 63 - 1 ≤ n). inr (omega arith)) (cases_lt n (2 ^ 63 - 1))

number_is : (z : ℤ) → IsWhole z → IsNumber (number_text (number_from z))
number_is (pos n) h = IsNumber-decimal n (pos_within n h)
number_is (negsuc n) h = let lt = negsuc_within n h in negative_is n lt (last n lt)

mutual
  unfolding ArePrintable

  pub printable : (t : Tree) → IsDocument t → ArePrintable (tree_tokens t)
  printable null h = (tt, tt)
  printable (truth b) h = (tt, tt)
  printable (whole z) h = (number_is z h, tt)
  printable (words s) h = (tt, tt)
  printable (items ts) h = (tt, items_printable ts h)
  printable (members fs) h = (tt, members_printable fs h.1)

  items_printable : (ts : Trees) → ItemsAreDocuments ts → ArePrintable (items_tokens ts)
  items_printable no_items h = (tt, tt)
  items_printable (item t ts) h = printable_append (tree_tokens t) (items_tokens ts) (printable t h.0) (items_printable ts h.1)

  members_printable : (fs : Members) → MembersAreDocuments fs → ArePrintable (members_tokens fs)
  members_printable no_members h = (tt, tt)
  members_printable (member k t fs) h = (tt, printable_append (tree_tokens t) (members_tokens fs) (printable t h.1) (members_printable fs h.2))

pub text_tokens : (t : Tree) → IsDocument t → tokens (compact_text (data_of t)) ≡ tree_tokens t
text_tokens t h = ap tokens (sym (print-outline (data_of t))) ∙ tokens-print (tree_tokens t) (printable t h)

abbrev read_whole : Option (plain.Json × List Token) → Option json.Data
read_whole o = option_and_then of_json (option_and_then (λ p. plain.if_last p.0 p.1) o)

mutual
  outline_depth : (t : Tree) → written.depth (outline (data_of t)) ≡ depth t
  outline_depth null = refl
  outline_depth (truth b) = refl
  outline_depth (whole z) = refl
  outline_depth (words s) = refl
  outline_depth (items ts) = ap suc (items_outline_depth ts)
  outline_depth (members fs) = ap suc (members_outline_depth fs)

  items_outline_depth : (ts : Trees) → written.items_depth (items_outline (items_data ts)) ≡ items_depth ts
  items_outline_depth no_items = refl
  items_outline_depth (item t ts) = rw (outline_depth t, items_outline_depth ts)

  members_outline_depth : (fs : Members) → written.members_depth (members_outline (members_data fs)) ≡ members_depth fs
  members_outline_depth no_members = refl
  members_outline_depth (member k t fs) = rw (outline_depth t, members_outline_depth fs)

pub text_read : (t : Tree) → IsDocument t → depth t ≤ 127 → read (compact_text (data_of t)) ≡ Some (data_of t)
text_read t h shallow =
    ap read_whole
    (ap (plain.value max_depth) (text_tokens t h ∙ sym (append-nil (tree_tokens t))) ∙ value-json_tokens (outline (data_of t)) max_depth [] (omega (arith, outline_depth t)))
    ∙ data_again t h

-- ---- the text is UTF-8

integer_utf8 : (z : ℤ) → IsWhole z → IsUtf8 (number_text (number_from z))
integer_utf8 (pos n) h = IsUtf8-from_ascii _ (IsAscii-decimal n (pos_within n h))
integer_utf8 (negsuc n) h = let lt = negsuc_within n h in IsUtf8-append (45 ∷ []) (decimal (suc n)) (IsUtf8-are_ascii (45 ∷ []) refl) (IsUtf8-from_ascii _ (IsAscii-decimal (suc n) (omega arith)))

comma_utf8 : (later : Bool) → IsUtf8 (comma_if later)
comma_utf8 true = IsUtf8-are_ascii (44 ∷ []) refl
comma_utf8 false = IsUtf8-are_ascii [] refl

mutual
  text_utf8 : (t : Tree) → IsDocument t → IsUtf8 (compact_text (data_of t))
  text_utf8 null h = IsUtf8-are_ascii _ refl
  text_utf8 (truth b) h = IsUtf8-boolean b
  text_utf8 (whole z) h = integer_utf8 z h
  text_utf8 (words s) h = IsUtf8-quoted s h
  text_utf8 (items ts) h = IsUtf8-append (91 ∷ []) _ (IsUtf8-are_ascii (91 ∷ []) refl) (items_utf8 false ts h)
  text_utf8 (members fs) h = IsUtf8-append (123 ∷ []) _ (IsUtf8-are_ascii (123 ∷ []) refl) (members_utf8 false fs h.1)

  items_utf8 : (later : Bool) (ts : Trees) → ItemsAreDocuments ts → IsUtf8 (items_text later (items_data ts))
  items_utf8 later no_items h = IsUtf8-are_ascii (93 ∷ []) refl
  items_utf8 later (item t ts) h = IsUtf8-append (comma_if later) _ (comma_utf8 later) (IsUtf8-append _ _ (text_utf8 t h.0) (items_utf8 true ts h.1))

  members_utf8 : (later : Bool) (fs : Members) → MembersAreDocuments fs → IsUtf8 (members_text later (members_data fs))
  members_utf8 later no_members h = IsUtf8-are_ascii (125 ∷ []) refl
  members_utf8 later (member k t fs) h =
      IsUtf8-append (comma_if later) _ (comma_utf8 later)
      (IsUtf8-append (quoted k) _ (IsUtf8-quoted k h.0) (IsUtf8-append (58 ∷ []) _ (IsUtf8-are_ascii (58 ∷ []) refl) (IsUtf8-append _ _ (text_utf8 t h.1) (members_utf8 true fs h.2))))

-- what is written for a document is read to it
pub reads_back : (t : Tree) → IsDocument t → depth t ≤ 127 → ReadsTo (text.compact_text t) t
reads_back t h shallow = let P : List ℕ → Type 0 = λ b. ReadsTo b t in subst P (compact_text-data t) (record {
  reading = data_of t;
  has = record { utf8 = text_utf8 t h; value = text_read t h shallow };
  tree = tree_again t;
})
