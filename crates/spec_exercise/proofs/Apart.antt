-- No line of the script has a newline within, and none is blank.
use Rattle.std.proofs.Common.{◌≡◌, ◌≢◌, ℕ, zero, suc, ◌/◌, ◌%◌, ◌==◌, Bool, true, false, cond, not, List, [], ◌∷◌, ◌++◌, map, flat_map, refl, sym, ap, subst, ◌∙◌, append_assoc, arith, inl, inr, pos, negsuc}
use Rattle.std.specs.List.{AllByRecursion, onto_first, list_all}
use Rattle.std.specs.Fmt.{digits, digits_onto, digit_glyph, decimal}
use Rattle.std.proofs.lemmas.Bool.{cases_lt, ne_eqb, and_parts}
use Rattle.json.specs.Print.{escape_byte, escape, quoted}
use Rattle.json.proofs.Printed.Strings.{escape_byte_plain}
use Rattle.spec_documents.proofs.Below.{all_below, all_below-at}
use Rattle.spec_documents.specs.Tree.{Tree, null, truth, whole, words, items, members, Trees, no_items, item, Members, no_members, member}
use Rattle.spec_documents.specs.Compact.{comma_if, compact_text, items_text, members_text}
use Rattle.spec_documents.specs.Lines.{lines_of, is_blank}
use Rattle.spec_exercise.specs.Script.{Line, AddNode, AddContext, AddKeys, Send, Pass, Deliver, script}
use Rattle.spec_exercise.specs.Documents.{line_tree, line_text, lines}
use Rattle.spec_exercise.specs.Texts.{script_text}

-- no newline in it
abbrev IsPlain : List ℕ → Type 0
IsPlain bytes = AllByRecursion (λ byte. byte ≢ 10) bytes

plain_append : (xs ys : List ℕ) → IsPlain xs → IsPlain ys → IsPlain (xs ++ ys)
plain_append [] ys h k = k
plain_append (x ∷ xs) ys h k = (h.0, plain_append xs ys h.1 k)

abbrev is_plain : List ℕ → Bool
is_plain bytes = list_all (λ byte. not (byte == 10)) bytes

not_ten : (x : ℕ) → not (x == 10) ≡ true → x ≢ 10
not_ten x h e = let t : not (10 == 10) ≡ true = subst (λ (n : ℕ). not (n == 10) ≡ true) e h in cc

plain_told : (bytes : List ℕ) → is_plain bytes ≡ true → IsPlain bytes
plain_told [] h = tt
plain_told (x ∷ xs) h = let p = and_parts _ _ h in (not_ten x p.0, plain_told xs p.1)

-- ---- texts

low_escapes : all_below 128 (λ x. is_plain (escape_byte x)) ≡ true
unfolding all_below escape_byte
low_escapes = refl

escape_plain : (x : ℕ) → IsPlain (escape_byte x)
escape_plain x = elim (cases_lt x 128) [
  | inl low ↦ plain_told (escape_byte x) (all_below-at 128 (λ y. is_plain (escape_byte y)) low_escapes x low)
  | inr high ↦
      let same : escape_byte x ≡ x ∷ [] = escape_byte_plain x (λ e. omega arith) (λ e. omega arith) (omega arith) in
      let one : IsPlain (x ∷ []) = (λ e. omega (arith, e, high), tt) in
      subst IsPlain (sym same) one
]

escapes_plain : (s : List ℕ) → IsPlain (escape s)
escapes_plain [] = tt
escapes_plain (x ∷ xs) = plain_append (escape_byte x) (escape xs) (escape_plain x) (escapes_plain xs)

quoted_plain : (s : List ℕ) → IsPlain (quoted s)
quoted_plain s = (λ e. cc, plain_append (escape s) (34 ∷ []) (escapes_plain s) (λ e. cc, tt))

-- ---- numbers

low_digits : all_below 10 (λ d. not (digit_glyph false d == 10)) ≡ true
unfolding all_below
low_digits = refl

glyph_plain : (n : ℕ) → digit_glyph false (n % 10) ≢ 10
glyph_plain n = not_ten (digit_glyph false (n % 10)) (all_below-at 10 (λ d. not (digit_glyph false d == 10)) low_digits (n % 10) (omega arith))

choice_plain : (b : Bool) (xs ys : List ℕ) → IsPlain xs → IsPlain ys → IsPlain (cond b xs ys)
choice_plain true xs ys h k = h
choice_plain false xs ys h k = k

onto_plain : (k n : ℕ) (acc : List ℕ) → IsPlain acc → IsPlain (digits_onto k 10 false n acc)
onto_plain zero n acc h = h
onto_plain (suc k) n acc h =
    let more : IsPlain (digit_glyph false (n % 10) ∷ acc) = (glyph_plain n, h) in
    choice_plain (n / 10 == 0) (digit_glyph false (n % 10) ∷ acc) (digits_onto k 10 false (n / 10) (digit_glyph false (n % 10) ∷ acc)) more (onto_plain k (n / 10) (digit_glyph false (n % 10) ∷ acc) more)

decimal_plain : (n : ℕ) → IsPlain (decimal n)
unfolding digits
decimal_plain n = onto_plain 64 n [] tt

-- ---- documents

comma_plain : (later : Bool) → IsPlain (comma_if later)
comma_plain true = (λ e. cc, tt)
comma_plain false = tt

mutual
  text_plain : (t : Tree) → IsPlain (compact_text t)
  text_plain null = plain_told (compact_text null) refl
  text_plain (truth true) = plain_told (compact_text (truth true)) refl
  text_plain (truth false) = plain_told (compact_text (truth false)) refl
  text_plain (whole (pos n)) = decimal_plain n
  text_plain (whole (negsuc n)) = (λ e. cc, decimal_plain (suc n))
  text_plain (words s) = quoted_plain s
  text_plain (items ts) = (λ e. cc, items_plain false ts)
  text_plain (members ms) = (λ e. cc, members_plain false ms)

  items_plain : (later : Bool) (ts : Trees) → IsPlain (items_text later ts)
  items_plain later no_items = (λ e. cc, tt)
  items_plain later (item t ts) = plain_append (comma_if later) (compact_text t ++ items_text true ts) (comma_plain later) (plain_append (compact_text t) (items_text true ts) (text_plain t) (items_plain true ts))

  members_plain : (later : Bool) (ms : Members) → IsPlain (members_text later ms)
  members_plain later no_members = (λ e. cc, tt)
  members_plain later (member k t ms) =
      plain_append (comma_if later) (quoted k ++ 58 ∷ (compact_text t ++ members_text true ms)) (comma_plain later)
      (plain_append (quoted k) (58 ∷ (compact_text t ++ members_text true ms)) (quoted_plain k)
      (λ e. cc, plain_append (compact_text t) (members_text true ms) (text_plain t) (members_plain true ms)))

-- ---- lines

-- a line that ends, and more
ends_line : (line rest : List ℕ) → IsPlain line → lines_of (line ++ 10 ∷ rest) ≡ line ∷ lines_of rest
ends_line [] rest plain = refl
ends_line (x ∷ xs) rest plain =
    let other : (x == 10) ≡ false = ne_eqb x 10 plain.0 in
    rw other (ap (λ (ls : List (List ℕ)). onto_first x ls) (ends_line xs rest plain.1))

apart : (ls : List (List ℕ)) → AllByRecursion IsPlain ls → lines_of (flat_map (λ line. line ++ 10 ∷ []) ls) ≡ ls
apart [] plain = refl
apart (l ∷ ls) plain =
    ap lines_of (append_assoc l (10 ∷ []) (flat_map (λ line. line ++ 10 ∷ []) ls))
    ∙ (ends_line l (flat_map (λ line. line ++ 10 ∷ []) ls) plain.0 ∙ ap (λ (rest : List (List ℕ)). l ∷ rest) (apart ls plain.1))

each_plain : (ls : List Line) → AllByRecursion IsPlain (map line_text ls)
each_plain [] = tt
each_plain (l ∷ ls) = (text_plain (line_tree l), each_plain ls)

pub lines_apart : (n : ℕ) → lines_of (script_text n) ≡ lines n
lines_apart n = apart (lines n) (each_plain (script n))

-- ---- each line speaks

speaks : (line : Line) → is_blank (line_text line) ≡ false
speaks (AddNode sepp) = refl
speaks (AddContext sepp) = refl
speaks (AddKeys sepp) = refl
speaks (Send turn drawn) = refl
speaks (Pass wire drawn) = refl
speaks (Deliver wire) = refl

each_speaks : (ls : List Line) → AllByRecursion (λ line. is_blank line ≡ false) (map line_text ls)
each_speaks [] = tt
each_speaks (l ∷ ls) = (speaks l, each_speaks ls)

pub lines_speak : (n : ℕ) → AllByRecursion (λ line. is_blank line ≡ false) (lines n)
lines_speak n = each_speaks (script n)
