-- A document with holes in place of what stood there is a document, and so is each value.
use Rattle.std.proofs.Common.{◌≡◌, ℕ, suc, ◌+◌, ◌<◌, ◌≤◌, ◌^◌, pos, List, [], ◌∷◌, ◌++◌, length, Bool, true, false, if◌then◌else◌, refl, length-append, arith}
use Rattle.std.proofs.lemmas.Int.{ints}
use Rattle.json.proofs.Printed.Utf8.{IsUtf8-are_ascii}
use Rattle.spec_documents.specs.Whole.{IsWhole}
use Rattle.spec_documents.specs.Tree.{Tree, null, truth, whole, words, items, members, Trees, no_items, item, Members, no_members, member, trees, depth, items_depth, members_depth}
use Rattle.spec_documents.specs.Fields.{field_list, AllAfter, AreAscending}
use Rattle.spec_documents.specs.Document.{IsDocument, ItemsAreDocuments, MembersAreDocuments}
use Rattle.spec_documents.specs.Place.{Pointer}
use Rattle.spec_documents.specs.Text.{index_text}
use Rattle.spec_documents.specs.Hole.{hole, mark}
use Rattle.spec_messages.specs.Policy.{outermost, outermost_items, outermost_members}
use Rattle.spec_messages.specs.Split.{hide, hide_items, hide_members}

-- ---- one hole

small_whole : (n : ℕ) → n < 2 ^ 64 → IsWhole (pos n)
small_whole n low = record { above = omega (arith, ints); below = omega (arith, ints) }

pub hole_document : (n : ℕ) → n < 2 ^ 64 → IsDocument (hole n)
hole_document n low = ((tt, tt), (IsUtf8-are_ascii mark refl, small_whole n low, tt))

-- ---- holes in a body: there are at most 1,024

either_hole : (b : Bool) (n : ℕ) (q : Pointer) (t u : Tree) (rest : List (Pointer × Tree)) → n + length (if b then (q, t) ∷ [] else rest) ≤ 1024 → (n + length rest ≤ 1024 → IsDocument u) → IsDocument (if b then hole n else u)
either_hole true n q t u rest few d = hole_document n (omega arith)
either_hole false n q t u rest few d = d few

names_stay : (k : List ℕ) (test : Pointer → Tree → Bool) (q : Pointer) (n : ℕ) (ms : Members) → AllAfter k (field_list ms) → AllAfter k (field_list (hide_members test q n ms))
names_stay k test q n no_members h = h
names_stay k test q n (member l t ms) h = (h.0, names_stay k test q (n + length (outermost test (q ++ l ∷ []) t)) ms h.1)

order_stays : (test : Pointer → Tree → Bool) (q : Pointer) (n : ℕ) (ms : Members) → AreAscending (field_list ms) → AreAscending (field_list (hide_members test q n ms))
order_stays test q n no_members h = h
order_stays test q n (member k t ms) h =
    (names_stay k test q (n + length (outermost test (q ++ k ∷ []) t)) ms h.0, order_stays test q (n + length (outermost test (q ++ k ∷ []) t)) ms h.1)

mutual
  pub hidden_document : (test : Pointer → Tree → Bool) (q : Pointer) (n : ℕ) (t : Tree) → IsDocument t → n + length (outermost test q t) ≤ 1024 → IsDocument (hide test q n t)
  hidden_document test q n null d few = either_hole (test q null) n q null null [] few (λ f. d)
  hidden_document test q n (truth b) d few = either_hole (test q (truth b)) n q (truth b) (truth b) [] few (λ f. d)
  hidden_document test q n (whole z) d few = either_hole (test q (whole z)) n q (whole z) (whole z) [] few (λ f. d)
  hidden_document test q n (words s) d few = either_hole (test q (words s)) n q (words s) (words s) [] few (λ f. d)
  hidden_document test q n (items ts) d few =
      either_hole (test q (items ts)) n q (items ts) (items (hide_items test q 0 n ts)) (outermost_items test q 0 ts) few (λ f. hidden_items test q 0 n ts d f)
  hidden_document test q n (members ms) d few =
      either_hole (test q (members ms)) n q (members ms) (members (hide_members test q n ms)) (outermost_members test q ms) few (λ f. (order_stays test q n ms d.0, hidden_members test q n ms d.1 f))

  hidden_items : (test : Pointer → Tree → Bool) (q : Pointer) (i n : ℕ) (ts : Trees) → ItemsAreDocuments ts → n + length (outermost_items test q i ts) ≤ 1024 → ItemsAreDocuments (hide_items test q i n ts)
  hidden_items test q i n no_items d few = tt
  hidden_items test q i n (item t ts) d few =
      let all : length (outermost test (q ++ index_text i ∷ []) t ++ outermost_items test q (suc i) ts) ≡ length (outermost test (q ++ index_text i ∷ []) t) + length (outermost_items test q (suc i) ts) = length-append _ _ in
      (hidden_document test (q ++ index_text i ∷ []) n t d.0 (omega arith), hidden_items test q (suc i) (n + length (outermost test (q ++ index_text i ∷ []) t)) ts d.1 (omega arith))

  hidden_members : (test : Pointer → Tree → Bool) (q : Pointer) (n : ℕ) (ms : Members) → MembersAreDocuments ms → n + length (outermost_members test q ms) ≤ 1024 → MembersAreDocuments (hide_members test q n ms)
  hidden_members test q n no_members d few = tt
  hidden_members test q n (member k t ms) d few =
      let all : length (outermost test (q ++ k ∷ []) t ++ outermost_members test q ms) ≡ length (outermost test (q ++ k ∷ []) t) + length (outermost_members test q ms) = length-append _ _ in
      (d.0, hidden_document test (q ++ k ∷ []) n t d.1 (omega arith), hidden_members test q (n + length (outermost test (q ++ k ∷ []) t)) ms d.2 (omega arith))

-- ---- the values of a body: documents, none of them deeper

-- documents that nest at most so deep
pub record IsValue (deep : ℕ) (t : Tree) : Type 0 where
  pub document : IsDocument t
  pub shallow : depth t ≤ deep

abbrev pub AreValues : ℕ → List Tree → Type 0
AreValues deep [] = Unit {0}
AreValues deep (t ∷ ts) = IsValue deep t × AreValues deep ts

pub values_documents : (deep : ℕ) (ts : List Tree) → AreValues deep ts → ItemsAreDocuments (trees ts)
values_documents deep [] h = tt
values_documents deep (t ∷ ts) h = (h.0.document, values_documents deep ts h.1)

pub values_shallow : (deep : ℕ) (ts : List Tree) → AreValues deep ts → items_depth (trees ts) ≤ deep
values_shallow deep [] h = omega arith
values_shallow deep (t ∷ ts) h = let a = h.0.shallow in let b = values_shallow deep ts h.1 in omega arith

abbrev pub AreFound : ℕ → List (Pointer × Tree) → Type 0
AreFound deep [] = Unit {0}
AreFound deep (s ∷ ss) = IsValue deep s.1 × AreFound deep ss

found_append : (deep : ℕ) (ss rs : List (Pointer × Tree)) → AreFound deep ss → AreFound deep rs → AreFound deep (ss ++ rs)
found_append deep [] rs h k = k
found_append deep (s ∷ ss) rs h k = (h.0, found_append deep ss rs h.1 k)

either_found : (deep : ℕ) (b : Bool) (q : Pointer) (t : Tree) (rest : List (Pointer × Tree)) → IsValue deep t → AreFound deep rest → AreFound deep (if b then (q, t) ∷ [] else rest)
either_found deep true q t rest h k = (h, tt)
either_found deep false q t rest h k = k

mutual
  pub outermost_values : (deep : ℕ) (test : Pointer → Tree → Bool) (q : Pointer) (t : Tree) → IsDocument t → depth t ≤ deep → AreFound deep (outermost test q t)
  outermost_values deep test q null d low = either_found deep (test q null) q null [] (record { document = d; shallow = low }) tt
  outermost_values deep test q (truth b) d low = either_found deep (test q (truth b)) q (truth b) [] (record { document = d; shallow = low }) tt
  outermost_values deep test q (whole z) d low = either_found deep (test q (whole z)) q (whole z) [] (record { document = d; shallow = low }) tt
  outermost_values deep test q (words s) d low = either_found deep (test q (words s)) q (words s) [] (record { document = d; shallow = low }) tt
  outermost_values deep test q (items ts) d low =
      either_found deep (test q (items ts)) q (items ts) (outermost_items test q 0 ts) (record { document = d; shallow = low }) (items_values deep test q 0 ts d (omega arith))
  outermost_values deep test q (members ms) d low =
      either_found deep (test q (members ms)) q (members ms) (outermost_members test q ms) (record { document = d; shallow = low }) (members_values deep test q ms d.1 (omega arith))

  items_values : (deep : ℕ) (test : Pointer → Tree → Bool) (q : Pointer) (i : ℕ) (ts : Trees) → ItemsAreDocuments ts → items_depth ts ≤ deep → AreFound deep (outermost_items test q i ts)
  items_values deep test q i no_items d low = tt
  items_values deep test q i (item t ts) d low =
      found_append deep (outermost test (q ++ index_text i ∷ []) t) (outermost_items test q (suc i) ts) (outermost_values deep test (q ++ index_text i ∷ []) t d.0 (omega arith)) (items_values deep test q (suc i) ts d.1 (omega arith))

  members_values : (deep : ℕ) (test : Pointer → Tree → Bool) (q : Pointer) (ms : Members) → MembersAreDocuments ms → members_depth ms ≤ deep → AreFound deep (outermost_members test q ms)
  members_values deep test q no_members d low = tt
  members_values deep test q (member k t ms) d low =
      found_append deep (outermost test (q ++ k ∷ []) t) (outermost_members test q ms) (outermost_values deep test (q ++ k ∷ []) t d.1 (omega arith)) (members_values deep test q ms d.2 (omega arith))
