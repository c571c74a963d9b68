-- What an intermediary's operation may do to a block (TS 33.501 clause 13.2.4.5 in outline, and RFC 6902), and the reason why one is refused.
use Rattle.std.specs.Prelude.{◌≡◌, ℕ, List, [], ◌∷◌, length, Bool, true, false, not, ◌&&◌, ◌||◌, nat_le, Option, Some, None, Result, Ok, Err, is_some, if◌then◌else◌, find, codes}
use Rattle.std.specs.List.{list_any}
use Rattle.spec_documents.specs.Tree.{Tree, get_member, same_tree}
use Rattle.spec_documents.specs.Place.{Pointer, Cause, ◌>>=◌, at, front, last, is_prefix, is_beneath}
use Rattle.spec_documents.specs.Patch.{Op, add, remove, replace, move, copy, test, removed, edited, patched}
use Rattle.spec_documents.specs.Compact.{compact_text}
use Rattle.spec_documents.specs.Hole.{object_marks, all_marks, has_hole_spelling, places}
use Rattle.spec_messages.specs.Message.{Message}
use Rattle.spec_messages.specs.Policy.{Policy, Address, differs, is_modifiable}
use Rattle.spec_messages.specs.Block.{is_object, members_of, IsBlock}

-- ---- the parts of being allowed

pub data OpWhy : Type 0 where
  hole_value : OpWhy
  into_hole : OpWhy
  patch : Cause → OpWhy
  hole_taken : OpWhy
  too_large : OpWhy
  metadata : OpWhy
  not_block : OpWhy
  hole_moved : OpWhy
  not_modifiable : Address → OpWhy

-- the operation's own value has a spelling of a hole
abbrev pub has_spelling : Op → Bool
has_spelling (add p v) = has_hole_spelling v
has_spelling (remove p) = false
has_spelling (replace p v) = has_hole_spelling v
has_spelling (move from p) = false
has_spelling (copy from p) = false
has_spelling (test p v) = has_hole_spelling v

-- p goes strictly beneath an object hole of the block j
abbrev pub goes_beneath : Tree → Pointer → Bool
goes_beneath j p = list_any (λ m. is_beneath m.0 p) (object_marks j)

abbrev pub goes_to_hole : Tree → Op → Bool
goes_to_hole j (add p v) = goes_beneath j p
goes_to_hole j (remove p) = goes_beneath j p
goes_to_hole j (replace p v) = goes_beneath j p
goes_to_hole j (move from p) = goes_beneath j from || goes_beneath j p
goes_to_hole j (copy from p) = goes_beneath j from || goes_beneath j p
goes_to_hole j (test p v) = goes_beneath j p

-- the node at p is a hole, holds one, or is a text that holds one
abbrev pub holds_hole : Tree → Pointer → Bool
holds_hole t p = list_any (λ m. is_prefix p m.place.pointer) (all_marks t)

abbrev pub is_member : Result Tree Cause → List ℕ → Bool
is_member (Err why) x = false
is_member (Ok u) x = is_object u && is_some (get_member x (members_of u))

-- what is added at p overwrites the whole document, or an object's member
abbrev pub overwrites : Tree → Pointer → Bool
overwrites t [] = true
overwrites t (x ∷ p) = is_member (at t (front (x ∷ p))) (last (x ∷ p))

abbrev pub overwrites_hole : Tree → Pointer → Bool
overwrites_hole t p = overwrites t p && holds_hole t p

abbrev pub overwrites_after : Result Tree Cause → Pointer → Bool
overwrites_after (Err why) p = false
overwrites_after (Ok t) p = overwrites_hole t p

-- a node that op removes, copies, moves or overwrites is, holds, or is a text that holds, a hole
abbrev pub takes_hole : Tree → Op → Bool
takes_hole j (add p v) = overwrites_hole j p
takes_hole j (remove p) = holds_hole j p
takes_hole j (replace p v) = holds_hole j p
takes_hole j (move from p) = holds_hole j from || overwrites_after (removed from j) p
takes_hole j (copy from p) = holds_hole j from || overwrites_hole j p
takes_hole j (test p v) = false

abbrev pub same_member : Option Tree → Option Tree → Bool
same_member None None = true
same_member None (Some u) = false
same_member (Some t) None = false
same_member (Some t) (Some u) = same_tree t u

abbrev pub keeps_meta : Tree → Tree → Bool
keeps_meta j w = is_object w && same_member (get_member (codes "metaData") (members_of w)) (get_member (codes "metaData") (members_of j))

abbrev pub judged : Tree → Op → Tree → Result Tree OpWhy
judged j op w =
    if takes_hole j op then Err hole_taken
    else (if not (nat_le (length (compact_text w)) 4_194_304) then Err too_large
    else (if keeps_meta j w then Ok w else Err metadata))

abbrev pub with_cause : Result Tree Cause → Result Tree OpWhy
with_cause (Ok w) = Ok w
with_cause (Err why) = Err (patch why)

-- what op makes of the block tree j, or the first reason that its own parts give
abbrev pub op_result : Tree → Op → Result Tree OpWhy
op_result j op =
    if has_spelling op then Err hole_value
    else (if goes_to_hole j op then Err into_hole
    else (with_cause (patched j op) >>= judged j op))

-- ---- allowed operations

-- the first difference that isn't modifiable
abbrev pub first_fixed : Policy → Option ℕ → List ℕ → Message → Message → Option Address
first_fixed pol k ipx c d = find (λ a. not (is_modifiable pol k c d a ipx)) (differs pol k c d)

-- from the block j of c, op may make the block w of d
pub record Allowed (pol : Policy) (k : Option ℕ) (ipx : List ℕ) (n : ℕ) (j : Tree) (c : Message) (op : Op) (w : Tree) (d : Message) : Type 0 where
  pub made : op_result j op ≡ Ok w
  pub block : IsBlock w n d
  pub still : places w n ≡ places j n
  pub may : first_fixed pol k ipx c d ≡ None

-- the first reason why op isn't allowed
abbrev pub Refused : Policy → Option ℕ → List ℕ → ℕ → Tree → Message → Op → Result Tree OpWhy → OpWhy → Type 0
Refused pol k ipx n j c op (Err first) why = why ≡ first
Refused pol k ipx n j c op (Ok w) hole_value = ⊥
Refused pol k ipx n j c op (Ok w) into_hole = ⊥
Refused pol k ipx n j c op (Ok w) (patch x) = ⊥
Refused pol k ipx n j c op (Ok w) hole_taken = ⊥
Refused pol k ipx n j c op (Ok w) too_large = ⊥
Refused pol k ipx n j c op (Ok w) metadata = ⊥
Refused pol k ipx n j c op (Ok w) not_block = (d : Message) → IsBlock w n d → ⊥
Refused pol k ipx n j c op (Ok w) hole_moved = (d : Message) × IsBlock w n d × (places w n ≡ places j n → ⊥)
Refused pol k ipx n j c op (Ok w) (not_modifiable a) = (d : Message) × IsBlock w n d × (places w n ≡ places j n) × (first_fixed pol k ipx c d ≡ Some a)

abbrev pub OpCause : Policy → Option ℕ → List ℕ → ℕ → Tree → Message → Op → OpWhy → Type 0
OpCause pol k ipx n j c op why = Refused pol k ipx n j c op (op_result j op) why

-- the operations in order, each allowed
abbrev pub EntryApplied : Policy → Option ℕ → List ℕ → ℕ → Tree → Message → List Op → Tree → Message → Type 0
EntryApplied pol k ipx n j c [] w d = (j ≡ w) × (c ≡ d)
EntryApplied pol k ipx n j c (op ∷ ops) w d = (i : Tree) × (b : Message) × Allowed pol k ipx n j c op i b × EntryApplied pol k ipx n i b ops w d

-- the operations in order, on any tree, but for the depth
abbrev pub edited_all : List Op → Tree → Result Tree Cause
edited_all [] t = Ok t
edited_all (op ∷ ops) t = edited op t >>= λ w. edited_all ops w
