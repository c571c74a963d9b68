-- JSON Patch (RFC 6902 section 4): what each operation makes of a document, or the first cause why it fails. That the root can't be removed, and the bound on depth, are this project's own.
use Rattle.std.specs.Prelude.{ℕ, List, [], ◌∷◌, nat_le, ◌&&◌, Result, Ok, Err, if◌then◌else◌}
use Rattle.spec_documents.specs.Tree.{Tree, null, truth, whole, words, items, members, count_items, insert_item, remove_item, put_member, drop_member, depth, same_tree}
use Rattle.spec_documents.specs.Place.{Pointer, Cause, no_place, test_failed, into_itself, too_deep, ◌>>=◌, is_index, index_number, is_dash, no_item, child, at, with, is_beneath, front, last}

pub data Op : Type 0 where
  add : Pointer → Tree → Op
  remove : Pointer → Op
  replace : Pointer → Tree → Op
  move : Pointer → Pointer → Op
  copy : Pointer → Pointer → Op
  test : Pointer → Tree → Op

-- an object takes x to v; a list has v inserted at index x, at most its length, or at its end for `-`
abbrev pub child_added : List ℕ → Tree → Tree → Result Tree Cause
child_added x v null = Err no_place
child_added x v (truth b) = Err no_place
child_added x v (whole z) = Err no_place
child_added x v (words s) = Err no_place
child_added x v (items ts) =
    if is_dash x then Ok (items (insert_item (count_items ts) v ts))
    else (if is_index x && nat_le (index_number x) (count_items ts) then Ok (items (insert_item (index_number x) v ts)) else Err (no_item x))
child_added x v (members ms) = Ok (members (put_member x v ms))

-- the member or item that x names is taken out
abbrev pub child_taken : List ℕ → Tree → Tree
child_taken x null = null
child_taken x (truth b) = truth b
child_taken x (whole z) = whole z
child_taken x (words s) = words s
child_taken x (items ts) = items (remove_item (index_number x) ts)
child_taken x (members ms) = members (drop_member x ms)

abbrev pub added : Pointer → Tree → Tree → Result Tree Cause
added [] v t = Ok v
added (x ∷ p) v t = at t (front (x ∷ p)) >>= λ u. child_added (last (x ∷ p)) v u >>= λ w. Ok (with t (front (x ∷ p)) w)

abbrev pub removed : Pointer → Tree → Result Tree Cause
removed [] t = Err no_place
removed (x ∷ p) t = at t (front (x ∷ p)) >>= λ u. child (last (x ∷ p)) u >>= λ c. Ok (with t (front (x ∷ p)) (child_taken (last (x ∷ p)) u))

-- but for the depth
abbrev pub edited : Op → Tree → Result Tree Cause
edited (add p v) t = added p v t
edited (remove p) t = removed p t
edited (replace p v) t = at t p >>= λ u. Ok (with t p v)
edited (move from p) t = if is_beneath from p then Err into_itself else (at t from >>= λ u. removed from t >>= λ w. added p u w)
edited (copy from p) t = at t from >>= λ u. added p u t
edited (test p v) t = at t p >>= λ u. if same_tree u v then Ok t else Err test_failed

abbrev pub within_depth : Tree → Result Tree Cause
within_depth t = if nat_le (depth t) 127 then Ok t else Err too_deep

-- what op makes of t, or why it fails
abbrev pub patched : Tree → Op → Result Tree Cause
patched t op = edited op t >>= within_depth
