-- The document of a patch (RFC 6902 sections 3 and 4): a list of operations. The bound on their number is this project's own.
use Rattle.std.specs.Prelude.{ℕ, suc, List, [], ◌∷◌, nat_le, Option, Some, None, Result, Ok, Err, if◌then◌else◌, bytes_eq, codes}
use Rattle.spec_documents.specs.Tree.{Tree, null, truth, whole, words, items, members, tree_list, count_items, Members, get_member}
use Rattle.spec_documents.specs.Place.{Pointer, ◌>>=◌, read_pointer}
use Rattle.spec_documents.specs.Patch.{Op, add, remove, replace, move, copy, test}

-- what is there, or the number k of the operation that lacks it
abbrev pub or_number : {A E : Type 0} → ℕ → Result A E → Result A ℕ
or_number k (Ok x) = Ok x
or_number k (Err why) = Err k

abbrev pub pointer_in : ℕ → Option Tree → Result Pointer ℕ
pointer_in k None = Err k
pointer_in k (Some null) = Err k
pointer_in k (Some (truth b)) = Err k
pointer_in k (Some (whole z)) = Err k
pointer_in k (Some (words s)) = or_number k (read_pointer s)
pointer_in k (Some (items ts)) = Err k
pointer_in k (Some (members ms)) = Err k

abbrev pub value_in : ℕ → Option Tree → Result Tree ℕ
value_in k None = Err k
value_in k (Some v) = Ok v

-- `path`; with `value`; with `from` before it
abbrev pub path_of : ℕ → Members → Result Pointer ℕ
path_of k ms = pointer_in k (get_member (codes "path") ms)

abbrev pub valued : ℕ → Members → Result (Pointer × Tree) ℕ
valued k ms = path_of k ms >>= λ p. value_in k (get_member (codes "value") ms) >>= λ v. Ok (p, v)

abbrev pub sourced : ℕ → Members → Result (Pointer × Pointer) ℕ
sourced k ms = pointer_in k (get_member (codes "from") ms) >>= λ from. path_of k ms >>= λ p. Ok (from, p)

-- the operation of this name
abbrev pub op_named : List ℕ → ℕ → Members → Result Op ℕ
op_named s k ms =
    if bytes_eq s (codes "add") then (valued k ms >>= λ m. Ok (add m.0 m.1))
    else (if bytes_eq s (codes "remove") then (path_of k ms >>= λ p. Ok (remove p))
    else (if bytes_eq s (codes "replace") then (valued k ms >>= λ m. Ok (replace m.0 m.1))
    else (if bytes_eq s (codes "move") then (sourced k ms >>= λ m. Ok (move m.0 m.1))
    else (if bytes_eq s (codes "copy") then (sourced k ms >>= λ m. Ok (copy m.0 m.1))
    else (if bytes_eq s (codes "test") then (valued k ms >>= λ m. Ok (test m.0 m.1))
    else Err k)))))

abbrev pub op_with : Option Tree → ℕ → Members → Result Op ℕ
op_with None k ms = Err k
op_with (Some null) k ms = Err k
op_with (Some (truth b)) k ms = Err k
op_with (Some (whole z)) k ms = Err k
op_with (Some (words s)) k ms = op_named s k ms
op_with (Some (items ts)) k ms = Err k
op_with (Some (members ns)) k ms = Err k

-- the operation that a tree is, other members ignored, or its number k
abbrev pub op_of : ℕ → Tree → Result Op ℕ
op_of k null = Err k
op_of k (truth b) = Err k
op_of k (whole z) = Err k
op_of k (words s) = Err k
op_of k (items ts) = Err k
op_of k (members ms) = op_with (get_member (codes "op") ms) k ms

-- from number k on
abbrev pub ops_from : ℕ → List Tree → Result (List Op) ℕ
ops_from k [] = Ok []
ops_from k (t ∷ ts) = op_of k t >>= λ op. ops_from (suc k) ts >>= λ ops. Ok (op ∷ ops)

abbrev pub most_ops : ℕ
most_ops = 64

-- the operations of a patch, or the number of the first item that is none, from 1; 0 where the tree is no list or has too many
abbrev pub ops_of : Tree → Result (List Op) ℕ
ops_of null = Err 0
ops_of (truth b) = Err 0
ops_of (whole z) = Err 0
ops_of (words s) = Err 0
ops_of (items ts) = if nat_le (count_items ts) most_ops then ops_from 1 (tree_list ts) else Err 0
ops_of (members ms) = Err 0
