-- How deep the items of a list, the members of an object and the items of a block nest.
use Rattle.std.proofs.Common.{◌≡◌, ℕ, ◌+◌, ◌<◌, ◌≤◌, min, max, List, length, true, nat_lt, Some, option_map, sym, ap, ◌∙◌, drop, slice_get, arith}
use Rattle.std.proofs.lemmas.Option.{slice_get-map}
use Rattle.std.proofs.lemmas.Bool.{lt-ltb, ltb-true, ltb_from_iff}
use Rattle.spec_documents.specs.Tree.{Tree, trees}
use Rattle.spec_documents.specs.Fields.{Field, fields}
use Rattle.spec_documents.specs.Place.{Pointer}
use Rattle.spec_messages.specs.Block.{open_depth, items_open_depth, members_open_depth, members_of}
use Rattle.spec_messages.specs.Fault.{path_of, or_root, items_depth, member_or_null}
use Rattle.n32_values.proofs.Trees.{drop_at}
use Rattle.block_forms.specs.Paths.{paths_of}
use Rattle.std.specs.Prelude.{codes}

deeper : (d a r : ℕ) → min (max (max (min a 4294967295) d) r) 4294967295 ≡ min (max d (max a r)) 4294967295
deeper d a r = omega arith

pub item_deeper : (d : ℕ) (ts : List Tree) (i : ℕ) (t : Tree) → slice_get ts i ≡ Some t → min (max (max (min (open_depth t) 4294967295) d) (items_open_depth (trees (drop (i + 1) ts)))) 4294967295 ≡ min (max d (items_open_depth (trees (drop i ts)))) 4294967295
item_deeper d ts i t e = rw (drop_at ts i t e) (deeper d (open_depth t) (items_open_depth (trees (drop (i + 1) ts))))

pub member_deeper : (d : ℕ) (fs : List Field) (i : ℕ) (k : List ℕ) (t : Tree) → slice_get fs i ≡ Some (k, t) → min (max (max (min (open_depth t) 4294967295) d) (members_open_depth (fields (drop (i + 1) fs)))) 4294967295 ≡ min (max d (members_open_depth (fields (drop i fs)))) 4294967295
member_deeper d fs i k t e = rw (drop_at fs i (k, t) e) (deeper d (open_depth t) (members_open_depth (fields (drop (i + 1) fs))))

abbrev pub value_of : Tree → Tree
value_of t = member_or_null (codes "value") (members_of t)

over_max : (len od r n d : ℕ) → n ≡ len → d ≡ min od 4294967295 → 64 < min (d + n) 18446744073709551615 → nat_lt 64 (max (len + od) r) ≡ true
over_max len od r n d g h over = lt-ltb 64 (max (len + od) r) (omega arith)

under_max : (len od r n d : ℕ) → n ≡ len → d ≡ min od 4294967295 → min (d + n) 18446744073709551615 ≤ 64 → nat_lt 64 (max (len + od) r) ≡ nat_lt 64 r
under_max len od r n d g h under = ltb_from_iff ((λ e. omega (arith, ltb-true 64 (max (len + od) r) e)), (λ l. lt-ltb 64 (max (len + od) r) (omega arith)))

path_there : (ts : List Tree) (i : ℕ) (t : Tree) (p : Pointer) → slice_get ts i ≡ Some t → slice_get (paths_of ts) i ≡ Some p → p ≡ or_root (path_of t)
path_there ts i t p e f =
    let s : Some p ≡ Some (or_root (path_of t)) = sym f ∙ slice_get-map (λ u. or_root (path_of u)) ts i ∙ ap (option_map (λ u. or_root (path_of u))) e in cc

-- a path's length and the depth of a value, each as a number of the program
pub is_over : (t : Tree) (ts : List Tree) (i : ℕ) (p : Pointer) (n d : ℕ) → slice_get ts i ≡ Some t → slice_get (paths_of ts) i ≡ Some p → n ≡ length p → d ≡ min (open_depth (value_of t)) 4294967295 → 64 < min (d + n) 18446744073709551615 → nat_lt 64 (items_depth (drop i ts)) ≡ true
is_over t ts i p n d e f g h over =
    rw (drop_at ts i t e) (over_max (length (or_root (path_of t))) (open_depth (value_of t)) (items_depth (drop (i + 1) ts)) n d (g ∙ ap length (path_there ts i t p e f)) h over)

pub is_under : (t : Tree) (ts : List Tree) (i : ℕ) (p : Pointer) (n d : ℕ) → slice_get ts i ≡ Some t → slice_get (paths_of ts) i ≡ Some p → n ≡ length p → d ≡ min (open_depth (value_of t)) 4294967295 → min (d + n) 18446744073709551615 ≤ 64 → nat_lt 64 (items_depth (drop i ts)) ≡ nat_lt 64 (items_depth (drop (i + 1) ts))
is_under t ts i p n d e f g h under =
    rw (drop_at ts i t e) (under_max (length (or_root (path_of t))) (open_depth (value_of t)) (items_depth (drop (i + 1) ts)) n d (g ∙ ap length (path_there ts i t p e f)) h under)
