-- Names are hashed and compared by the bytes of the node's name and by the id.
use Rattle.std.specs.Prelude.{◌≡◌, ℕ, ◌&&◌, ◌==◌, List, ◌++◌, IsTrue}
use Rattle.std.specs.Str.{bytes_eq}
use Rattle.std.specs.Hash as fed
use Rattle.std.specs.Cmp.Lexicographic.{bytes_decides}
use Rattle.std.proofs.lemmas.Bool.{and_parts, eqb-true}

pub alike : (a b : List ℕ) (i j : ℕ) → IsTrue (bytes_eq a b && (i == j)) → fed.str a ++ fed.u64 i ≡ fed.str b ++ fed.u64 j
alike a b i j h =
    let parts = and_parts (bytes_eq a b) (i == j) h in
    let named : a ≡ b = (bytes_decides a b).0 parts.0 in
    let same : i ≡ j = eqb-true i j parts.1 in
    λ t. fed.str (named t) ++ fed.u64 (same t)

pub same_names : (a b c : List ℕ) (i j k : ℕ) → IsTrue (bytes_eq a b && (i == j)) → (bytes_eq a c && (i == k)) ≡ (bytes_eq b c && (j == k))
same_names a b c i j k h =
    let parts = and_parts (bytes_eq a b) (i == j) h in
    let named : a ≡ b = (bytes_decides a b).0 parts.0 in
    let same : i ≡ j = eqb-true i j parts.1 in
    λ t. bytes_eq (named t) c && (same t == k)
