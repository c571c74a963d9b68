-- The places of a block's holes, by what stands where (this project's own).
use Rattle.std.specs.Prelude.{◌≡◌, ℕ, List, [], ◌∷◌, length, true, Option, Some, None, Ok, codes, slice_get, ◌⊎◌}
use Rattle.spec_documents.specs.Tree.{Tree, words, items, Trees}
use Rattle.spec_documents.specs.Place.{Pointer, at}
use Rattle.spec_documents.specs.Hole.{hole, is_marked, HolePlace, path_pointer, query_pointer, path_pieces, query_pieces, text_hole, pair_hole}

-- the value of an item of the list `headers`
abbrev pub HeaderPlace : Tree → Pointer → Type 0
HeaderPlace j q = (ts : Trees) × (x : List ℕ) × (at j (codes "headers" ∷ []) ≡ Ok (items ts)) × (q ≡ codes "headers" ∷ x ∷ codes "value" ∷ [])

-- at or beneath the value of an item of the list `payload`
abbrev pub ItemPlace : Tree → Pointer → Type 0
ItemPlace j q = (ts : Trees) × (x : List ℕ) × (r : Pointer) × (at j (codes "payload" ∷ []) ≡ Ok (items ts)) × (q ≡ codes "payload" ∷ x ∷ codes "value" ∷ r)

-- where an object may be a hole
abbrev pub ObjectPlace : Tree → Pointer → Type 0
ObjectPlace j q = HeaderPlace j q ⊎ ItemPlace j q

-- piece k of the text at q is spelled as hole i
abbrev pub TextAt : Tree → Pointer → (List ℕ → List (List ℕ)) → (List ℕ → Option ℕ) → ℕ → ℕ → Type 0
TextAt j q cut look k i = (s : List ℕ) × (p : List ℕ) × (at j q ≡ Ok (words s)) × (slice_get (cut s) k ≡ Some p) × (look p ≡ Some i)

abbrev pub StandsIn : Tree → Pointer → Option ℕ → ℕ → Type 0
StandsIn j q None i = ObjectPlace j q × (at j q ≡ Ok (hole i))
StandsIn j q (Some k) i = ((q ≡ path_pointer) × TextAt j path_pointer path_pieces text_hole k i) ⊎ ((q ≡ query_pointer) × TextAt j query_pointer query_pieces pair_hole k i)

-- hole i stands at the place h: an object, a segment of the path or a value of the query
abbrev pub StandsAt : Tree → HolePlace → ℕ → Type 0
StandsAt j h i = StandsIn j h.pointer h.part i

-- each index below n has its hole at its place and at no other, no hole has another index, and each object with a member `encBlockIndex` is a hole
pub record IsPlaces (j : Tree) (n : ℕ) (ps : List HolePlace) : Type 0 where
  pub count : length ps ≡ n
  pub each : (i : ℕ) (h : HolePlace) → slice_get ps i ≡ Some h → StandsAt j h i
  pub only : (i : ℕ) (h : HolePlace) → StandsAt j h i → slice_get ps i ≡ Some h
  pub holes : (q : Pointer) (u : Tree) → ObjectPlace j q → at j q ≡ Ok u → is_marked u ≡ true → (i : ℕ) × (u ≡ hole i)
