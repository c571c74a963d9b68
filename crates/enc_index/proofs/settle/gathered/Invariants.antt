use Rattle.std.proofs.Common.{◌≡◌, ◌-◌, ◌≤◌, ◌++◌, ℕ, List, Ok, map, option_map, length}
use Rattle.std.specs.Ordering.{nat_cmp}
use Rattle.std.specs.BTreeMap.{get}
use Rattle.spec_documents.specs.Place.{◌>>=◌}
use Rattle.spec_documents.specs.Hole.{Mark, gathered, place_of}
use Rattle.enc_index.specs.Places.{place_view}
use Rattle.enc_index.specs.Tables.{HasFirst}
use Rattle.enc_index.proofs.settle.gathered.Given as goal

abbrev pub invariant-loop-index : goal.invariant-loop-index
invariant-loop-index l = record {
  count : length l.places ≡ l.index-counter;
  left : (ms : List Mark) → HasFirst l.fn.first ms → (q : ℕ) → l.index-counter ≤ q → option_map place_view (get nat_cmp l.first q) ≡ place_of q ms;
  done : (ms : List Mark) → HasFirst l.fn.first ms → (gathered ms (l.count - l.index-counter) l.index-counter >>= λ qs. Ok (map place_view l.places ++ qs)) ≡ gathered ms l.count 0;
}
