-- A text that goes on behind the end of its pattern.
use Rattle.std.proofs.Common.{◌≡◌, ℕ, List, drop, ◌<◌, ◌≤◌, length, true, refl}
use Rattle.std.proofs.lemmas.List.{drop_more, drop_all}
use Rattle.n32_outside.specs.RecordFront.{agrees}

pub pattern_ends : (text pattern : List ℕ) (i : ℕ) → i < length text → length pattern ≤ i → agrees (drop i text) (drop i pattern) ≡ true
pattern_ends text pattern i lt le = rw (drop_more text i 0 lt, drop_all i pattern le) refl
