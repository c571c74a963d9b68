-- Texts that are no word.
use Rattle.std.proofs.Common.{◌≡◌, ℕ, List, false, sym}
use Rattle.std.specs.Str.{bytes_eq}
use Rattle.std.proofs.lemmas.Bool.{false_from_ne_true}
use Rattle.std.proofs.lemmas.Slice.Eq.{bytes_eq-Decides}

pub no_word : (w s : List ℕ) → (s ≡ w → ⊥) → bytes_eq w s ≡ false
no_word w s h = false_from_ne_true (bytes_eq w s) (λ e. h (sym ((bytes_eq-Decides w s).0 e)))
