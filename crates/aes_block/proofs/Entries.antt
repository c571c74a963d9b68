-- The tables' entries: each of the 256 is compared with its definition.
use Rattle.std.proofs.Common.{◌≡◌, ◌<◌, ℕ, refl, get_or}
use Rattle.aes_block.specs.declared.tables.TheConstants.{MIXED_COLUMNS, SUBSTITUTIONS}
use Rattle.aes_block.specs.Columns.{mixed_word}
use Rattle.spec_sealing.specs.AesField.{inverse, polynomial_product, product, remainder, substitution}
use Rattle.spec_documents.proofs.Below.{all_below, same_below}

pub substitutions-at : (x : ℕ) → x < 256 → get_or SUBSTITUTIONS x 0 ≡ substitution x
unfolding all_below polynomial_product remainder product inverse substitution
substitutions-at = same_below 256 (λ x. get_or SUBSTITUTIONS x 0) substitution refl

pub mixed_columns-at : (x : ℕ) → x < 256 → get_or MIXED_COLUMNS x 0 ≡ mixed_word x
unfolding all_below polynomial_product remainder product inverse substitution mixed_word
mixed_columns-at = same_below 256 (λ x. get_or MIXED_COLUMNS x 0) mixed_word refl
