-- The limits of a split are those of sending.
use Rattle.std.proofs.Common.{◌≡◌, List, length, Option, Some, None, Ok, Err, refl, ap}
use Rattle.spec_documents.specs.Tree.{Tree}
use Rattle.spec_messages.specs.Block.{Block, block_tree}
use Rattle.spec_messages.specs.Limits.{Limit}
use Rattle.spec_messages.specs.Splitting.{Parts, split_limit, within, limited}
use Rattle.spec_exchange.specs.Chain.{none_of}
use Rattle.spec_exchange.specs.SendingRefusals.{Beyond}

passed_by : (o : Option Limit) (x : Parts) (l : Limit) → within o x ≡ Err l → none_of Beyond o ≡ Err (Beyond l)
passed_by None x l e = cc
passed_by (Some k) x l e = let same : k ≡ l = cc in ap (λ z. Err (Beyond z)) same

kept_by : (o : Option Limit) (x y : Parts) → within o x ≡ Ok y → (none_of Beyond o ≡ Ok tt) × (x ≡ y)
kept_by None x y e = (refl, cc)
kept_by (Some l) x y e = cc

pub passed : (b : Block) (vs : List Tree) (l : Limit) → limited b vs ≡ Err l → none_of Beyond (split_limit b (length vs)) ≡ Err (Beyond l)
passed b vs l e = passed_by (split_limit b (length vs)) (block_tree b, vs) l e

pub kept : (b : Block) (vs : List Tree) (y : Parts) → limited b vs ≡ Ok y → none_of Beyond (split_limit b (length vs)) ≡ Ok tt
kept b vs y e = (kept_by (split_limit b (length vs)) (block_tree b, vs) y e).0

pub parts_are : (b : Block) (vs : List Tree) (y : Parts) → limited b vs ≡ Ok y → (block_tree b, vs) ≡ y
parts_are b vs y e = (kept_by (split_limit b (length vs)) (block_tree b, vs) y e).1
