-- A block with more than 1,024 values has the same first fault, however many they are.
use Rattle.std.proofs.Common.{◌≡◌, ℕ, ◌<◌, Bool, true, false, Option, refl, ap}
use Rattle.std.proofs.lemmas.Bool.{lt-ltb}
use Rattle.spec_documents.specs.Tree.{Tree}
use Rattle.spec_messages.specs.Limits.{many_headers, many_items, many_values}
use Rattle.spec_messages.specs.Fault.{BlockFault, bad_member, beyond, first_of, when, as_fault, member_fault, block_fault}

-- what follows a limit that is passed is never asked
passed : (a b : Bool) (rest other : Option BlockFault) → first_of (as_fault beyond (first_of (when a many_headers) (first_of (when b many_items) (when true many_values)))) rest ≡ first_of (as_fault beyond (first_of (when a many_headers) (first_of (when b many_items) (when true many_values)))) other
passed true b rest other = refl
passed false true rest other = refl
passed false false rest other = refl

pub same_fault : (j : Tree) (n : ℕ) → 1024 < n → block_fault j n ≡ block_fault j 1025
same_fault j n lt = rw (lt-ltb 1024 n lt) (ap (λ z. first_of (as_fault bad_member (member_fault j)) z) (passed _ _ _ _))
