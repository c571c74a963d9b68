-- What a split that is answered is known to be.
use Rattle.std.proofs.Common.{◌≡◌, ℕ, List, length, Bool, true, false, not, ◌&&◌, nat_le, Option, Result, Ok, refl, ap}
use Rattle.std.proofs.lemmas.Bool.{and_from}
use Rattle.spec_documents.specs.Tree.{Tree}
use Rattle.spec_documents.specs.Compact.{compact_text}
use Rattle.spec_messages.specs.Message.{Message}
use Rattle.spec_messages.specs.Policy.{Policy, values}
use Rattle.spec_messages.specs.Split.{cleared}
use Rattle.spec_messages.specs.Block.{Meta, Block, at_most, in_limits, block_of, block_tree, sent_block}
use Rattle.spec_messages.specs.Splitting.{Parts, within, limited, splitting}
use Rattle.spec_messages.specs.Fault.{first_of, when}
use Rattle.spec_messages.specs.Limits.{many_headers, many_items, many_values, long_block}

within_ok : (p q r s : Bool) (x y : Parts) → within (first_of (when (not p) many_headers) (first_of (when (not q) many_items) (first_of (when (not r) many_values) (when (not s) long_block)))) x ≡ Ok y → (p ≡ true) × (q ≡ true) × (r ≡ true) × (x ≡ y)
within_ok true true true true x y e = (refl, refl, refl, cc)
within_ok true true true false x y e = cc
within_ok true true false s x y e = cc
within_ok true false r s x y e = cc
within_ok false q r s x y e = cc

-- the limits that hold, the block and the values
pub record Kept (pol : Policy) (k : Option ℕ) (m : Message) (meta : Meta) (j : Tree) (vs : List Tree) : Type 0 where
  pub limits : in_limits (block_of (cleared pol k m) meta) (length (values pol k m)) ≡ true
  pub block : sent_block pol k m meta ≡ j
  pub hidden : values pol k m ≡ vs

limited_ok : (b : Block) (vs : List Tree) (p : Parts) → limited b vs ≡ Ok p → (in_limits b (length vs) ≡ true) × (◌≡◌ {A = Parts} (block_tree b, vs) p)
limited_ok b vs p e =
    let ok = within_ok (at_most 256 b.headers) (at_most 4096 b.payload) (nat_le (length vs) 1024) (nat_le (length (compact_text (block_tree b))) 4194304) (block_tree b, vs) p e in
    (and_from (at_most 256 b.headers && at_most 4096 b.payload) (nat_le (length vs) 1024) (and_from (at_most 256 b.headers) (at_most 4096 b.payload) ok.0 ok.1) ok.2, ok.3)

pub kept : (pol : Policy) (k : Option ℕ) (m : Message) (meta : Meta) (j : Tree) (vs : List Tree) → splitting pol k m meta ≡ Ok (j, vs) → Kept pol k m meta j vs
kept pol k m meta j vs e =
    let ok = limited_ok (block_of (cleared pol k m) meta) (values pol k m) (j, vs) e in
    record { limits = ok.0; block = ap (λ (p : Parts). p.0) ok.1; hidden = ap (λ (p : Parts). p.1) ok.1 }
