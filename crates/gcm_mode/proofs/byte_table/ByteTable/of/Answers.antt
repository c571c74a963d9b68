use Rattle.std.proofs.Common.{◌≡◌, ◌*◌, ◌^◌, ℕ, List, arith, ap, sym, ◌∙◌, bit_xor, get_or, set}
use Rattle.std.proofs.lemmas.List.{length-set}
use Rattle.std.proofs.lemmas.List.Edits.{fill_by_more}
use Rattle.spec_sealing.specs.GcmField.{product, times_power}
use Rattle.gcm_mode.specs.Table.{byte_products}
use Rattle.gcm_mode.proofs.ByteProducts.{byte-halves, entries-made, entry-128}
use Rattle.gcm_mode.proofs.byte_table.ByteTable.of.Goals as goal

pub loop-i-preserved : goal.loop-i-preserved
loop-i-preserved c =
    let h : ℕ = c.args.table.now in
    let i : ℕ = c.loop-i.i in
    let es : List ℕ = c.loop-i.entries in
    let entry : bit_xor c.of_degree_3.result c.times_u4.result ≡ product (i * 2 ^ 120) h =
    (λ t. bit_xor (c.of_degree_3.ensures t) ((c.times_u4.ensures ∙ ap (times_power 4) c.of_degree_3-in-loop-i.ensures) t))
    ∙ byte-halves i h c.loop-i-test.true c.requires in
    let more = fill_by_more (λ k. product (k * 2 ^ 120) h) es i 0 (omega (arith, c.loop-i.invariant.0)) c.loop-i.invariant.1 in (
      length-set es i _ ∙ c.loop-i.invariant.0,
      λ k lt. ap (λ (x : ℕ). get_or (set es i x) k 0) entry ∙ more k lt,
    )

pub invariant_of-result : goal.invariant_of-result
invariant_of-result c =
    let made = entries-made c.loop-i.entries c.args.table.now c.loop-i.invariant.0 (λ k lt. c.loop-i.invariant.1 k (omega arith)) in
    made ∙ ap byte_products (sym (entry-128 c.loop-i.entries c.args.table.now made c.requires))

pub returns : goal.returns
returns c =
    let made = entries-made c.loop-i.entries c.args.table.now c.loop-i.invariant.0 (λ k lt. c.loop-i.invariant.1 k (omega arith)) in
    entry-128 c.loop-i.entries c.args.table.now made c.requires
