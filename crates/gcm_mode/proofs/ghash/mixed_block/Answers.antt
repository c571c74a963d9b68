use Rattle.std.proofs.Common.{ap, arith, ◌∙◌}
use Rattle.std.specs.Int.{from_be_bytes, w128}
use Rattle.std.proofs.lemmas.List.FromFn.{fill_by_all}
use Rattle.spec_sealing.specs.Gcm.{block_at}
use Rattle.gcm_mode.proofs.ghash.mixed_block.Goals as goal

pub returns : goal.returns
unfolding block_at
returns c =
    c.from_be_bytes.ensures
    ∙ ap (from_be_bytes w128) (fill_by_all _ c.loop-k.bytes 16 0 c.loop-k.invariant.0 (λ k lt. c.loop-k.invariant.1 k (omega arith)))
