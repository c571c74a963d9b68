use Rattle.std.proofs.Common.{◌++◌, length, ◌∙◌}
use Rattle.std.proofs.lemmas.List.{drop-replicate}
use Rattle.jws_flat.proofs.Keys.{short_block}
use Rattle.jws_flat.proofs.hmac.block_key.Goals as goal

pub returns-then-key-le-BLOCK : goal.returns-then-key-le-BLOCK
returns-then-key-le-BLOCK c =
    (λ i. c.copy_from_slice.ensures.after i ++ drop-replicate (length c.args.key.now) 64 0 i)
    ∙ short_block c.args.key.now c.if-key-le-BLOCK.true
