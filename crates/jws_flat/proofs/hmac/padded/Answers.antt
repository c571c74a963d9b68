use Rattle.std.proofs.Common.{◌≡◌, ℕ, List, length, map, bit_xor, sym, ap, ◌∙◌, arith}
use Rattle.std.proofs.lemmas.List.{ext_get_or, get_or-map, length-map}
use Rattle.spec_sealing.specs.Hmac.{block_key}
use Rattle.jws_flat.proofs.hmac.padded.Goals as goal

pub returns : goal.returns
returns c =
    let key : List ℕ = block_key c.args.key.now in
    let xor = λ (b : ℕ). bit_xor b c.args.pad in
    let long : length key ≡ 64 = ap length (sym c.block_key-block.ensures) ∙ omega arith in
    ext_get_or 0 c.loop-i.block (map xor key) (c.loop-i.invariant.0 ∙ sym (length-map key xor ∙ long))
    (λ k lt. c.loop-i.invariant.1 k (omega arith) ∙ sym (get_or-map xor key k 0 0 (omega arith)))
