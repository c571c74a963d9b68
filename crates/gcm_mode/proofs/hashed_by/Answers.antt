use Rattle.std.proofs.Common.{◌≡◌, ℕ, List, [], ◌++◌, refl, ap, sym, bit_xor, ◌∙◌}
use Rattle.std.proofs.lemmas.List.{append-nil}
use Rattle.spec_sealing.specs.GcmField.{ghash, product}
use Rattle.spec_sealing.specs.Gcm.{blocks, lengths}
use Rattle.gcm_mode.proofs.Horner.{ghash-push}
use Rattle.gcm_mode.proofs.hashed_by.Goals as goal

pub returns : goal.returns
unfolding ghash
returns g c =
    let h : ℕ = g.T.Factor.block c.args.table.now in
    let a : List ℕ = c.args.head.now ++ c.args.tail.now in
    let t : List ℕ = c.args.text.now in
    let given : c.absorb-sum.result ≡ ghash h (blocks a) = c.absorb-sum.ensures [] refl in
    let both : c.absorb-sum-2.result ≡ ghash h (blocks a ++ blocks t) =
    c.absorb-sum-2.ensures (blocks a) given ∙ ap (λ (v : List ℕ). ghash h (blocks a ++ blocks v)) (append-nil t) in
    c.times.ensures ∙ (λ i. product (bit_xor (both i) (c.lengths.ensures i)) h)
    ∙ sym (ghash-push h (blocks a ++ blocks t) (lengths a t) c.requires)
