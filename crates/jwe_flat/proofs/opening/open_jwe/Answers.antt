use Rattle.std.proofs.Common.{◌≡◌, length, take, drop, ◌++◌, None, Ok, sym, ap, ◌∙◌, rules}
use Rattle.std.proofs.Math.Seq.{take-append_seam}
use Rattle.spec_sealing.specs.Jwe.{Jwe, before_aad, misfit}
use Rattle.jwe_flat.specs.View.{content_key_view, jwe_view}
use Rattle.jwe_flat.proofs.Parts.{opened_parts}
use Rattle.jwe_flat.proofs.opening.open_jwe.Goals as goal

pub returns-then-is_whole : goal.returns-then-is_whole
returns-then-is_whole c =
    let w : Jwe = jwe_view c.args.jwe.now in
    let fits : misfit (content_key_view c.args.key.now) w ≡ None = search rules in
    let is_head : c.as_bytes.result.now ≡ before_aad w.protected = search rules in
    let is_tail : c.as_bytes-2.result.now ≡ w.aad = search rules in
    let is_old : c.as_mut_slice.result.now ≡ w.ciphertext = search rules in
    let size : c.into_vec-buffer.result.len ≡ length c.open_in_place-is_whole.new.buffer = search rules in
    let all : take c.into_vec-buffer.result.len (c.open_in_place-is_whole.new.buffer ++ drop (length c.open_in_place-is_whole.new.buffer) c.into_vec-buffer.result.items) ≡ c.open_in_place-is_whole.new.buffer =
    rw (size) (take-append_seam c.open_in_place-is_whole.new.buffer (drop (length c.open_in_place-is_whole.new.buffer) c.into_vec-buffer.result.items)) in
    opened_parts (content_key_view c.args.key.now) w c.as_bytes.result.now c.as_bytes-2.result.now is_head is_tail fits c.as_mut_slice.result.now _ is_old c.if-is_whole.ensures.opened ∙ ap (λ z. Ok z) (sym (c.from_vec.ensures ∙ all))
