use Rattle.std.proofs.Common.{◌+◌, ◌-◌, ◌^◌, min, ap, ◌∙◌, arith}
use Rattle.std.proofs.lemmas.Option.{slice_get-get_or}
use Rattle.n32_values.proofs.Lengths.{escape_step}
use Rattle.n32_values.proofs.length.quoted_length.Goals as goal

pub loop-i-preserved : goal.loop-i-preserved
loop-i-preserved c = record {
  rest =
      escape_step c.as_bytes-bytes.result.now c.loop-i.i _ c.loop-i.total c.saturating_add-total.result _ (slice_get-get_or c.as_bytes-bytes.result.now c.loop-i.i _ (omega arith))
      (c.saturating_add-total.ensures ∙ ap (λ n. min (c.loop-i.total + n) (2 ^ 64 - 1)) c.byte_length.ensures)
      ∙ c.loop-i.invariant.rest;
  fits = omega (arith, c.saturating_add-total.ensures);
}
