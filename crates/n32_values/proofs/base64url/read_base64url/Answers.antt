use Rattle.std.proofs.Common.{◌∙◌, ap, sym, ◌≡◌}
use Rattle.spec_documents.specs.Base64url.{base64url, bytes_of}
use Rattle.n32_values.proofs.base64url.read_base64url.Goals as goal

pub returns-in-Ok-clause-ok : goal.returns-in-Ok-clause-ok
returns-in-Ok-clause-ok c =
    let is : c.args.text.now ≡ base64url c.in-Ok.bytes.items = sym c.as_bytes.ensures.value ∙ c.in-Ok.ensures.exact c.engine.ensures.strict ∙ c.engine.ensures.text c.in-Ok.bytes.items in
    rw c.from_vec.ensures (ap bytes_of is ∙ c.texts_have_their_bytes.ensures.there c.in-Ok.bytes.items c.in-Ok.ensures.bytes)

pub returns-in-Err-DecodeError-clause-none : goal.returns-in-Err-DecodeError-clause-none
returns-in-Err-DecodeError-clause-none c = c.texts_have_their_bytes.ensures.none c.args.text.now λ b bytes is.
    let read = (c.decode.ensures.strict c.engine.ensures.strict b bytes).1 (c.as_bytes.ensures.value ∙ is ∙ sym (c.engine.ensures.text b)) in
    let failed = rw c.in-Err-DecodeError.field-0-is at c.in-Err-DecodeError.ensures.err in
    cc (read, failed)
