use Rattle.std.proofs.Common.{◌∙◌}
use Rattle.n32_values.proofs.base64url.base64url_text.Goals as goal

pub returns : goal.returns
returns c = c.from_string.ensures ∙ c.in_ok-text.ensures.text ∙ c.engine.ensures.text c.args.bytes.now
