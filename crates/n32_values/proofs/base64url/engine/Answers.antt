use Rattle.std.proofs.Common.{◌∙◌}
use Rattle.n32_values.proofs.UrlTexts.{encode_of-base64url}
use Rattle.n32_values.proofs.base64url.engine.Goals as goal

pub returns-clause-text : goal.returns-clause-text
returns-clause-text c bytes =
    let made = rw c.unwrap-alphabet.ensures at c.new.ensures.ok in
    encode_of-base64url c.new-2.result bytes (c.new-2.ensures.symbols ∙ made.0) c.new-2.ensures.config
