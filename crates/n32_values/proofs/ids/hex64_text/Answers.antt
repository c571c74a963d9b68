use Rattle.std.proofs.Common.{◌∙◌, ap}
use Rattle.hex.specs.Hex.{encode_lower}
use Rattle.n32_values.proofs.Hexadecimal.{encode_lower-id}
use Rattle.n32_values.proofs.ids.hex64_text.Goals as goal

pub returns : goal.returns
returns c = c.from_string.ensures ∙ c.in_ok-digits.ensures ∙ ap encode_lower c.to_be_bytes.ensures ∙ encode_lower-id c.args.id.value
