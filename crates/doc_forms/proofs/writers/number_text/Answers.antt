use Rattle.std.proofs.Common.{◌≡◌, ◌∙◌, string_bytes, decimal, rules, arith}
use Rattle.doc_forms.proofs.Decimals.{index_text_decimal}
use Rattle.doc_forms.proofs.writers.number_text.Goals as goal

pub returns : goal.returns
returns c = let text : string_bytes c.in_ok-text.text ≡ decimal c.args.number = search rules in text ∙ index_text_decimal c.args.number (omega arith)
