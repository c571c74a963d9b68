use Rattle.doc_forms.proofs.Tokens.{token_is}
use Rattle.doc_forms.proofs.grammar.is_token.Goals as goal

pub returns : goal.returns
returns c = token_is c.is_token.result c.args.text.now (rw (c.as_bytes.ensures.value) at c.is_token.ensures)
