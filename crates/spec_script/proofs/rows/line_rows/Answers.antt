use Rattle.std.proofs.Common.{refl}
use Rattle.std.specs.Str.{is_utf8, chars}
use lib.Utf8.{encode}
use Rattle.json.specs.Lex.{lex, punctuate}
use Rattle.json.specs.Json as json
use Rattle.json.specs.Text.{content}
use Rattle.json.specs.Word.{word, after_number}
use Rattle.spec_script.proofs.rows.line_rows.Goals as goal

pub returns-clause-fly : goal.returns-clause-fly
unfolding is_utf8 chars encode lex punctuate json.items json.members json.value content word after_number
returns-clause-fly c = refl

pub returns-clause-restart : goal.returns-clause-restart
unfolding is_utf8 chars encode lex punctuate json.items json.members json.value content word after_number
returns-clause-restart c = refl

pub returns-clause-syntax : goal.returns-clause-syntax
unfolding is_utf8 chars encode lex punctuate json.items json.members json.value content word after_number
returns-clause-syntax c = refl
