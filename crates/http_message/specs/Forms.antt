-- How the program reads the parts of a line and of headers, in a message's document and in a block.
use Rattle.std.specs.Prelude.{ℕ, List, Option, Some, None, option_map}
use Rattle.spec_documents.specs.Tree.{Tree}
use Rattle.spec_documents.specs.Text.{is_segment, is_query_value, is_header_value}
use Rattle.spec_documents.specs.Hole.{text_hole, hole_index}
use Rattle.spec_messages.specs.Message.{Part, hole_part, clear, Parts, text_if}
use Rattle.spec_messages.specs.Block.{hole_or_clear}
use Rattle.doc_forms.specs.Capped.{capped}
use Rattle.http_message.specs.declared.form.Form.{Form}
use Rattle.http_message.specs.declared.form.Form.TheVariants.{Plain, Block}

-- a number that the program doesn't hold is read as the greatest that it does
abbrev pub text_hole_in : Form → List ℕ → Option ℕ
text_hole_in Plain s = None
text_hole_in Block s = option_map capped (text_hole s)

abbrev pub value_hole_in : Form → Tree → Option ℕ
value_hole_in Plain t = None
value_hole_in Block t = option_map capped (hole_index t)

abbrev pub hole_or_text : Option ℕ → Tree → Option Part
hole_or_text None t = option_map clear (text_if is_header_value t)
hole_or_text (Some n) t = Some (hole_part n)

-- the parts of a block are those of its definition, but for numbers past 2^32 - 1
unfoldable pub parts_of : Form → Parts
parts_of f = record {
  segment = λ s. hole_or_clear is_segment s (text_hole_in f s);
  value = λ s. hole_or_clear is_query_value s (text_hole_in f s);
  header = λ t. hole_or_text (value_hole_in f t) t;
}
