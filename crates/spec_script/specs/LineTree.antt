-- The tree of a line: `serde_json`'s reading, with whole numbers alone (RFC 8259; the range of numbers is this project's own).
use Rattle.std.specs.Prelude.{ℕ, List, Option, Some, None, Result, Ok, Err, if◌then◌else◌}
use Rattle.std.specs.Str.{is_utf8}
use Rattle.serde_json.specs.Data.{Data}
use Rattle.serde_json.specs.Read.{read}
use Rattle.spec_documents.specs.Tree.{Tree}
use Rattle.spec_documents.specs.Reading.{tree_from}
use Rattle.spec_script.specs.Refusals.{Refusal, Syntax, OtherNumber}

-- the value that a text in UTF-8 is
abbrev pub text_value : List ℕ → Option Data
text_value bytes = if is_utf8 bytes then read bytes else None

abbrev pub or_other_number : Option Tree → Result Tree Refusal
or_other_number None = Err OtherNumber
or_other_number (Some t) = Ok t

abbrev pub value_tree : Option Data → Result Tree Refusal
value_tree None = Err Syntax
value_tree (Some value) = or_other_number (tree_from value)

-- the tree of a line, or why it has none
abbrev pub line_tree : List ℕ → Result Tree Refusal
line_tree line = value_tree (text_value line)
