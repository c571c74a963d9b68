-- What a line is read to, from what the reader of documents says.
use Rattle.std.proofs.Common.{◌≡◌, ℕ, List, true, false, cond, refl, ap, ◌∙◌, Some, None}
use Rattle.std.specs.Prelude.{Option, Bool, Ok, Err}
use Rattle.std.specs.Str.{is_utf8}
use Rattle.std.proofs.lemmas.Str.{IsUtf8-from_is_utf8, is_utf8-from_IsUtf8}
use Rattle.serde_json.specs.Data.{Data}
use Rattle.serde_json.specs.Read.{read}
use Rattle.spec_documents.specs.Tree.{Tree}
use Rattle.spec_documents.specs.Reading.{HasReading, ReadsTo, HasOtherNumber}
use Rattle.spec_script.specs.Refusals.{Syntax, OtherNumber}
use Rattle.spec_script.specs.LineTree.{text_value, value_tree, or_other_number, line_tree}

-- a reading is the value of the text
value_is : (line : List ℕ) (value : Data) → HasReading line value → text_value line ≡ Some value
value_is line value has = ap (λ b. cond b (read line) None) (is_utf8-from_IsUtf8 line has.utf8) ∙ has.value

pub tree_read : (line : List ℕ) (t : Tree) → ReadsTo line t → line_tree line ≡ Ok t
tree_read line t r = ap value_tree (value_is line r.reading r.has) ∙ ap or_other_number r.tree

pub number_read : (line : List ℕ) → HasOtherNumber line → line_tree line ≡ Err OtherNumber
number_read line r = ap value_tree (value_is line r.reading r.has) ∙ ap or_other_number r.none

-- without a reading there is no value
none_is : (line : List ℕ) → ((value : Data) → HasReading line value → ⊥) → text_value line ≡ None
none_is line none = by_utf8 (is_utf8 line) refl
  where
    by_value : (value : Option Data) → is_utf8 line ≡ true → read line ≡ value → value ≡ None
    by_value None utf8 is = refl
    by_value (Some value) utf8 is = absurd (none value (record { utf8 = IsUtf8-from_is_utf8 line utf8; value = is }))

    by_utf8 : (b : Bool) → is_utf8 line ≡ b → text_value line ≡ None
    by_utf8 true is = ap (λ b. cond b (read line) None) is ∙ by_value (read line) is refl
    by_utf8 false is = ap (λ b. cond b (read line) None) is

pub syntax_read : (line : List ℕ) → ((value : Data) → HasReading line value → ⊥) → line_tree line ≡ Err Syntax
syntax_read line none = ap value_tree (none_is line none)
