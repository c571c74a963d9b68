-- The plaintext of a sealed message (after TS 33.501 clause 13.2.4.3.2): the list of values that the holes of its block stand for.
use Rattle.std.specs.Prelude.{ℕ, List, [], ◌∷◌, Option, Some, None, option_and_then, codes}
use Rattle.spec_documents.specs.Tree.{Tree, null, truth, whole, words, items, members, get_member, tree_list, items_in, trees, object}
use Rattle.spec_documents.specs.Compact.{compact_text}
use Rattle.spec_documents.specs.Reading.{document_of}

-- a bare list, or the list `dataToEncrypt` of an object
abbrev pub values_in : Tree → Option (List Tree)
values_in null = None
values_in (truth b) = None
values_in (whole z) = None
values_in (words s) = None
values_in (items ts) = Some (tree_list ts)
values_in (members ms) = items_in (get_member (codes "dataToEncrypt") ms)

abbrev pub values_of : List ℕ → Option (List Tree)
values_of plain = option_and_then values_in (document_of plain)

-- the object that is written
abbrev pub values_tree : List Tree → Tree
values_tree vs = members (object ((codes "dataToEncrypt", items (trees vs)) ∷ []))

abbrev pub plaintext : List Tree → List ℕ
plaintext vs = compact_text (values_tree vs)
