-- What a plaintext is read to, over what its document is read to.
use Rattle.std.proofs.Common.{◌≡◌, ℕ, List, [], ◌∷◌, Option, Some, ◌≤◌, sym, ap, ◌∙◌, subst, arith}
use Rattle.std.specs.Prelude.{option_and_then, codes}
use Rattle.spec_documents.specs.Tree.{Tree, items, members, Members, trees, object, depth, items_depth}
use Rattle.spec_documents.proofs.FieldLemmas.{list-trees}
use Rattle.spec_documents.specs.Reading.{ReadsTo, document_of}
use Rattle.spec_sealing.specs.Plaintext.{values_in, values_of}

pub read_of : (bytes : List ℕ) (t : Tree) (o : Option (List Tree)) → document_of bytes ≡ Some t → values_in t ≡ o → values_of bytes ≡ o
read_of bytes t o e is = ap (option_and_then values_in) e ∙ is

-- ---- what was written

abbrev wrapped : List Tree → Tree
wrapped vs = members (object ((codes "dataToEncrypt", items (trees vs)) ∷ []))

pub written_back : (bytes : List ℕ) (vs : List Tree) (ms : Members) → ms ≡ object ((codes "dataToEncrypt", items (trees vs)) ∷ []) → items_depth (trees vs) ≤ 125
    → (depth (members ms) ≤ 127 → ReadsTo bytes (members ms)) → ((t : Tree) → ReadsTo bytes t → document_of bytes ≡ Some t) → values_of bytes ≡ Some vs
written_back bytes vs ms is h back there =
    let deep : depth (wrapped vs) ≤ 127 = omega (arith, h) in
    let shallow : depth (members ms) ≤ 127 = subst (λ x. depth (members x) ≤ 127) (sym is) deep in
    read_of bytes (members ms) (Some vs) (there (members ms) (back shallow)) (ap (λ x. values_in (members x)) is ∙ ap Some (list-trees vs))
