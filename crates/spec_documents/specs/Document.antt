-- Which trees the values of the program can have.
use Rattle.std.specs.Prelude.{⊤, IsUtf8}
use Rattle.spec_documents.specs.Whole.{IsWhole}
use Rattle.spec_documents.specs.Tree.{Tree, null, truth, whole, words, items, members, Trees, no_items, item, Members, no_members, member}
use Rattle.spec_documents.specs.Fields.{field_list, AreAscending}

-- numbers are in range, texts are UTF-8, and the names of each map ascend
abbrev mutual
  pub IsDocument : Tree → Type 0
  IsDocument null = ⊤
  IsDocument (truth b) = ⊤
  IsDocument (whole z) = IsWhole z
  IsDocument (words s) = IsUtf8 s
  IsDocument (items ts) = ItemsAreDocuments ts
  IsDocument (members fs) = AreAscending (field_list fs) × MembersAreDocuments fs

  pub ItemsAreDocuments : Trees → Type 0
  ItemsAreDocuments no_items = ⊤
  ItemsAreDocuments (item t ts) = IsDocument t × ItemsAreDocuments ts

  pub MembersAreDocuments : Members → Type 0
  MembersAreDocuments no_members = ⊤
  MembersAreDocuments (member k t fs) = IsUtf8 k × IsDocument t × MembersAreDocuments fs
