-- Entries in their form are those of the list, if there is one.
use Rattle.std.proofs.Common.{◌≡◌, Bool, true, false, List, [], length, Option, Some, None, refl, cond}
use Rattle.std.specs.Prelude.{is_some, nat_le, unwrap_or}
use Rattle.spec_documents.specs.Tree.{Tree, null, truth, whole, words, items, members, tree_list, items_in}
use Rattle.spec_sealing.specs.Received.{entries_in}

few : (b : Bool) (ts : List Tree) → is_some (cond b (Some ts) None) ≡ true → cond b (Some ts) None ≡ Some ts
few true ts e = refl
few false ts e = cc

pub listed_entries : (o : Option Tree) → is_some (entries_in o) ≡ true → entries_in o ≡ Some (unwrap_or (items_in o) [])
listed_entries None e = refl
listed_entries (Some null) e = refl
listed_entries (Some (truth b)) e = cc
listed_entries (Some (whole z)) e = cc
listed_entries (Some (words s)) e = cc
listed_entries (Some (items ts)) e = few (nat_le (length (tree_list ts)) 2) (tree_list ts) e
listed_entries (Some (members ms)) e = cc
