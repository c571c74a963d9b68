use Rattle.std.proofs.Common.{◌≡◌, ℕ, true, List, Option, Some, None, Ok, Err, ap, option_map}
use Rattle.spec_documents.specs.Tree.{Tree}
use Rattle.spec_messages.specs.Message.{wanted}
use Rattle.spec_records.specs.RecordDocument.{are_ipx, ipx_in}
use Rattle.spec_records.proofs.NameLemmas.{ipx_named}
use Rattle.n32_values.specs.View.{tree_of}
use Rattle.worked_seals.proofs.handshake_steps.ipx_in.Goals as goal

given : {A E : Type 0} (o : Option A) (k : E) (x : A) → wanted o k ≡ Ok x → o ≡ Some x
given None k x e = cc
given (Some y) k x e = let same : y ≡ x = cc in ap Some same

named : {E : Type 0} (o : Option Tree) (k : E) (ss : List (List ℕ)) → wanted (ipx_in o) k ≡ Ok ss → are_ipx ss ≡ true
named o k ss e = ipx_named o ss (given (ipx_in o) k ss e)

pub returns-in-Ok : goal.returns-in-Ok
returns-in-Ok c = named (option_map (λ n. tree_of n.now) c.get.result) _ c.in-Ok.ipx c.in-Ok.ensures
