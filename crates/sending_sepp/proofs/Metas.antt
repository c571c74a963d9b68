-- The metadata of a block that is sent is in its grammar.
use Rattle.std.proofs.Common.{◌≡◌, ℕ, ◌<◌, ◌^◌, List, [], ◌∷◌, length, true, ◌||◌, nat_le, refl, bytes_eq, codes}
use Rattle.std.proofs.lemmas.Bool.{and_parts, or_left}
use Rattle.std.specs.List.{list_all}
use Rattle.spec_documents.specs.Text.{is_identity}
use Rattle.spec_messages.specs.Block.{is_meta}
use Rattle.spec_records.specs.Records.{Context}
use Rattle.spec_records.specs.RecordDocument.{are_ipx}
use Rattle.spec_exchange.specs.Calls.{authorized, metadata_for}
use Rattle.spec_exchange.proofs.SentLemmas.{is_meta-for}

authorized_fits : (ss : List (List ℕ)) → are_ipx ss ≡ true → (is_identity (authorized ss) || bytes_eq (authorized ss) (codes "null")) ≡ true
authorized_fits [] h = refl
authorized_fits (s ∷ ss) h =
    let p = and_parts (nat_le (length (s ∷ ss)) 1) (list_all is_identity (s ∷ ss)) h in
    or_left (is_identity s) _ (and_parts (is_identity s) (list_all is_identity ss) p.1).0

pub metadata_fits : (x : Context) (message : ℕ) → are_ipx x.own_ipx ≡ true → x.peer < 2 ^ 64 → message < 2 ^ 64 → is_meta (metadata_for x message) ≡ true
metadata_fits x message own peer range = is_meta-for x message (record { peer = peer; ipx = authorized_fits x.own_ipx own }) range
