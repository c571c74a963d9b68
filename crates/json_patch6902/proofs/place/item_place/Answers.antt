use Rattle.std.proofs.Common.{◌≡◌, true, min, ◌^◌, ◌-◌, arith, rules}
use Rattle.spec_documents.specs.Place.{is_index, index_number}
use Rattle.json_ptr.proofs.Indexes.{item_past}
use Rattle.json_patch6902.proofs.NewPlaces.{stands_at}
use Rattle.json_patch6902.proofs.place.item_place.Goals as goal

pub returns-then-i-len : goal.returns-then-i-len
returns-then-i-len c =
    let on : is_index c.args.token.now ≡ true = search rules in
    let num : c.capped_number-i.result ≡ min (index_number c.args.token.now) (2 ^ 64 - 1) = rw c.as_bytes-bytes.ensures.value at c.capped_number-i.ensures in
    stands_at c.args.token.now c.args.list.now c.capped_number-i.result (2 ^ 64 - 1) on num (omega arith) (omega arith)

pub returns-else-i-len : goal.returns-else-i-len
returns-else-i-len c =
    let on : is_index c.args.token.now ≡ true = search rules in
    let num : c.capped_number-i.result ≡ min (index_number c.args.token.now) (2 ^ 64 - 1) = rw c.as_bytes-bytes.ensures.value at c.capped_number-i.ensures in
    item_past c.args.list.now c.args.token.now c.capped_number-i.result (2 ^ 64 - 1) on num (omega arith)
