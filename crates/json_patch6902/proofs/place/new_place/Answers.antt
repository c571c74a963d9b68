use Rattle.std.proofs.Common.{◌≡◌, true, false, min, ◌^◌, ◌-◌, arith, rules}
use Rattle.spec_documents.specs.Place.{is_index, index_number, is_dash}
use Rattle.json_patch6902.proofs.NewPlaces.{dash_place, index_place, past_place, place_takes}
use Rattle.json_patch6902.proofs.place.new_place.Goals as goal

pub returns-then-is_dash-clause-place : goal.returns-then-is_dash-clause-place
returns-then-is_dash-clause-place c =
    let on : is_dash c.args.token.now ≡ true = search rules in
    rw c.len-end.ensures (dash_place c.args.token.now c.args.list.now on)

pub returns-then-is_dash-clause-takes : goal.returns-then-is_dash-clause-takes
returns-then-is_dash-clause-takes c =
    let on : is_dash c.args.token.now ≡ true = search rules in
    place_takes c.args.token.now c.args.list.now _ (dash_place c.args.token.now c.args.list.now on)

pub returns-then-i-end-clause-place : goal.returns-then-i-end-clause-place
returns-then-i-end-clause-place c =
    let no : is_dash c.args.token.now ≡ false = search rules in
    let on : is_index c.args.token.now ≡ true = search rules in
    let num : c.capped_number-i.result ≡ min (index_number c.args.token.now) (2 ^ 64 - 1) = rw c.as_bytes-bytes.ensures.value at c.capped_number-i.ensures in
    index_place c.args.token.now c.args.list.now c.capped_number-i.result (2 ^ 64 - 1) no on num (omega arith) (omega arith)

pub returns-then-i-end-clause-takes : goal.returns-then-i-end-clause-takes
returns-then-i-end-clause-takes c =
    let no : is_dash c.args.token.now ≡ false = search rules in
    let on : is_index c.args.token.now ≡ true = search rules in
    let num : c.capped_number-i.result ≡ min (index_number c.args.token.now) (2 ^ 64 - 1) = rw c.as_bytes-bytes.ensures.value at c.capped_number-i.ensures in
    place_takes c.args.token.now c.args.list.now _ (index_place c.args.token.now c.args.list.now c.capped_number-i.result (2 ^ 64 - 1) no on num (omega arith) (omega arith))

pub returns-else-i-end-clause-takes : goal.returns-else-i-end-clause-takes
returns-else-i-end-clause-takes c =
    let no : is_dash c.args.token.now ≡ false = search rules in
    let on : is_index c.args.token.now ≡ true = search rules in
    let num : c.capped_number-i.result ≡ min (index_number c.args.token.now) (2 ^ 64 - 1) = rw c.as_bytes-bytes.ensures.value at c.capped_number-i.ensures in
    past_place c.args.token.now c.args.list.now c.capped_number-i.result (2 ^ 64 - 1) no on num (omega arith)
