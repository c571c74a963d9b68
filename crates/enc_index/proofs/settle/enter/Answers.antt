use Rattle.std.proofs.Common.{◌∙◌, sym}
use Rattle.enc_index.specs.Places.{place_view}
use Rattle.enc_index.proofs.Settling.{seen_place, has_place, twice_seen, twice_new, first_new}
use Rattle.enc_index.proofs.settle.enter.Goals as goal

pub returns-then-contains_key : goal.returns-then-contains_key
returns-then-contains_key c ms h =
    let seen = has_place c.args.table.now.first ms c.args.index _ h.first c.contains_key.ensures ∙ c.if-contains_key.true in record {
      first = λ i. h.first i ∙ sym (seen_place i c.args.index (place_view c.args.place) ms seen);
      twice = c.or-table.ensures ∙ twice_seen ms c.args.index (place_view c.args.place) c.args.table.now.twice h.twice seen;
    }

pub returns-in-Ok : goal.returns-in-Ok
returns-in-Ok c ms h =
    let new = has_place c.args.table.now.first ms c.args.index _ h.first c.contains_key.ensures ∙ c.if-contains_key.false in record {
      first = first_new c.args.table.now.first c.insert.new.self ms c.args.index c.args.place h.first new c.in-Ok.ensures.updates;
      twice = h.twice ∙ twice_new ms c.args.index (place_view c.args.place) new;
    }
