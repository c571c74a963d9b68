use Rattle.std.proofs.Common.{◌≡◌, ◌+◌, ◌-◌, ◌++◌, suc, Ok, map, option_map, arith, ap, sym, ◌∙◌}
use Rattle.spec_documents.specs.Place.{◌>>=◌}
use Rattle.spec_documents.specs.Hole.{gathered}
use Rattle.enc_index.specs.Places.{place_view}
use Rattle.enc_index.proofs.Settling.{gathered-more, gathered-missing, left_after, count_more}
use Rattle.enc_index.proofs.settle.gathered.Goals as goal

pub returns-in-None : goal.returns-in-None
returns-in-None c ms h =
    let i = c.loop-index.index-counter in
    let more : c.args.count - i ≡ suc (c.args.count - (i + 1)) = omega arith in
    gathered-missing ms (c.args.count - (i + 1)) i (map place_view c.loop-index.places) (gathered ms c.args.count 0)
    (sym (c.loop-index.invariant.left ms h i (omega arith)) ∙ ap (option_map place_view) (sym c.in-None.ensures.value))
    (ap (λ n. gathered ms n i >>= λ qs. Ok (map place_view c.loop-index.places ++ qs)) (sym more) ∙ c.loop-index.invariant.done ms h)

pub loop-index-preserved : goal.loop-index-preserved
loop-index-preserved c =
    let i = c.loop-index.index-counter in record {
      count = count_more c.push.new.self c.loop-index.places c.in-Some.place i c.in_ok-push-in-Some.ensures.ok c.loop-index.invariant.count;
      left = λ ms h q le. left_after c.loop-index.first c.remove.new.self ms i q c.in-Some.ensures.updates (omega arith) (c.loop-index.invariant.left ms h q (omega arith));
      done = λ ms h. gathered-more ms c.args.count i c.in-Some.place c.loop-index.places c.push.new.self (omega arith) c.in_ok-push-in-Some.ensures.ok
          (sym (c.loop-index.invariant.left ms h i (omega arith)) ∙ ap (option_map place_view) (sym c.in-Some.ensures.value)) (c.loop-index.invariant.done ms h);
    }
