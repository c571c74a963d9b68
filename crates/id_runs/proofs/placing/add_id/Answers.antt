use Rattle.std.proofs.Common.{arith}
use Rattle.id_runs.proofs.Joined.{put_apart, put_has}
use Rattle.id_runs.proofs.placing.add_id.Goals as goal

pub returns-clause-apart : goal.returns-clause-apart
returns-clause-apart c = rw c.put_run.ensures
    (put_apart c.joined_below-from.result.0 c.joined_above-to.result.0 c.args.runs.now.items c.joined_below-from.result.1 c.joined_above-to.result.1 c.requires.apart
    (rw c.as_slice-2.ensures.value at c.joined_below-from.ensures.apart) (omega (arith, c.joined_below-from.ensures.first, c.joined_above-to.ensures.last)) (rw c.as_slice-3.ensures.value at c.joined_above-to.ensures.apart))

pub returns-clause-same : goal.returns-clause-same
returns-clause-same c = λ x. rw c.put_run.ensures
    (put_has x c.args.id c.runs_below-place.result c.joined_below-from.result.0 c.joined_above-to.result.0 c.args.runs.now.items c.joined_below-from.result.1 c.joined_above-to.result.1
    c.joined_below-from.ensures.first c.joined_above-to.ensures.last
    (rw c.as_slice-2.ensures.value at (c.joined_below-from.ensures.same x)) (rw c.as_slice-3.ensures.value at (c.joined_above-to.ensures.same x)))
