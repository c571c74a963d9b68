use Rattle.std.proofs.Common.{◌≡◌, ◌<◌, slice_get, slice_index_or, Some, arith}
use Rattle.std.proofs.lemmas.Option.{slice_get-get_or}
use Rattle.id_runs.specs.Runs.{run}
use Rattle.id_runs.proofs.Rising.{above_at, apart_behind, apart_next, stands}
use Rattle.id_runs.proofs.Joined.{joined_with}
use Rattle.id_runs.proofs.placing.joined_above.Goals as goal

pub overflow_sub-run : goal.overflow_sub-run
overflow_sub-run c =
    let r = slice_index_or c.args.runs.now c.args.place (run 0 0) in
    let there : slice_get c.args.runs.now c.args.place ≡ Some r = slice_get-get_or c.args.runs.now c.args.place (run 0 0) c.if-place-runs.true in
    omega (arith, above_at c.args.id c.args.place c.args.runs.now r c.requires.above there)

pub returns-then-run-id-clause-last : goal.returns-then-run-id-clause-last
returns-then-run-id-clause-last c =
    let r = slice_index_or c.args.runs.now c.args.place (run 0 0) in
    let there : slice_get c.args.runs.now c.args.place ≡ Some r = slice_get-get_or c.args.runs.now c.args.place (run 0 0) c.if-place-runs.true in
    let s = stands 0 c.args.place c.args.runs.now r c.requires.apart there in
    omega (arith, s.order, above_at c.args.id c.args.place c.args.runs.now r c.requires.above there)

pub returns-then-run-id-clause-apart : goal.returns-then-run-id-clause-apart
returns-then-run-id-clause-apart c =
    apart_behind 0 c.args.place c.args.runs.now (slice_index_or c.args.runs.now c.args.place (run 0 0)) c.requires.apart (slice_get-get_or c.args.runs.now c.args.place (run 0 0) c.if-place-runs.true)

pub returns-then-run-id-clause-same : goal.returns-then-run-id-clause-same
returns-then-run-id-clause-same c = λ x.
    let r = slice_index_or c.args.runs.now c.args.place (run 0 0) in
    let there : slice_get c.args.runs.now c.args.place ≡ Some r = slice_get-get_or c.args.runs.now c.args.place (run 0 0) c.if-place-runs.true in
    let s = stands 0 c.args.place c.args.runs.now r c.requires.apart there in
    let under : c.args.id < r.first = above_at c.args.id c.args.place c.args.runs.now r c.requires.above there in
    joined_with x c.args.id c.args.place c.args.runs.now r there s.order (omega (arith, under, c.if-run-id.true))

pub returns-else-run-id-clause-apart : goal.returns-else-run-id-clause-apart
returns-else-run-id-clause-apart c =
    let r = slice_index_or c.args.runs.now c.args.place (run 0 0) in
    let there : slice_get c.args.runs.now c.args.place ≡ Some r = slice_get-get_or c.args.runs.now c.args.place (run 0 0) c.if-place-runs.true in
    apart_next 0 c.args.id c.args.place c.args.runs.now r c.requires.apart there (above_at c.args.id c.args.place c.args.runs.now r c.requires.above there) c.if-run-id.false
