use Rattle.std.proofs.Common.{◌≡◌, ℕ, ◌+◌, ◌-◌, ◌<◌, ◌≤◌, ◌||◌, suc, List, length, take, slice_get, slice_index_or, Some, subst, arith}
use Rattle.std.proofs.lemmas.Option.{slice_get-get_or}
use Rattle.id_runs.specs.Runs.{AreApart, IsBelow, end_of, has_run, is_in, run}
use Rattle.id_runs.specs.declared.run_list.Run.{Run}
use Rattle.id_runs.proofs.Rising.{below_at, end_take, stands, Stands}
use Rattle.id_runs.proofs.Joined.{joined_to}
use Rattle.id_runs.proofs.placing.joined_below.Goals as goal

-- what is known of the run before a place
record Before (place id : ℕ) (rs : List Run) (r : Run) : Type 0 where
  pub there : slice_get rs (place - 1) ≡ Some r
  pub under : r.last < id
  pub stands : Stands 0 (place - 1) rs r
  pub next : place - 1 + 1 ≡ place

before : (place id : ℕ) (rs : List Run) → 0 < place → place ≤ length rs → AreApart 0 rs → IsBelow id (take place rs) → Before place id rs (slice_index_or rs (place - 1) (run 0 0))
before place id rs some within apart below =
    let r = slice_index_or rs (place - 1) (run 0 0) in
    let there : slice_get rs (place - 1) ≡ Some r = slice_get-get_or rs (place - 1) (run 0 0) (omega (arith, some, within)) in
    let next : place ≡ suc (place - 1) = omega (arith, some) in
    record {
      there = there;
      under = below_at id (place - 1) rs r (subst (λ n. IsBelow id (take n rs)) next below) there;
      stands = stands 0 (place - 1) rs r apart there;
      next = omega (arith, some);
    }

pub overflow_sub-id : goal.overflow_sub-id
overflow_sub-id c = let b = before c.args.place c.args.id c.args.runs.now c.if-place-gt0.true c.requires.within c.requires.apart c.requires.below in omega (arith, b.under)

pub returns-then-id-run-clause-first : goal.returns-then-id-run-clause-first
returns-then-id-run-clause-first c =
    let b = before c.args.place c.args.id c.args.runs.now c.if-place-gt0.true c.requires.within c.requires.apart c.requires.below in
    omega (arith, b.under, b.stands.order)

pub returns-then-id-run-clause-apart : goal.returns-then-id-run-clause-apart
returns-then-id-run-clause-apart c =
    let b = before c.args.place c.args.id c.args.runs.now c.if-place-gt0.true c.requires.within c.requires.apart c.requires.below in b.stands.behind

pub returns-then-id-run-clause-same : goal.returns-then-id-run-clause-same
returns-then-id-run-clause-same c = λ x.
    let b = before c.args.place c.args.id c.args.runs.now c.if-place-gt0.true c.requires.within c.requires.apart c.requires.below in
    let r = slice_index_or c.args.runs.now (c.args.place - 1) (run 0 0) in
    subst (λ n. (has_run x (take n c.args.runs.now) || is_in x (run c.args.id c.args.id)) ≡ (has_run x (take (c.args.place - 1) c.args.runs.now) || is_in x (run r.first c.args.id))) b.next
    (joined_to x c.args.id (c.args.place - 1) c.args.runs.now r b.there b.stands.order (omega (arith, b.under, c.if-id-run.true)))

pub returns-else-id-run-clause-apart : goal.returns-else-id-run-clause-apart
returns-else-id-run-clause-apart c =
    let b = before c.args.place c.args.id c.args.runs.now c.if-place-gt0.true c.requires.within c.requires.apart c.requires.below in
    let r = slice_index_or c.args.runs.now (c.args.place - 1) (run 0 0) in
    let end : end_of 0 (take c.args.place c.args.runs.now) ≡ r.last + 2 = subst (λ n. end_of 0 (take n c.args.runs.now) ≡ r.last + 2) b.next (end_take 0 (c.args.place - 1) c.args.runs.now r b.there) in
    omega (arith, end, b.under, c.if-id-run.false)
