use Rattle.std.proofs.Common.{◌≡◌, suc, ◌+◌, true, false, refl, subst, ◌∙◌, arith}
use Rattle.spec_documents.specs.Gives.{Tells}
use Rattle.n32_values.specs.View.{tree_of}
use Rattle.entry_checks.specs.Views.{route_view, terms_view}
use Rattle.entry_checks.specs.Verifiers.{verdict, verifying}
use Rattle.entry_checks.specs.Steps.{Numbers, Went, entry_on, step_told, fault_says, fault_fails}
use Rattle.entry_checks.proofs.Sayings.{always, saying_at, said_before, said_at, rose_later, failing_rose, numbered_tells}
use Rattle.entry_checks.proofs.Progressing.{at_start, at_next, at_end, at_refusal}
use Rattle.entry_checks.proofs.entries.all_entries.Goals as goal

pub loop-i-init : goal.loop-i-init
loop-i-init g c = record {
  reached = λ b. at_start (g.V.Verifier.meaning c.args.verifier.now) (terms_view c.args.terms.now b.holes) c.args.block b.clear c.args.entries.now b.block;
  same = refl;
  later = omega arith;
}

pub loop-i-preserved : goal.loop-i-preserved
loop-i-preserved g c =
    let l = c.loop-i.invariant in
    record {
      reached = λ b.
          let t = terms_view c.args.terms.now b.holes in
          let w = c.loop-i.current in
          let h = l.reached b in
          let e = tree_of c.item.result.now in
          let made = subst (λ m. Went b.holes c.step.new.block (route_view c.in-Ok.later) (entry_on t (route_view c.loop-i.rest) (verdict m true false) w h.holed e)) l.same (c.in-Ok.ensures.steps (record { holes = b.holes; clear = h.holed; block = h.block })) in
          at_next (g.V.Verifier.meaning c.args.verifier.now) t c.args.block b.clear c.args.entries.now c.loop-i.i (route_view c.loop-i.rest) w h e c.step.new.block (route_view c.in-Ok.later) c.item.ensures made;
      same = c.step.ensures.same_meaning ∙ l.same;
      later = omega (arith, l.later, c.step.ensures.later);
    }

pub returns : goal.returns
returns g c =
    let l = c.loop-i.invariant in
    record {
      answer = record {
        saying = always;
        failed = tt;
        comes = λ b. at_end (g.V.Verifier.meaning c.args.verifier.now) (terms_view c.args.terms.now b.holes) c.args.block b.clear c.args.entries.now c.loop-i.i (route_view c.loop-i.rest) c.loop-i.current
            (verifying (g.V.Verifier.meaning c.args.verifier.now) always) (omega arith) (λ k lt x. refl) (l.reached b);
      };
      same_meaning = l.same;
      later = l.later;
      failed = λ v. cc;
    }

pub returns-in-Err-clause-answer : goal.returns-in-Err-clause-answer
returns-in-Err-clause-answer g c =
    let l = c.loop-i.invariant in
    let m = g.V.Verifier.meaning c.args.verifier.now in
    let f = c.in-Err.fault in
    let i = c.loop-i.i in
    let more : i + 1 ≡ suc i = omega arith in
    record {
      saying = saying_at (suc i) f;
      failed = failing_rose (suc i) (g.V.Verifier.faults c.args.verifier.now) (g.V.Verifier.faults c.step.new.verifier) (fault_fails f)
          (λ e. rose_later (g.V.Verifier.faults c.args.verifier.now) (g.V.Verifier.faults c.loop-i.verifier) (g.V.Verifier.faults c.step.new.verifier) l.later (c.in-Err.ensures.failed e));
      comes = λ b.
          let t = terms_view c.args.terms.now b.holes in
          let w = c.loop-i.current in
          let h = l.reached b in
          let e = tree_of c.item.result.now in
          let told = subst (λ m. Tells (step_told f) (entry_on t (route_view c.loop-i.rest) (verdict m (fault_says f) (fault_fails f)) w h.holed e)) l.same (c.in-Err.ensures.steps (record { holes = b.holes; clear = h.holed; block = h.block })) in
          numbered_tells (suc i) f c.numbered.result _ (subst (λ n. Numbers n f c.numbered.result) more c.numbered.ensures)
          (λ why is. at_refusal m t c.args.block b.clear c.args.entries.now i (route_view c.loop-i.rest) w h e (verifying m (saying_at (suc i) f)) (verdict m (fault_says f) (fault_fails f)) why c.item.ensures
          (said_before m (suc i) f) (said_at m (suc i) f) (subst (λ o. Tells o (entry_on t (route_view c.loop-i.rest) (verdict m (fault_says f) (fault_fails f)) w h.holed e)) is told));
    }
