use Rattle.std.proofs.Common.{refl, arith}
use Rattle.entry_checks.specs.Views.{terms_view}
use Rattle.entry_checks.specs.Verifiers.{verifying}
use Rattle.entry_checks.proofs.Sayings.{always}
use Rattle.entry_checks.proofs.Progressing.{at_start, at_end}
use Rattle.entry_checks.proofs.entries.apply_entries.Goals as goal

pub returns-then-len-eq0-clause-answer : goal.returns-then-len-eq0-clause-answer
returns-then-len-eq0-clause-answer g c =
    let m = g.V.Verifier.meaning c.args.verifier.now in
    let es = c.args.entries.now in
    record {
      saying = always;
      failed = tt;
      comes = λ b.
          let t = terms_view c.args.terms.now b.holes in
          at_end m t c.args.block b.clear es 0 t.route c.args.block (verifying m always) (omega arith) (λ k lt x. refl) (at_start m t c.args.block b.clear es b.block);
    }
