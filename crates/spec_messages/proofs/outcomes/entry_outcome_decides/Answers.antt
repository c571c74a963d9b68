use Rattle.std.proofs.Common.{◌≡◌, ◌+◌, suc, length, ap, ◌∙◌, Err, arith}
use Rattle.spec_messages.specs.Outcome.{outcome_from}
use Rattle.spec_messages.proofs.OutcomeLemmas.{entry-made, entry-applied, entry-refused, entry-cause}
use Rattle.spec_messages.proofs.outcomes.entry_outcome_decides.Goals as goal

pub returns : goal.returns
returns c = record {
  made = λ g ops r e. entry-made g.policy g.mapping g.ipx g.holes 1 ops g.tree g.clear r e;
  applied = λ g ops r a. entry-applied g.policy g.mapping g.ipx g.holes 1 ops g.tree g.clear r g.block a;
  refused = λ g ops i why e.
      let h = entry-refused g.policy g.mapping g.ipx g.holes 1 ops g.tree g.clear i why g.block e in
      let from : i ≡ 1 + length h.earlier = h.number in
      let number : i ≡ suc (length h.earlier) = omega (arith, from) in
      record { earlier = h.earlier; operation = h.operation; later = h.later; are = h.are; number = number; reached = h.reached; message = h.message; applied = h.applied; cause = h.cause };
  cause = λ g ops i why h.
      let from : i ≡ suc (length h.earlier) = h.number in
      let number : 1 + length h.earlier ≡ i = omega (arith, from) in
      ap (λ l. outcome_from g.policy g.mapping g.ipx g.holes 1 l g.tree g.clear) h.are
      ∙ (entry-cause g.policy g.mapping g.ipx g.holes 1 h.earlier h.operation h.later g.tree g.clear h.reached h.message why g.block h.applied h.cause ∙ ap (λ x. Err (x, why)) number);
}
