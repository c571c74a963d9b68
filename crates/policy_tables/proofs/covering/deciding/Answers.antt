use Rattle.std.proofs.Common.{sym, ap, ◌∙◌, arith}
use Rattle.spec_messages.specs.Policy.{heavier}
use Rattle.http_message.specs.Reading.{kind_view}
use Rattle.policy_documents.specs.View.{element_view}
use Rattle.policy_tables.specs.View.{site_view}
use Rattle.policy_tables.proofs.CoverLemmas.{decides_here, decides_later}
use Rattle.policy_tables.proofs.covering.deciding.Goals as goal

pub backwards-preserved-then-covers : goal.backwards-preserved-then-covers
backwards-preserved-then-covers c = record {
  best = c.heavier.ensures ∙ ap (heavier (kind_view c.args.kind) (element_view c.item-element.result.now)) c.backwards.invariant.best
      ∙ sym (decides_here (kind_view c.args.kind) c.args.elements.now c.backwards.i c.item-element.result.now (site_view c.args.site) (omega arith) c.item-element.ensures (sym c.covers.ensures ∙ c.if-covers.true));
  within = omega arith;
}

pub backwards-preserved : goal.backwards-preserved
backwards-preserved c = record {
  best = c.backwards.invariant.best ∙ sym (decides_later (kind_view c.args.kind) c.args.elements.now c.backwards.i c.item-element.result.now (site_view c.args.site) (omega arith) c.item-element.ensures (sym c.covers.ensures ∙ c.if-covers.false));
  within = omega arith;
}
