use Rattle.std.proofs.Common.{sym, subst}
use Rattle.spec_documents.specs.Hole.{fill_all}
use Rattle.spec_messages.specs.Message.{Message}
use Rattle.spec_messages.specs.Block.{StandsFor}
use Rattle.spec_messages.specs.Steps.{HasValue, ChainKept}
use Rattle.spec_exchange.specs.Accepting.{sealed_values}
use Rattle.spec_exchange.specs.AcceptDelivered.{chain_of, fills_of}
use Rattle.spec_exchange.proofs.accepting.delivered_document_commutes.Goals as goal

pub returns : goal.returns
returns c passes v records node t y h =
    let law = c.patching_commutes_with_filling.ensures in
    let Stands : Message → Type 0 = λ m. StandsFor (fill_all (sealed_values h.plain) h.block) m in
    let Keeps : Message → Type 0 = λ m. ChainKept (chain_of h) h.message.content m in
    record {
      tree = law.tree (chain_of h) (fills_of h);
      stands = λ o. subst Stands (sym h.content_is) (law.stands (chain_of h) (fills_of h) o);
      values = λ o. let P : Message → Type 0 = λ m. HasValue o (sealed_values h.plain) m in subst P (sym h.content_is) (law.value_after (chain_of h) (fills_of h) o);
      kept = λ o. subst Keeps (sym h.content_is) (law.kept (chain_of h) (fills_of h) o);
      modifiable = law.modifiable (chain_of h);
    }
