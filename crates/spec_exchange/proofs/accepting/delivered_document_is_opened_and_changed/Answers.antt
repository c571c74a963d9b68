use Rattle.std.proofs.Common.{ℕ, [], Option, refl, subst}
use Rattle.spec_sealing.specs.Received.{received}
use Rattle.spec_exchange.specs.AcceptRefusals.{Refusal, Screened}
use Rattle.spec_exchange.specs.Stages.{Delivery, keyed_context, opens, key_for, rebuilt, is_sealed}
use Rattle.spec_exchange.specs.Asked.{mapping_by}
use Rattle.spec_exchange.specs.Accepting.{sealed_values, terms_of}
use Rattle.spec_exchange.specs.AcceptDelivered.{IsDelivered}
use Rattle.spec_exchange.proofs.ChainLemmas.{bind_then, unless_ok, ok_same}
use Rattle.spec_exchange.proofs.AcceptLemmas.{stage_ok, form_ok}
use Rattle.spec_exchange.proofs.EntryLemmas.{not_not, chained, rebuilt-block, rebuilt-filled}
use Rattle.spec_exchange.proofs.accepting.delivered_document_is_opened_and_changed.Goals as goal

pub returns : goal.returns
returns c passes v records node t y ordered e =
    bind_then _ _ y e λ d e_form e1.
    bind_then _ _ y e1 λ k e_context e2.
    bind_then _ _ y e2 λ plain e_opened e3.
    bind_then _ _ y e3 λ u3 e_first e4.
    bind_then _ _ y e4 λ by e_asked e5.
    bind_then _ _ y e5 λ m e_rebuilt e6.
    bind_then _ _ y e6 λ u6 e_sealed e7.
    bind_then _ _ y e7 λ p e_entries e8.
    bind_then _ _ y e8 λ u8 e_screen e9.
    bind_then _ _ y e9 λ u9 e_room e10.
    let mapping : Option ℕ = mapping_by by k.context.policy m.content in
    let form = form_ok (received t) d e_form in
    let made = stage_ok (rebuilt d.block plain) m e_rebuilt in
    let block = rebuilt-block c.block_has_one_message.ensures.back d.block plain m (ordered d form) made in
    let chain = chained c.entry_outcome_decides.ensures.made (terms_of k.context d mapping (sealed_values plain)) v 1 (record { identities = []; block = d.block; holed = m.holed }) d.entries p block e_entries in
    let P : Delivery → Type 0 = λ y. IsDelivered passes v records node t y in
    subst P (ok_same {E = Refusal} _ y e10) (record {
      parts = d;
      form = form;
      keyed = k;
      has_keys = stage_ok (keyed_context records node d.context) k e_context;
      plain = plain;
      is_opened = stage_ok (opens (key_for d.kind k) d.jwe) plain e_opened;
      by = by;
      asked = e_asked;
      message = m;
      is_rebuilt = made;
      is_block = block;
      is_filled = rebuilt-filled c.fill_fault_decides.ensures.none d.block plain m made;
      hidden = stage_ok (is_sealed k.context.policy mapping m) u6 e_sealed;
      entries = chain.entries;
      bound = chain.bound;
      block = p.block;
      holed = p.holed;
      applied = chain.applied;
      content_is = refl;
      mapping_is = refl;
      passed = not_not _ (unless_ok _ Screened u8 e_screen);
    })
