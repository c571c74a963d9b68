use Rattle.std.proofs.Common.{length, Result, Ok, refl, sym, ap, ◌∙◌}
use Rattle.spec_documents.proofs.Chains.{bind_at}
use Rattle.spec_messages.specs.Message.{Message}
use Rattle.spec_messages.specs.Split.{fill_whole}
use Rattle.block_patch.specs.Commutes.{BlockOf}
use Rattle.http_message.specs.Reading.{message_view}
use Rattle.spec_exchange.specs.EntryChecks.{Progress, entries_applied}
use Rattle.spec_exchange.specs.AcceptRefusals.{Refusal}
use Rattle.entry_checks.specs.Verifiers.{verifying}
use Rattle.entry_checks.specs.Views as entries
use Rattle.entry_checks.specs.Views.{terms_view}
use Rattle.receiving_sepp.specs.Refilling.{HasFill}
use Rattle.receiving_sepp.specs.Views.{rebuilt_view}
use Rattle.receiving_sepp.specs.Refusing.{told}
use Rattle.receiving_sepp.proofs.Leaving.{refused_change}
use Rattle.receiving_sepp.proofs.Verified.{under_on}
use Rattle.receiving_sepp.proofs.changing.patch.Goals as goal

pub refill-requires : goal.refill-requires
refill-requires g c =
    let n = length c.args.rebuilt.values in
    let b : BlockOf c.args.rebuilt.block = record { holes = n; clear = message_view c.args.rebuilt.holed; block = c.requires.block } in
    let u = c.in-Ok.ensures.answer in
    let made = u.comes b in
    let p : Progress = record { identities = made.identities; block = c.in-Ok.block; holed = made.holed } in
    let fill : HasFill c.in-Ok.block c.args.rebuilt.values = record {
      holed = made.holed;
      right = c.fault_decides.ensures.none c.in-Ok.block n made.holed made.block;
      clear = c.block_has_one_message.ensures.computed c.in-Ok.block n made.holed made.block;
      fits = c.entries_keep_fill.ensures (terms_view c.args.terms.now n) (verifying (g.V.Verifier.meaning c.args.verifier.now) u.saying) (rebuilt_view c.args.rebuilt) c.args.list.now p c.requires refl made.outcome;
    } in
    fill

pub returns-in-Ok-refill-clause-answer : goal.returns-in-Ok-refill-clause-answer
returns-in-Ok-refill-clause-answer g c =
    let n = length c.args.rebuilt.values in
    let b : BlockOf c.args.rebuilt.block = record { holes = n; clear = message_view c.args.rebuilt.holed; block = c.requires.block } in
    under_on _ _ _ _ _ (λ v h.
    let made = h b in
    let p : Progress = record { identities = made.identities; block = c.in-Ok.block; holed = made.holed } in
    let clear = c.block_has_one_message.ensures.computed c.in-Ok.block n made.holed made.block in
    bind_at (entries_applied (terms_view c.args.terms.now n) v c.args.rebuilt.block (message_view c.args.rebuilt.holed) c.args.list.now) (λ q. Ok (fill_whole c.args.rebuilt.values q.holed)) p made.outcome
    ∙ ap (λ (m : Message). let r : Result Message Refusal = Ok m in r) (sym (c.in-Ok-refill.ensures made.holed clear))) c.in-Ok.ensures.answer

pub returns-clause-answer : goal.returns-clause-answer
returns-clause-answer g c =
    let n = length c.args.rebuilt.values in
    let b : BlockOf c.args.rebuilt.block = record { holes = n; clear = message_view c.args.rebuilt.holed; block = c.requires.block } in
    under_on _ _ _ _ _ (λ v h. refused_change (terms_view c.args.terms.now n) v (rebuilt_view c.args.rebuilt) c.args.list.now (entries.told c.in-Err.fault) (told c.of_entries.result) c.of_entries.ensures (h b)) c.in-Err.ensures.answer
