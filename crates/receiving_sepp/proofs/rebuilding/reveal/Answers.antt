use Rattle.std.proofs.lemmas.Result.{err_from_is_err_and}
use Rattle.receiving_sepp.specs.Refusing.{told}
use Rattle.receiving_sepp.specs.Views.{mapped_view, rebuilt_view}
use Rattle.receiving_sepp.proofs.Stages.{sealing_refused, nothing_clear}
use Rattle.receiving_sepp.proofs.rebuilding.reveal.Goals as goal

pub returns-in_err-check_sealed-clause-revealed : goal.returns-in_err-check_sealed-clause-revealed
returns-in_err-check_sealed-clause-revealed c =
    let p = err_from_is_err_and c.from_residual-in_err-check_sealed.result c.from_residual-in_err-check_sealed.ensures.1 in
    rw (p.1, p.2) (sealing_refused c.args.policy.now (mapped_view c.args.by) c.args.block c.args.plain.now (rebuilt_view c.in_ok-rebuilt.rebuilt) c.in_ok-rebuilt.ensures.rebuilt c.mapping_by-mapping.result c.mapping_by-mapping.ensures (told c.in_err-check_sealed.field-0.0) c.in_err-check_sealed.ensures)

pub returns-clause-revealed : goal.returns-clause-revealed
returns-clause-revealed c =
    nothing_clear c.args.policy.now (mapped_view c.args.by) c.args.block c.args.plain.now (rebuilt_view c.in_ok-rebuilt.rebuilt) c.in_ok-rebuilt.ensures.rebuilt c.mapping_by-mapping.result c.mapping_by-mapping.ensures c.in_ok-check_sealed.ensures
