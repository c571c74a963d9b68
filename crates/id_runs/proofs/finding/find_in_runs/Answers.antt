use Rattle.std.proofs.Common.{◌∙◌, ap, sym, option_map}
use Rattle.id_runs.proofs.finding.find_in_runs.Goals as goal

pub returns-in_err-i-clause-number : goal.returns-in_err-i-clause-number
returns-in_err-i-clause-number g c = c.from_residual.ensures ∙ ap (option_map (λ e. e.number)) (sym c.in_err-i.ensures.absent)
