use Rattle.std.proofs.Common.{◌∙◌, ap, sym, option_map}
use Rattle.id_runs.proofs.finding.find_mapping.Goals as goal

pub returns-in_err-i-clause-mapping : goal.returns-in_err-i-clause-mapping
returns-in_err-i-clause-mapping g c = c.from_residual.ensures ∙ ap (option_map (λ e. e.mapping)) (sym c.in_err-i.ensures.absent)
