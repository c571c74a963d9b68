use Rattle.spec_script.specs.Steps.{line_step}
use Rattle.spec_script.proofs.StateLemmas.{line_wires, on_wire, found_on_wire}
use Rattle.spec_script.proofs.StartLemmas.{line_starts}
use Rattle.spec_script.proofs.runs.wire_goes_on.Goals as goal

pub returns-clause-sent : goal.returns-clause-sent
returns-clause-sent c passes s f line x k e =
    let w = (line_wires passes s f line).sealed x k e in
    (on_wire s (line_step passes s f line) x.document w.0, found_on_wire s (line_step passes s f line) x.document k w.0 w.1)

pub returns-clause-injected : goal.returns-clause-injected
returns-clause-injected c passes s f line k e =
    let w = (line_wires passes s f line).injected k e in
    (w.0, on_wire s (line_step passes s f line) w.0 w.1, found_on_wire s (line_step passes s f line) w.0 k w.1 w.2)

pub returns-clause-forwarded : goal.returns-clause-forwarded
returns-clause-forwarded c passes s f line t k e =
    let w = (line_wires passes s f line).forwarded t k e in
    (on_wire s (line_step passes s f line) t w.0, found_on_wire s (line_step passes s f line) t k w.0 w.1)

pub returns-clause-opened : goal.returns-clause-opened
returns-clause-opened c passes s f line t k id e =
    let w = (line_starts passes s f line).opened t k id e in
    (on_wire s (line_step passes s f line) t w.0, found_on_wire s (line_step passes s f line) t k w.0 w.1)
