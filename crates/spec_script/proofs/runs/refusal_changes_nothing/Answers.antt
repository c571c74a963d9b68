use Rattle.spec_script.specs.Steps.{line_step}
use Rattle.spec_script.proofs.StateLemmas.{line_keeps, unchanged, unsent, unput}
use Rattle.spec_script.proofs.StartLemmas.{line_starts}
use Rattle.spec_script.proofs.runs.refusal_changes_nothing.Goals as goal

pub returns-clause-state : goal.returns-clause-state
returns-clause-state c passes s f line e h k l =
    let w = line_keeps passes s f line in
    unchanged s (line_step passes s f line) (w.sites e h) (w.sent e h) (w.put e h k) ((line_starts passes s f line).same e h k l)

pub returns-clause-sites : goal.returns-clause-sites
returns-clause-sites c passes s f line e h = (line_keeps passes s f line).sites e h

pub returns-clause-wire : goal.returns-clause-wire
returns-clause-wire c passes s f line e h = unsent s (line_step passes s f line) ((line_keeps passes s f line).sent e h)

pub returns-clause-records : goal.returns-clause-records
returns-clause-records c passes s f line e h k = unput s (line_step passes s f line) ((line_keeps passes s f line).put e h k)

pub returns-clause-starts : goal.returns-clause-starts
returns-clause-starts c passes s f line e h = (line_starts passes s f line).one e h
