use Rattle.std.proofs.Common.{sym, ◌∙◌}
use Rattle.n32c_handshake.specs.View.{selection_view, start_view}
use Rattle.n32c_handshake.proofs.Awaited.{suite_refused, suite_taken}
use Rattle.n32c_handshake.proofs.finishing.accepts.Goals as goal

pub returns-then-not-has_suite-clause-accepted : goal.returns-then-not-has_suite-clause-accepted
returns-then-not-has_suite-clause-accepted c = suite_refused (start_view c.args.start.now) (selection_view c.args.selection.now) (sym c.has_suite.ensures ∙ c.if-not-has_suite.true)

pub returns-clause-accepted : goal.returns-clause-accepted
returns-clause-accepted c = rw (suite_taken (start_view c.args.start.now) (selection_view c.args.selection.now) (sym c.has_suite.ensures ∙ c.if-not-has_suite.false)) c.agree.ensures.differs
