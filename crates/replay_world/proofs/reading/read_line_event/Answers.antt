use Rattle.script_lines.specs.View.{event_view}
use Rattle.replay_world.proofs.Fits.{event_fits}
use Rattle.replay_world.proofs.reading.read_line_event.Goals as goal

pub returns-in-Ok-read_event-clause-fit : goal.returns-in-Ok-read_event-clause-fit
returns-in-Ok-read_event-clause-fit c = event_fits c.in-Ok.document (event_view c.in-Ok-read_event.event) c.in-Ok-read_event.ensures c.in-Ok.ensures.shallow
