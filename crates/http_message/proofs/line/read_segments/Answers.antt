use Rattle.std.proofs.Common.{ap}
use Rattle.spec_messages.specs.Message as spec
use Rattle.http_message.specs.Forms.{parts_of}
use Rattle.http_message.proofs.Slashes.{no_slash}
use Rattle.http_message.proofs.line.read_segments.Goals as goal

pub returns-in-None : goal.returns-in-None
unfolding lib.Utf8.encode
returns-in-None c = ap (λ o. spec.wanted o spec.path) (no_slash (parts_of c.args.form).segment c.args.path.now c.in-None.ensures.cases)
