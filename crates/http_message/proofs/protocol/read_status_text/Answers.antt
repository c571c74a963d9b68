use Rattle.std.proofs.lemmas.Bool.{false≢true}
use Rattle.http_message.proofs.Statuses.{not_status}
use Rattle.http_message.proofs.protocol.read_status_text.Goals as goal

pub returns-in-Err : goal.returns-in-Err
returns-in-Err c = not_status c.args.text.now (λ code. false≢true (c.in-Err.ensures.succeeds.1 (rw (c.as_bytes.ensures.value) code)))
