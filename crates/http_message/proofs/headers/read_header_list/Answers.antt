use Rattle.std.proofs.lemmas.Result.{err_from_is_err_and}
use Rattle.spec_messages.specs.Message as spec
use Rattle.n32_values.specs.View.{tree_of}
use Rattle.http_message.specs.Forms.{parts_of}
use Rattle.http_message.specs.Reading.{header_view}
use Rattle.http_message.proofs.Lists.{read_more_at, read_refused_at}
use Rattle.http_message.proofs.headers.read_header_list.Goals as goal

pub loop-i-preserved : goal.loop-i-preserved
loop-i-preserved c =
    rw c.in_ok-push.ensures.ok (read_more_at header_view (spec.header_of (parts_of c.args.form)) spec.headers c.loop-i.headers c.args.list.now c.loop-i.i (tree_of c.item.result.now) c.in_ok-read_header.field-0 _ c.item.ensures c.loop-i.invariant c.in_ok-read_header.ensures)

pub returns-in_err-read_header : goal.returns-in_err-read_header
returns-in_err-read_header c =
    let p = err_from_is_err_and c.from_residual.result c.from_residual.ensures.1 in
    rw (p.1, p.2) (read_refused_at header_view (spec.header_of (parts_of c.args.form)) spec.headers c.loop-i.headers c.args.list.now c.loop-i.i (tree_of c.item.result.now) c.in_err-read_header.field-0.0 _ c.item.ensures c.loop-i.invariant c.in_err-read_header.ensures)
