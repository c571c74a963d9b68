use Rattle.std.proofs.Common.{ap, None, cond}
use Rattle.std.specs.List.{list_any}
use Rattle.spec_records.specs.Records.{takes_id, is_closed, opened_context, first_of, keys_behind, request_sent, request_delivered, is_reply_to, seq_with, greatest_sent}
use Rattle.spec_records.proofs.RecordLemmas.{own-append_other, delivered_at-other}
use Rattle.spec_records.proofs.records.others_change_nothing.Goals as goal

pub returns-clause-own : goal.returns-clause-own
returns-clause-own c = own-append_other

pub returns-clause-used : goal.returns-clause-used
returns-clause-used c = λ node id records r e. ap (list_any takes_id) (own-append_other node id records r e)

pub returns-clause-is_open : goal.returns-clause-is_open
returns-clause-is_open c = λ node id records r e. ap (λ rs. cond (list_any is_closed rs) None (first_of opened_context rs)) (own-append_other node id records r e)

pub returns-clause-keys : goal.returns-clause-keys
returns-clause-keys c = λ node id records r e. ap (keys_behind None) (own-append_other node id records r e)

pub returns-clause-delivered : goal.returns-clause-delivered
returns-clause-delivered c = delivered_at-other

pub returns-clause-sent : goal.returns-clause-sent
returns-clause-sent c = λ node id message records r e. ap (first_of (request_sent message)) (own-append_other node id records r e)

pub returns-clause-mapping : goal.returns-clause-mapping
returns-clause-mapping c = λ node id message records r e. ap (first_of (request_delivered message)) (own-append_other node id records r e)

pub returns-clause-answered : goal.returns-clause-answered
returns-clause-answered c = λ node id message records r e. ap (list_any (is_reply_to message)) (own-append_other node id records r e)

pub returns-clause-next : goal.returns-clause-next
returns-clause-next c = λ node id kind records r e. ap (λ rs. seq_with (keys_behind None rs) (greatest_sent kind rs)) (own-append_other node id records r e)
