use Rattle.http_message.proofs.KeptParts.{head_kept, headers_kept, same_head, same_headers}
use Rattle.http_message.proofs.laws.block_parts_are_kept.Goals as goal

pub returns : goal.returns
returns c = record {
  head = λ ms. head_kept ms;
  headers = λ t. headers_kept t;
  same_head = λ h e. same_head h e;
  same_headers = λ hs e. same_headers hs e;
}
