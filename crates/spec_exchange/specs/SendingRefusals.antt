-- Why a message isn't sent (this project's own).
use Rattle.std.specs.Prelude.{codes}
use Rattle.spec_messages.specs.Limits.{Limit, limit_name}
use Rattle.spec_exchange.specs.Telling.{Telling, bare, detailed}

pub data Refusal : Type 0 where
  -- the node has no open context of that id
  ContextNotFound : Refusal
  -- the context has no keys
  NoKeys : Refusal
  -- no request of that id was delivered
  NoRequest : Refusal
  -- the request has its reply
  Answered : Refusal
  -- no sequence number is left
  SeqSpent : Refusal
  -- there is too much of this
  Beyond : (limit : Limit) → Refusal

abbrev pub telling : Refusal → Telling
telling ContextNotFound = bare 10 (codes "CONTEXT_NOT_FOUND")
telling NoKeys = bare 11 (codes "NO_KEYS")
telling NoRequest = bare 15 (codes "NO_REQUEST")
telling Answered = bare 16 (codes "ANSWERED")
telling SeqSpent = bare 12 (codes "SEQ_SPENT")
telling (Beyond limit) = detailed 7 (codes "LIMIT") (limit_name limit)
