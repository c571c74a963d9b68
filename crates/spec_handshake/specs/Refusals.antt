-- Why a call of the handshake is refused (this project's own).
use Rattle.std.specs.Prelude.{ℕ, List, Bool, true, false, codes}
use Rattle.spec_messages.specs.Limits.{Limit, limit_name}
use Rattle.spec_exchange.specs.Telling.{Telling, bare, detailed}
use Rattle.spec_handshake.specs.Differences.{Difference, difference_text}

pub data Refusal : Type 0 where
  -- the first member of the document that is missing or has not its form
  BadForm : (member : List ℕ) → Refusal
  -- the document is none that the call takes, or none that a start waits for
  NotExpected : Refusal
  NoCommonCapability : Refusal
  NoCommonSuite : Refusal
  PolicyDiffers : (how : Difference) → Refusal
  -- the node has used the offer's id
  ContextUsed : Refusal
  -- the node has no open context of that id
  ContextNotFound : Refusal
  -- there is too much of this
  Beyond : (limit : Limit) → Refusal

abbrev pub telling : Refusal → Telling
telling (BadForm member) = detailed 40 (codes "HS_FORM") member
telling NotExpected = bare 45 (codes "NOT_EXPECTED")
telling NoCommonCapability = bare 41 (codes "NO_COMMON_CAPABILITY")
telling NoCommonSuite = bare 42 (codes "NO_COMMON_SUITE")
telling (PolicyDiffers how) = detailed 43 (codes "POLICY_DIFFERS") (difference_text how)
telling ContextUsed = bare 44 (codes "CONTEXT_USED")
telling ContextNotFound = bare 10 (codes "CONTEXT_NOT_FOUND")
telling (Beyond limit) = detailed 7 (codes "LIMIT") (limit_name limit)

-- a start stops waiting once it is refused for what was agreed on
abbrev pub ends_start : Refusal → Bool
ends_start NoCommonCapability = true
ends_start NoCommonSuite = true
ends_start (PolicyDiffers how) = true
ends_start _ = false
