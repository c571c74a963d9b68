-- The mapping that a message goes by.
use Rattle.std.specs.Prelude.{ℕ, Option, None}
use Rattle.spec_messages.specs.Message.{Head, request, response}
use Rattle.spec_messages.specs.Policy.{Policy, mapping_of}

-- the first that fits a request; none fits a response
abbrev pub mapping_of_head : Policy → Head → Option ℕ
mapping_of_head pol (request l) = mapping_of pol l
mapping_of_head pol (response s) = None
