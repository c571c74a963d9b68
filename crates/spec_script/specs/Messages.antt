-- The message of a document in a script.
use Rattle.std.specs.Prelude.{Result, Ok, Err, if◌then◌else◌, nat_le}
use Rattle.spec_documents.specs.Tree.{Tree}
use Rattle.spec_messages.specs.Message.{Message, Member, message_of, body_depth}
use Rattle.spec_script.specs.Refusals.{Refusal, BadMessage, DeepBody}

-- a message whose body nests at most 64 deep
abbrev pub shallow_message : Result Message Member → Result Message Refusal
shallow_message (Ok m) = if nat_le (body_depth m.body) 64 then Ok m else Err DeepBody
shallow_message (Err k) = Err (BadMessage k)

-- the message that a document is of
abbrev pub message_in : Tree → Result Message Refusal
message_in t = shallow_message (message_of t)
