-- What the values of this crate are in the words of the definitions.
use Rattle.spec_messages.specs.Message as spec
use Rattle.http_message.specs.declared.message.Request.{Request}
use Rattle.http_message.specs.declared.message.Message.TheVariants as messages
use Rattle.http_message.specs.Reading.{message_view}

abbrev pub request_message : Request → spec.Message
request_message r = message_view (messages.Request r)
