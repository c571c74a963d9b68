-- The message that a value of the program is, and what a reader may answer.
use Rattle.std.specs.Prelude.{◌≡◌, ⊤, map, Option, option_map, Result, Ok, Err, ◌≤◌, ◌<◌}
use Rattle.spec_documents.specs.Tree.{Tree}
use Rattle.spec_messages.specs.Message as spec
use Rattle.http_message.specs.declared.message.Part.{Part}
use Rattle.http_message.specs.declared.message.Part.TheVariants.{Clear, Hole}
use Rattle.http_message.specs.declared.message.Pair.{Pair}
use Rattle.http_message.specs.declared.message.Header.{Header}
use Rattle.http_message.specs.declared.message.Request.{Request}
use Rattle.http_message.specs.declared.message.Message.{Message}
use Rattle.http_message.specs.declared.message.Message.TheVariants as messages
use Rattle.http_message.specs.declared.message.Kind.{Kind}
use Rattle.http_message.specs.declared.message.Kind.TheVariants as kinds
use Rattle.http_message.specs.declared.line.Line.{Line}
use Rattle.http_message.specs.declared.line.Head.{Head}
use Rattle.http_message.specs.declared.line.Head.TheVariants as heads
use Rattle.http_message.specs.declared.refusal.MessageMember.{MessageMember}
use Rattle.http_message.specs.declared.refusal.MessageMember.TheVariants as members
use Rattle.http_message.specs.declared.refusal.MessageRead.{MessageRead}
use Rattle.http_message.specs.declared.refusal.MessageRead.TheVariants as read

abbrev pub part_view : Part → spec.Part
part_view (Clear s) = spec.clear s
part_view (Hole n) = spec.hole_part n

abbrev pub pair_view : Pair → spec.Pair
pair_view p = record { name = p.name; value = option_map part_view p.value }

abbrev pub header_view : Header → spec.Header
header_view h = record { name = h.name; value = part_view h.value }

abbrev pub line_view : Line → spec.Line
line_view l = record { method = l.method; scheme = l.scheme; authority = l.authority; version = l.version; segments = map part_view l.segments; query = map pair_view l.query }

abbrev pub head_view : Head → spec.Head
head_view (heads.Request l) = spec.request (line_view l)
head_view (heads.Response n) = spec.response n

abbrev pub request_line : Request → spec.Line
request_line r = record { method = r.method; scheme = r.scheme; authority = r.authority; version = r.version; segments = map part_view r.segments; query = map pair_view r.query }

-- the message that a value is
abbrev pub message_view : Message → spec.Message
message_view (messages.Request r) = record { head = spec.request (request_line r); headers = map header_view r.headers; body = r.body }
message_view (messages.Response r) = record { head = spec.response r.status; headers = map header_view r.headers; body = r.body }

abbrev pub kind_view : Kind → spec.Kind
kind_view kinds.Request = spec.of_request
kind_view kinds.Response = spec.of_response

abbrev pub member_view : MessageMember → spec.Member
member_view members.Whole = spec.no_object
member_view members.RequestLine = spec.request_line
member_view members.StatusLine = spec.status_line
member_view members.Method = spec.method
member_view members.Scheme = spec.scheme
member_view members.Authority = spec.authority
member_view members.Path = spec.path
member_view members.ProtocolVersion = spec.version
member_view members.QueryFragment = spec.query
member_view members.Headers = spec.headers

abbrev pub IsMemory : MessageRead → Type 0
IsMemory e = e ≡ read.NoMemory

-- what a reader gives is what the definition gives, unless memory ran out
abbrev pub Refuses : {B : Type 0} → MessageRead → Result B spec.Member → Type 0
Refuses (read.Member k) wanted = wanted ≡ Err (member_view k)
Refuses read.Depth wanted = ⊥
Refuses read.NoMemory wanted = ⊤

abbrev pub Gives : {A B : Type 0} → (A → B) → Result A MessageRead → Result B spec.Member → Type 0
Gives view (Ok x) wanted = wanted ≡ Ok (view x)
Gives view (Err e) wanted = Refuses e wanted

-- the body is copied, or it is too deep
abbrev pub RefusesBody : MessageRead → Option Tree → Type 0
RefusesBody (read.Member k) body = ⊥
RefusesBody read.Depth body = 64 < spec.body_depth body
RefusesBody read.NoMemory body = ⊤

abbrev pub GivesBody : Result (Option Tree) MessageRead → Option Tree → Type 0
GivesBody (Ok b) body = (b ≡ body) × (spec.body_depth b ≤ 64)
GivesBody (Err e) body = RefusesBody e body

-- what reading a document may answer, where message_of gives wanted
abbrev pub RefusesMessage : MessageRead → Result spec.Message spec.Member → Type 0
RefusesMessage (read.Member k) wanted = wanted ≡ Err (member_view k)
RefusesMessage read.Depth wanted = (m : spec.Message) × (wanted ≡ Ok m) × (64 < spec.body_depth m.body)
RefusesMessage read.NoMemory wanted = ⊤

abbrev pub Reads : Result Message MessageRead → Result spec.Message spec.Member → Type 0
Reads (Ok m) wanted = (wanted ≡ Ok (message_view m)) × (spec.body_depth (message_view m).body ≤ 64)
Reads (Err e) wanted = RefusesMessage e wanted
