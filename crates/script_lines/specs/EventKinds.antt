-- The events by their names (this project's own).
use Rattle.std.specs.Prelude.{ℕ, List, Option, Some, None, option_and_then, Result, Err, if◌then◌else◌, bytes_eq, codes}
use Rattle.spec_documents.specs.Tree.{Members}
use Rattle.spec_messages.specs.Message.{text_at, any_text}
use Rattle.spec_script.specs.Events as spec
use Rattle.script_lines.specs.declared.event_kind.EventKind.{EventKind}
use Rattle.script_lines.specs.declared.event_kind.EventKind.TheVariants.{Node, Context, Keys, Send, Inject, Deliver, Restart, Pass, Alter, Reported, Start, Answer, Finish, Terminate, Ended}

abbrev pub kind_named : List ℕ → Option EventKind
kind_named name =
    if bytes_eq name (codes "node") then Some Node
    else (if bytes_eq name (codes "context") then Some Context
    else (if bytes_eq name (codes "keys") then Some Keys
    else (if bytes_eq name (codes "send") then Some Send
    else (if bytes_eq name (codes "inject") then Some Inject
    else (if bytes_eq name (codes "deliver") then Some Deliver
    else (if bytes_eq name (codes "restart") then Some Restart
    else (if bytes_eq name (codes "pass") then Some Pass
    else (if bytes_eq name (codes "alter") then Some Alter
    else (if bytes_eq name (codes "reported") then Some Reported
    else (if bytes_eq name (codes "start") then Some Start
    else (if bytes_eq name (codes "answer") then Some Answer
    else (if bytes_eq name (codes "finish") then Some Finish
    else (if bytes_eq name (codes "terminate") then Some Terminate
    else (if bytes_eq name (codes "ended") then Some Ended else None))))))))))))))

abbrev pub kind_in : Members → Option EventKind
kind_in ms = option_and_then kind_named (text_at any_text (codes "do") ms)

-- the event of an object of that kind
abbrev pub event_by : Option EventKind → Members → Result spec.Event (List ℕ)
event_by None ms = Err (codes "do")
event_by (Some Node) ms = spec.node_event ms
event_by (Some Context) ms = spec.context_event ms
event_by (Some Keys) ms = spec.keys_event ms
event_by (Some Send) ms = spec.send_event ms
event_by (Some Inject) ms = spec.inject_event ms
event_by (Some Deliver) ms = spec.deliver_event ms
event_by (Some Restart) ms = spec.restart_event ms
event_by (Some Pass) ms = spec.pass_event ms
event_by (Some Alter) ms = spec.alter_event ms
event_by (Some Reported) ms = spec.reported_event ms
event_by (Some Start) ms = spec.start_event ms
event_by (Some Answer) ms = spec.answer_event ms
event_by (Some Finish) ms = spec.finish_event ms
event_by (Some Terminate) ms = spec.terminate_event ms
event_by (Some Ended) ms = spec.ended_event ms
