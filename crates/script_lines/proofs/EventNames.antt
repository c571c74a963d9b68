-- The event of an object by its kind.
use Rattle.std.proofs.Common.{◌≡◌, ℕ, Bool, true, false, List, Option, Some, None, Err, refl, cond, codes}
use Rattle.std.specs.Prelude.{bytes_eq, option_and_then}
use Rattle.spec_documents.specs.Tree.{Members}
use Rattle.spec_messages.specs.Message.{text_at, any_text, wanted}
use Rattle.spec_documents.specs.Place.{◌>>=◌}
use Rattle.spec_script.specs.Events as spec
use Rattle.script_lines.specs.declared.event_kind.EventKind.TheVariants.{Node, Context, Keys, Send, Inject, Deliver, Restart, Pass, Alter, Reported, Start, Answer, Finish, Terminate, Ended}
use Rattle.script_lines.specs.EventKinds.{kind_named, kind_in, event_by}

tested : (ms : Members) (a b c d e f g h i j k l m n o : Bool)
    → cond a (spec.node_event ms) (cond b (spec.context_event ms) (cond c (spec.keys_event ms) (cond d (spec.send_event ms) (cond e (spec.inject_event ms) (cond f (spec.deliver_event ms) (cond g (spec.restart_event ms) (cond h (spec.pass_event ms) (cond i (spec.alter_event ms) (cond j (spec.reported_event ms) (cond k (spec.start_event ms) (cond l (spec.answer_event ms) (cond m (spec.finish_event ms) (cond n (spec.terminate_event ms) (cond o (spec.ended_event ms) (Err (codes "do"))))))))))))))))
    ≡ event_by (cond a (Some Node) (cond b (Some Context) (cond c (Some Keys) (cond d (Some Send) (cond e (Some Inject) (cond f (Some Deliver) (cond g (Some Restart) (cond h (Some Pass) (cond i (Some Alter) (cond j (Some Reported) (cond k (Some Start) (cond l (Some Answer) (cond m (Some Finish) (cond n (Some Terminate) (cond o (Some Ended) None))))))))))))))) ms
tested ms true b c d e f g h i j k l m n o = refl
tested ms false true c d e f g h i j k l m n o = refl
tested ms false false true d e f g h i j k l m n o = refl
tested ms false false false true e f g h i j k l m n o = refl
tested ms false false false false true f g h i j k l m n o = refl
tested ms false false false false false true g h i j k l m n o = refl
tested ms false false false false false false true h i j k l m n o = refl
tested ms false false false false false false false true i j k l m n o = refl
tested ms false false false false false false false false true j k l m n o = refl
tested ms false false false false false false false false false true k l m n o = refl
tested ms false false false false false false false false false false true l m n o = refl
tested ms false false false false false false false false false false false true m n o = refl
tested ms false false false false false false false false false false false false true n o = refl
tested ms false false false false false false false false false false false false false true o = refl
tested ms false false false false false false false false false false false false false false true = refl
tested ms false false false false false false false false false false false false false false false = refl

of_word : (ms : Members) (o : Option (List ℕ)) → (wanted o (codes "do") >>= λ name. spec.event_named name ms) ≡ event_by (option_and_then kind_named o) ms
of_word ms None = refl
of_word ms (Some name) = tested ms (bytes_eq name (codes "node")) (bytes_eq name (codes "context")) (bytes_eq name (codes "keys")) (bytes_eq name (codes "send")) (bytes_eq name (codes "inject")) (bytes_eq name (codes "deliver")) (bytes_eq name (codes "restart")) (bytes_eq name (codes "pass")) (bytes_eq name (codes "alter")) (bytes_eq name (codes "reported")) (bytes_eq name (codes "start")) (bytes_eq name (codes "answer")) (bytes_eq name (codes "finish")) (bytes_eq name (codes "terminate")) (bytes_eq name (codes "ended"))

pub by_kind : (ms : Members) → spec.event_with ms ≡ event_by (kind_in ms) ms
by_kind ms = of_word ms (text_at any_text (codes "do") ms)
