-- What a member is read to, where a refusal is told by its name.
use Rattle.std.proofs.Common.{Option, Some, None, Result, Ok, Err, refl}
use Rattle.spec_messages.specs.Message.{wanted}
use Rattle.spec_messages.specs.Policy.{result_ok}
use Rattle.spec_records.specs.RecordDocument.{NoRecord, no_record}
use Rattle.context_records.specs.Reading as records
use Rattle.context_records.specs.declared.read.RecordRead.{RecordRead}
use Rattle.context_records.specs.declared.read.RecordRead.TheVariants.{Form, NoMemory}
use Rattle.script_lines.specs.declared.event_member.EventMember.{EventMember}
use Rattle.script_lines.specs.EventMembers.{member_name}
use Rattle.script_lines.specs.EventReading.{Gives, of_member}

pub told : {A B : Type 0} (view : A → B) (k : EventMember) (r : Result A RecordRead) (o : Option B) → records.Gives view r (wanted o no_record) → Gives view (of_member k r) (wanted o (member_name k))
told view k (Ok x) (Some y) h = cc
told view k (Ok x) None h = cc
told view k (Err Form) (Some y) h = cc
told view k (Err Form) None h = refl
told view k (Err NoMemory) o h = h

-- the same of what has a refusal of its own
pub told_pair : {A B : Type 0} (view : A → B) (k : EventMember) (r : Result A RecordRead) (w : Result B NoRecord) → records.Gives view r w → Gives view (of_member k r) (wanted (result_ok w) (member_name k))
told_pair view k (Ok x) (Ok y) h = cc
told_pair view k (Ok x) (Err e) h = cc
told_pair view k (Err Form) (Ok y) h = cc
told_pair view k (Err Form) (Err e) h = refl
told_pair view k (Err NoMemory) w h = h
