-- What a member is read to, where a refusal is told by its name.
use Rattle.std.proofs.Common.{Option, Some, None, Result, Ok, Err, refl}
use Rattle.spec_documents.specs.Gives.{Gives}
use Rattle.spec_messages.specs.Message.{wanted}
use Rattle.spec_records.specs.RecordDocument.{no_record}
use Rattle.context_records.specs.Reading as records
use Rattle.context_records.specs.declared.read.RecordRead.{RecordRead}
use Rattle.context_records.specs.declared.read.RecordRead.TheVariants.{Form, NoMemory}
use Rattle.n32c_handshake.specs.declared.member.HandMember.{HandMember}
use Rattle.n32c_handshake.specs.Members.{member_name}
use Rattle.n32c_handshake.specs.Reading.{told, of_member}

pub told_member : {A B : Type 0} (view : A → B) (k : HandMember) (r : Result A RecordRead) (o : Option B) → records.Gives view r (wanted o no_record) → Gives told view (of_member k r) (wanted o (member_name k))
told_member view k (Ok x) (Some y) h = cc
told_member view k (Ok x) None h = cc
told_member view k (Err Form) (Some y) h = cc
told_member view k (Err Form) None h = refl
told_member view k (Err NoMemory) o h = tt
