-- A report that was read has ids of 64 bits, and names an intermediary by an identity.
use Rattle.std.proofs.Common.{◌≡◌, ℕ, ◌<◌, ◌^◌, Bool, true, false, List, [], ◌∷◌, Option, Some, None, Ok, refl, subst, cond}
use Rattle.std.specs.Prelude.{codes}
use Rattle.spec_documents.specs.Tree.{Tree, null, truth, whole, words, items, members, Members, get_member, items_in}
use Rattle.spec_documents.specs.Ids.{id_of}
use Rattle.spec_documents.specs.Text.{is_identity}
use Rattle.spec_documents.proofs.TreeLemmas.{bind_ok}
use Rattle.spec_messages.specs.Message.{wanted, text_in, text_at}
use Rattle.spec_reports.specs.Report.{Report, IsEntry, IsFormed}
use Rattle.spec_reports.specs.Document.{no_report, id_in, type_in, failure_in, one_failure, entry_in, report_with, report_in}
use Rattle.spec_reports.proofs.IdsRead.{id_fits}

got : {A : Type 0} (o : Option A) (x : A) → wanted o no_report ≡ Ok x → o ≡ Some x
got None x e = cc
got (Some y) x e = cc

text_passes : (test : List ℕ → Bool) (o : Option Tree) (s : List ℕ) → text_in test o ≡ Some s → test s ≡ true
text_passes test None s e = cc
text_passes test (Some null) s e = cc
text_passes test (Some (truth b)) s e = cc
text_passes test (Some (whole z)) s e = cc
text_passes test (Some (words r)) s e = by (test r) refl e
  where
    by : (b : Bool) → test r ≡ b → cond b (Some r) None ≡ Some s → test s ≡ true
    by true is h = let same : r ≡ s = cc in subst (λ z. test z ≡ true) same is
    by false is h = cc
text_passes test (Some (items ts)) s e = cc
text_passes test (Some (members ms)) s e = cc

failure_identity : (t : Tree) (s : List ℕ) → failure_in t ≡ Ok s → is_identity s ≡ true
failure_identity null s e = cc
failure_identity (truth b) s e = cc
failure_identity (whole z) s e = cc
failure_identity (words r) s e = cc
failure_identity (items ts) s e = cc
failure_identity (members ms) s e =
    let a = bind_ok (wanted (text_at is_identity (codes "ipxId") ms) no_report) _ s e in
    let b = bind_ok (type_in (get_member (codes "n32fErrorType") ms)) _ s a.2 in
    let same : a.0 ≡ s = cc in
    subst (λ z. is_identity z ≡ true) same (text_passes is_identity (get_member (codes "ipxId") ms) a.0 (got _ a.0 a.1))

one_identity : (ts : List Tree) (s : List ℕ) → one_failure ts ≡ Ok s → is_identity s ≡ true
one_identity [] s e = cc
one_identity (t ∷ []) s e = failure_identity t s e
one_identity (t ∷ u ∷ ts) s e = cc

entry_identity : (o : Option Tree) (entry : Option (List ℕ)) → entry_in o ≡ Ok entry → IsEntry entry
entry_identity None entry e = let same : None ≡ entry = cc in subst IsEntry same tt
entry_identity (Some t) entry e =
    let a = bind_ok (wanted (items_in (Some t)) no_report) _ entry e in
    let b = bind_ok (one_failure a.0) _ entry a.2 in
    let same : Some b.0 ≡ entry = cc in
    subst IsEntry same (one_identity a.0 b.0 b.1)

id_read : (o : Option Tree) (n : ℕ) → id_in o ≡ Ok n → n < 2 ^ 64
id_read None n e = cc
id_read (Some null) n e = cc
id_read (Some (truth b)) n e = cc
id_read (Some (whole z)) n e = cc
id_read (Some (words s)) n e = id_fits s n (got (id_of s) n e)
id_read (Some (items ts)) n e = cc
id_read (Some (members ms)) n e = cc

members_formed : (ms : Members) (r : Report) → report_with ms ≡ Ok r → IsFormed r
members_formed ms r e =
    let a = bind_ok (entry_in (get_member (codes "failedModificationList") ms)) _ r e in
    let b = bind_ok (id_in (get_member (codes "n32fContextId") ms)) _ r a.2 in
    let d = bind_ok (type_in (get_member (codes "n32fErrorType") ms)) _ r b.2 in
    let f = bind_ok (id_in (get_member (codes "n32fMessageId") ms)) _ r d.2 in
    let same : record { context = b.0; message = f.0; error = d.0; entry = a.0 } ≡ r = cc in
    subst IsFormed same (record {
      context = id_read (get_member (codes "n32fContextId") ms) b.0 b.1;
      message = id_read (get_member (codes "n32fMessageId") ms) f.0 f.1;
      entry = entry_identity (get_member (codes "failedModificationList") ms) a.0 a.1;
    })

pub read_is_formed : (t : Tree) (r : Report) → report_in t ≡ Ok r → IsFormed r
read_is_formed null r e = cc
read_is_formed (truth b) r e = cc
read_is_formed (whole z) r e = cc
read_is_formed (words s) r e = cc
read_is_formed (items ts) r e = cc
read_is_formed (members ms) r e = members_formed ms r e
