-- The document of a report is read to this report.
use Rattle.std.proofs.Common.{◌≡◌, ℕ, ◌<◌, ◌^◌, Bool, true, false, List, Option, Some, None, Ok, refl, cond, subst}
use Rattle.spec_documents.proofs.IdLemmas.{id_of-id_text}
use Rattle.spec_reports.specs.Report.{ErrorType, ContextNotFound, DecipheringFailed, IntegrityCheckFailed, MessageReconstructionFailed, PolicyMismatch, IntegrityCheckOnModificationsFailed, ModificationsInstructionsFailed, Report, type_for, tells_entry, told_entry, report_for, IsEntry, IsFormed}
use Rattle.spec_reports.specs.Document.{type_of, type_text, report_in, report_tree}

type_back : (t : ErrorType) → type_of (type_text t) ≡ Some t
type_back ContextNotFound = refl
type_back DecipheringFailed = refl
type_back IntegrityCheckFailed = refl
type_back MessageReconstructionFailed = refl
type_back PolicyMismatch = refl
type_back IntegrityCheckOnModificationsFailed = refl
type_back ModificationsInstructionsFailed = refl

parts_back : (context message : ℕ) (error : ErrorType) (entry : Option (List ℕ)) → context < 2 ^ 64 → message < 2 ^ 64 → IsEntry entry → report_in (report_tree (record { context = context; message = message; error = error; entry = entry })) ≡ Ok (record { context = context; message = message; error = error; entry = entry })
parts_back context message error None c m e = rw (id_of-id_text context c, type_back error, id_of-id_text message m)
parts_back context message error (Some ipx) c m e = rw (e, type_back error, id_of-id_text context c, id_of-id_text message m)

pub report_back : (r : Report) → IsFormed r → report_in (report_tree r) ≡ Ok r
report_back r f = parts_back r.context r.message r.error r.entry f.context f.message f.entry

-- ---- the report of a refusal

told_is_entry : (n : ℕ) (entry : Option (List ℕ)) → IsEntry entry → IsEntry (told_entry n entry)
told_is_entry n entry e = by (tells_entry n)
  where
    by : (b : Bool) → IsEntry (cond b entry None)
    by true = e
    by false = tt

pub made_back : (n : ℕ) (entry : Option (List ℕ)) (context message : ℕ) (r : Report) → report_for n entry context message ≡ Some r → context < 2 ^ 64 → message < 2 ^ 64 → IsEntry entry → report_in (report_tree r) ≡ Ok r
made_back n entry context message r is c m e = by (type_for n) refl
  where
    by : (o : Option ErrorType) → type_for n ≡ o → report_in (report_tree r) ≡ Ok r
    by None none = let no : report_for n entry context message ≡ None = rw none in cc
    by (Some t) some =
        let made : report_for n entry context message ≡ Some (record { context = context; message = message; error = t; entry = told_entry n entry }) = rw some in
        let same : record { context = context; message = message; error = t; entry = told_entry n entry } ≡ r = cc in
        subst (λ x. report_in (report_tree x) ≡ Ok x) same (parts_back context message t (told_entry n entry) c m (told_is_entry n entry e))
