use Rattle.std.proofs.Common.{refl, inl}
use Rattle.context_records.specs.View.{record_view}
use Rattle.context_store.proofs.Names.{record_of_named}
use Rattle.context_store.proofs.loading.read_text.Goals as goal

pub returns-in-Err-Form-clause-refused : goal.returns-in-Err-Form-clause-refused
returns-in-Err-Form-clause-refused c = (refl, inl ((rw c.in-Err-Form.field-0-is at c.in-Err-Form.ensures.form) refl))

pub returns-in-Ok-clause-named : goal.returns-in-Ok-clause-named
returns-in-Ok-clause-named c = record_of_named c.in-Ok.ensures.ok.tree (record_view c.in-Ok.record) c.in-Ok.ensures.ok.is
