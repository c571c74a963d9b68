use Rattle.std.proofs.Common.{◌≡◌, ◌∙◌, true, false, None, ⊎_elim, refl, sym, nat_eq, arith}
use Rattle.id_runs.specs.Runs.{entry_of}
use Rattle.id_runs.specs.declared.run_list.Entry.{Entry}
use Rattle.indexmap.proofs.CallerLemmas.{insert_entry-new}
use Rattle.id_runs.proofs.Entries.{none_from, with_new}
use Rattle.id_runs.proofs.run_list.RunList.add.Goals as goal

pub unwrap-requires : goal.unwrap-requires
unwrap-requires c =
    let room = (rw (← c.self.view_is) at c.requires) in
    ⊎_elim (λ more. c.insert.ensures.succeeds (omega (arith, more)))
    (λ there. let clash : false ≡ true = c.if-not-contains_key.ensures ∙ there in cc) room

pub returns-then-not-contains_key : goal.returns-then-not-contains_key
returns-then-not-contains_key c =
    let e : Entry = record { number = c.args.number; mapping = c.args.mapping } in
    let none : entry_of c.args.id c.self.inside.entries.entries ≡ None = none_from (entry_of c.args.id c.self.inside.entries.entries) false refl c.if-not-contains_key.ensures in
    rw (← c.self.view_is)
    ((rw c.unwrap.ensures at c.insert.ensures.entries) ∙ insert_entry-new nat_eq c.self.inside.entries c.args.id e none ∙ sym (with_new c.args.id e c.self.inside.entries.entries none))
