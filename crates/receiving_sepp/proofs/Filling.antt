-- A document's tree is in order, and values that fill a message have a fill of what entries that hold make of it.
use Rattle.std.proofs.Common.{◌≡◌, List, [], length, true, Option, Some, None, Ok, subst, sym}
use Rattle.std.proofs.lemmas.Bool.{and_parts}
use Rattle.spec_documents.specs.Tree.{Tree, is_tree, is_ordered}
use Rattle.spec_documents.specs.Patch.{Op}
use Rattle.spec_messages.specs.Message.{Message}
use Rattle.spec_messages.specs.Block.{IsBlock}
use Rattle.spec_messages.specs.Rebuilt.{FillFault, fill_fault}
use Rattle.spec_messages.specs.Split.{filled, fill_whole}
use Rattle.spec_messages.specs.Outcome.{Ground, entry_on, AppliedOn}
use Rattle.spec_messages.specs.Steps.{ChainStep, Fills}
use Rattle.spec_exchange.specs.EntryChecks.{Terms, Verifying, Progress, entries_applied}
use Rattle.spec_exchange.specs.AcceptDelivered.{changes}
use Rattle.spec_exchange.proofs.EntryLemmas.{chained}
use Rattle.receiving_sepp.specs.Groups.{Rebuilt}
use Rattle.receiving_sepp.specs.Refilling.{Fits, Stands}

pub ordered_of : (t : Tree) → is_tree t ≡ true → is_ordered t ≡ true
ordered_of t e = (and_parts (is_ordered t) _ e).0

no_fault : (o : Option FillFault) (f : Option Message) (x : Message) → f ≡ Some x → ((why : FillFault) → o ≡ Some why → f ≡ None) → o ≡ None
no_fault None f x is some = cc
no_fault (Some why) f x is some = let none : f ≡ None = some why cc in let no : ⊥ = cc in absurd no

pub keeps_fill : ((g : Ground) (ops : List Op) (r : Tree × Message) → entry_on g ops ≡ Ok r → AppliedOn g ops r)
    → ((vs : List Tree) (m : Message) (why : FillFault) → fill_fault vs m ≡ Some why → filled vs m ≡ None)
    → ((s : ChainStep) (f : Fills s.clear) → filled f.values s.patched ≡ Some (fill_whole f.values s.patched))
    → (t : Terms) (v : Verifying) (m : Rebuilt) (es : List Tree) (p : Progress) → Stands m → t.values ≡ length m.values → entries_applied t v m.block m.holed es ≡ Ok p → Fits m.values p.holed
keeps_fill made some chain t v m es p stands count is =
    let start : Progress = record { identities = []; block = m.block; holed = m.holed } in
    let block = subst (λ n. IsBlock m.block n m.holed) (sym count) stands.block in
    let links = chained made t v 1 start es p block is in
    let step : ChainStep = record {
      policy = t.policy;
      mapping = t.mapping;
      holes = t.values;
      entries = changes links.entries;
      before = m.block;
      clear = m.holed;
      after = p.block;
      patched = p.holed;
      block = block;
      applied = links.applied;
    } in
    let fills : Fills m.holed = record { values = m.values; full = m.content; is = stands.filled } in
    no_fault (fill_fault m.values p.holed) (filled m.values p.holed) (fill_whole m.values p.holed) (chain step fills) (λ why e. some m.values p.holed why e)
