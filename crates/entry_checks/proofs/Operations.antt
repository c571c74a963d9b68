-- The operations of an entry: at most 64, and what they make.
use Rattle.std.proofs.Common.{◌≡◌, ℕ, suc, ◌≤◌, Bool, true, false, List, [], ◌∷◌, length, map, Result, Ok, Err, refl, sym, ap, subst, ◌∙◌, if◌then◌else◌, arith}
use Rattle.std.specs.Prelude.{nat_le}
use Rattle.std.proofs.lemmas.Bool.{leb-true}
use Rattle.std.proofs.lemmas.List.{length-map}
use Rattle.spec_documents.specs.Tree.{Tree, null, truth, whole, words, items, members, Trees, no_items, item, tree_list, count_items}
use Rattle.spec_documents.specs.Place.{◌>>=◌}
use Rattle.spec_documents.specs.Patch.{Op}
use Rattle.spec_documents.specs.Operations.{op_of, ops_from, ops_of}
use Rattle.spec_messages.specs.Message.{Message}
use Rattle.spec_messages.specs.Outcome.{entry_outcome}
use Rattle.spec_messages.specs.Entry.{OpWhy}
use Rattle.spec_sealing.specs.Entries.{Entry, entry_ops}
use Rattle.json_patch6902.specs.declared.op.Op as read
use Rattle.json_patch6902.specs.View.{op_view}
use Rattle.spec_exchange.specs.Chain.{or_refused}
use Rattle.spec_exchange.specs.EntryChecks.{Terms, not_allowed}
use Rattle.entry_checks.specs.Steps.{changed}

more : (r : Result Op ℕ) (s : Result (List Op) ℕ) (ops : List Op) (n : ℕ) → (r >>= λ op. s >>= λ ops. Ok (op ∷ ops)) ≡ Ok ops → ((rest : List Op) → s ≡ Ok rest → length rest ≡ n) → length ops ≡ suc n
more (Err k) s ops n e each = cc
more (Ok op) (Err k) ops n e each = cc
more (Ok op) (Ok rest) ops n e each = let same : ops ≡ op ∷ rest = cc in ap length same ∙ ap suc (each rest refl)

count_from : (k : ℕ) (ts : Trees) (ops : List Op) → ops_from k (tree_list ts) ≡ Ok ops → length ops ≡ count_items ts
count_from k no_items ops e = let none : ops ≡ [] = cc in ap length none
count_from k (item t ts) ops e = more (op_of k t) (ops_from (suc k) (tree_list ts)) ops (count_items ts) e (count_from (suc k) ts)

few : (ts : Trees) (ops : List Op) (b : Bool) → nat_le (count_items ts) 64 ≡ b → (if b then ops_from 1 (tree_list ts) else Err 0) ≡ Ok ops → length ops ≤ 64
few ts ops true is e = let low : count_items ts ≤ 64 = leb-true (count_items ts) 64 is in let same : length ops ≡ count_items ts = count_from 1 ts ops e in omega (arith, low, same)
few ts ops false is e = cc

at_most : (t : Tree) (ops : List Op) → ops_of t ≡ Ok ops → length ops ≤ 64
at_most null ops e = cc
at_most (truth b) ops e = cc
at_most (whole z) ops e = cc
at_most (words s) ops e = cc
at_most (items ts) ops e = few ts ops (nat_le (count_items ts) 64) refl e
at_most (members ms) ops e = cc

pub at_most_64 : (t : Tree) (ops : List read.Op) → ops_of t ≡ Ok (map op_view ops) → length ops ≤ 64
at_most_64 t ops e = let low : length (map op_view ops) ≤ 64 = at_most t (map op_view ops) e in subst (λ n. n ≤ 64) (length-map ops op_view) low

-- ---- what they make

pub changes_made : (t : Terms) (x : Entry) (j : Tree) (c : Message) (ops : List Op) (r : Result (Tree × Message) (ℕ × OpWhy)) → ops ≡ entry_ops x → entry_outcome t.policy t.mapping x.identity t.values j c ops ≡ r
    → changed t x j c ≡ or_refused not_allowed r
changes_made t x j c ops r are e = ap (λ l. or_refused not_allowed (entry_outcome t.policy t.mapping x.identity t.values j c l)) (sym are) ∙ ap (or_refused not_allowed) e
