-- What the record of a number holds, and what is kept of one more.
use Rattle.std.proofs.Common.{◌≡◌, ◌∙◌, ℕ, zero, suc, Bool, true, false, cond, List, [], ◌∷◌, ◌++◌, map, length, slice_get, Option, Some, None, if◌then◌else◌, refl, ap, sym}
use Rattle.spec_messages.specs.Message.{Kind, of_request, of_response}
use Rattle.spec_records.specs.Records as spec
use Rattle.context_records.specs.declared.record.Record.{Record}
use Rattle.context_records.specs.View.{record_view}
use Rattle.context_cache.specs.declared.fact.Fact.{Fact}
use Rattle.context_cache.specs.Known.{noted}
use Rattle.context_cache.specs.Tables.{Kept, is_named, known_at}
use Rattle.context_cache.specs.Mirror.{IsMirror, fact_of, held_at, held_in}
use Rattle.context_cache.proofs.Mirror.{mirror_more}
use Rattle.context_store.specs.ByKind.{delivery_of, greatest_of}

-- ---- a record by its number

-- ---- the context

pub opening_now : (caches : List Kept) (rs : List spec.Record) (o : Option spec.Context) (number : Option ℕ) (n m : List ℕ) (i j : ℕ)
    → IsMirror caches rs → o ≡ held_at spec.opened_context rs number → number ≡ (known_at n i caches).opened → n ≡ m → i ≡ j → o ≡ spec.opening m j rs
opening_now caches rs o number n m i j h held is named same =
    held ∙ ap (held_at spec.opened_context rs) is ∙ (h n i).opened ∙ (λ t. spec.opening (named t) (same t) rs)

pub shut : (caches : List Kept) (rs : List spec.Record) (b : Bool) (n : List ℕ) (i : ℕ) → IsMirror caches rs → b ≡ (known_at n i caches).closed → b ≡ true → None ≡ spec.open_context n i rs
shut caches rs b n i h is met = ap (λ z. cond z None (spec.opening n i rs)) (sym met ∙ is ∙ (h n i).closed)

pub not_shut : (caches : List Kept) (rs : List spec.Record) (b : Bool) (o : Option spec.Context) (n : List ℕ) (i : ℕ) → IsMirror caches rs → b ≡ (known_at n i caches).closed → b ≡ false → o ≡ spec.opening n i rs → o ≡ spec.open_context n i rs
not_shut caches rs b o n i h is other e = e ∙ ap (λ z. cond z None (spec.opening n i rs)) (sym other ∙ is ∙ (h n i).closed)

-- ---- a kind

pub greatest_known : (caches : List Kept) (rs : List spec.Record) (kind : Kind) (n : List ℕ) (i : ℕ) → IsMirror caches rs → greatest_of kind (known_at n i caches) ≡ spec.greatest_sent kind (spec.own n i rs)
greatest_known caches rs of_request n i h = (h n i).sent_request
greatest_known caches rs of_response n i h = (h n i).sent_response

pub delivery_known : (caches : List Kept) (rs : List spec.Record) (kind : Kind) (m : ℕ) (n : List ℕ) (i : ℕ) → IsMirror caches rs → delivery_of kind m (known_at n i caches) ≡ spec.delivered_at n i kind m rs
delivery_known caches rs of_request m n i h = (h n i).delivered_request m
delivery_known caches rs of_response m n i h = (h n i).delivered_response m

-- ---- one more record

pub mirror_noted : (old new : List Kept) (rs : List spec.Record) (r : spec.Record) (node : List ℕ) (id number : ℕ) (fact : Fact)
    → IsMirror old rs → node ≡ spec.node_of r → id ≡ spec.context_of r → number ≡ length rs → fact ≡ fact_of (spec.opening (spec.node_of r) (spec.context_of r) rs) r
    → ((n : List ℕ) (i : ℕ) → known_at n i new ≡ (if is_named n i node id then noted number fact (known_at node id old) else known_at n i old))
    → IsMirror new (rs ++ r ∷ [])
mirror_noted old new rs r node id number fact h named same count is told =
    mirror_more old new rs r h (λ n i. told n i ∙ (λ t. if is_named n i (named t) (same t) then noted (count t) (is t) (known_at (named t) (same t) old) else known_at n i old))

pub seq_both : (k l : Option spec.KeySet) (g h : Option ℕ) → k ≡ l → g ≡ h → spec.seq_with k g ≡ spec.seq_with l h
seq_both k l g h e f = λ t. spec.seq_with (e t) (f t)
