-- A verifier that says what is meant, and fails at one entry at most: where its failure isn't answered, what is answered is that of the verifier that never fails.
use Rattle.std.proofs.Common.{◌≡◌, ℕ, suc, Bool, true, false, List, [], ◌∷◌, Option, None, Result, Ok, Err, refl, ap, ◌∙◌}
use Rattle.std.specs.Prelude.{if◌then◌else◌}
use Rattle.spec_documents.specs.Tree.{Tree}
use Rattle.spec_messages.specs.Message.{Message}
use Rattle.spec_messages.specs.Split.{fill_whole}
use Rattle.spec_sealing.specs.Received.{Received}
use Rattle.spec_records.specs.Records.{Record}
use Rattle.spec_exchange.specs.Chain.{◌>>=◌, or_refused}
use Rattle.spec_exchange.specs.EntryRefusals.{EntryRefusal}
use Rattle.spec_exchange.specs.AcceptRefusals.{Refusal, OfEntry}
use Rattle.spec_exchange.specs.EntryChecks.{Claim, Verdict, Fails, verdict_of, is_entry, by_meaning, is_signed, Terms, Progress, claim_of, bound_entry, entry_applied, entries_from, entries_applied}
use Rattle.spec_exchange.specs.Screens.{Passes}
use Rattle.spec_exchange.specs.Stages.{Delivery, KeyedContext, Rebuilt, has_room, delivery_at}
use Rattle.spec_exchange.specs.Asked.{MappedBy, mapping_by}
use Rattle.spec_exchange.specs.Accepting.{stage, sealed_values, terms_of, is_passed, first_failed}
use Rattle.spec_script.specs.Output.{is_verifier_failure}

-- ---- checks

abbrev pub is_bad : {X R : Type 0} → (R → Bool) → Result X R → Bool
is_bad bad (Ok x) = false
is_bad bad (Err e) = bad e

-- what is checked is the other, where it isn't refused so
pub record SameChecks {X R : Type 0} (bad : R → Bool) (r q : Result X R) : Type 0 where
  pub is : is_bad bad r ≡ false → r ≡ q

checks_self : {X R : Type 0} (bad : R → Bool) (r : Result X R) → SameChecks bad r r
checks_self bad r = record { is = λ e. refl }

checks_then : {X Y R : Type 0} (bad : R → Bool) (r : Result X R) (k l : X → Result Y R) → ((x : X) → SameChecks bad (k x) (l x)) → SameChecks bad (r >>= k) (r >>= l)
unfolding ◌>>=◌
checks_then bad (Ok x) k l h = h x
checks_then bad (Err e) k l h = checks_self bad _

checks_first : {X Y R : Type 0} (bad : R → Bool) (r q : Result X R) (k l : X → Result Y R) → SameChecks bad r q → ((x : X) → SameChecks bad (k x) (l x)) → SameChecks bad (r >>= k) (q >>= l)
unfolding ◌>>=◌
checks_first bad (Ok x) q k l first h = record { is = λ e. (h x).is e ∙ ap (λ z. z >>= l) (first.is refl) }
checks_first bad (Err d) q k l first h = record { is = λ e. ap (λ z. z >>= l) (first.is e) }

checks_told : {X D R : Type 0} (bad : R → Bool) (tell : D → R) (r q : Result X D) → SameChecks (λ e. bad (tell e)) r q → SameChecks bad (or_refused tell r) (or_refused tell q)
checks_told bad tell (Ok x) q h = record { is = λ e. ap (or_refused tell) (h.is refl) }
checks_told bad tell (Err d) q h = record { is = λ e. ap (or_refused tell) (h.is e) }

-- ---- entries

abbrev at_entry : ℕ → EntryRefusal → Bool
at_entry number e = is_verifier_failure (OfEntry number e)

signed-same : (number : ℕ) (fails : Bool) (u : Verdict) → SameChecks (at_entry number) (is_signed (if fails then Fails else u)) (is_signed u)
signed-same number true u = record { is = λ e. cc }
signed-same number false u = checks_self _ _

bound-same : (t : Terms) (meaning : Claim → Bool) (failing : Option ℕ) (number : ℕ) (earlier : List (List ℕ)) (e : Tree)
    → SameChecks (at_entry number) (bound_entry t (by_meaning meaning failing) number earlier e) (bound_entry t (by_meaning meaning None) number earlier e)
bound-same t meaning failing number earlier e =
    checks_then (at_entry number) _ _ _ λ x. checks_then (at_entry number) _ _ _ λ route.
    checks_first (at_entry number) _ _ _ _ (signed-same number (is_entry failing number) (verdict_of (meaning (claim_of x)))) λ signed. checks_self (at_entry number) _

applied-same : (t : Terms) (meaning : Claim → Bool) (failing : Option ℕ) (number : ℕ) (p : Progress) (e : Tree)
    → SameChecks (at_entry number) (entry_applied t (by_meaning meaning failing) number p e) (entry_applied t (by_meaning meaning None) number p e)
applied-same t meaning failing number p e = checks_first (at_entry number) _ _ _ _ (bound-same t meaning failing number p.identities e) λ x. checks_self (at_entry number) _

entries-same : (t : Terms) (meaning : Claim → Bool) (failing : Option ℕ) (number : ℕ) (p : Progress) (es : List Tree)
    → SameChecks is_verifier_failure (entries_from t (by_meaning meaning failing) number p es) (entries_from t (by_meaning meaning None) number p es)
entries-same t meaning failing number p [] = checks_self is_verifier_failure _
entries-same t meaning failing number p (e ∷ es) =
    checks_first is_verifier_failure _ _ _ _ (checks_told is_verifier_failure (OfEntry number) _ _ (applied-same t meaning failing number p e)) λ q. entries-same t meaning failing (suc number) q es

-- ---- a document

applied_then : (meaning : Claim → Bool) (failing : Option ℕ) (t : Terms) (block : Tree) (holed : Message) (es : List Tree) (k : Progress → Result Delivery Refusal)
    → SameChecks is_verifier_failure (entries_applied t (by_meaning meaning failing) block holed es >>= k) (entries_applied t (by_meaning meaning None) block holed es >>= k)
applied_then meaning failing t block holed es k = checks_first is_verifier_failure _ _ k k (entries-same t meaning failing 1 _ es) λ p. checks_self is_verifier_failure _

pub accepting-same : (passes : Passes) (meaning : Claim → Bool) (failing : Option ℕ) (records : List Record) (node : List ℕ) (t : Tree)
    → SameChecks is_verifier_failure (first_failed passes (by_meaning meaning failing) records node t) (first_failed passes (by_meaning meaning None) records node t)
accepting-same passes meaning failing records node t =
    checks_then is_verifier_failure _ _ _ λ (d : Received).
    checks_then is_verifier_failure _ _ _ λ (c : KeyedContext). checks_then is_verifier_failure _ _ _ λ (plain : List ℕ). checks_then is_verifier_failure _ _ _ λ new.
    checks_then is_verifier_failure _ _ _ λ (by : MappedBy). checks_then is_verifier_failure _ _ _ λ (m : Rebuilt). checks_then is_verifier_failure _ _ _ λ hidden.
    let mapping : Option ℕ = mapping_by by c.context.policy m.content in
    applied_then meaning failing (terms_of c.context d mapping (sealed_values plain)) d.block m.holed d.entries
    (λ p. is_passed passes c.context (fill_whole (sealed_values plain) p.holed) >>= λ screened. stage (has_room records) >>= λ room. Ok (delivery_at node d mapping (fill_whole (sealed_values plain) p.holed)))
