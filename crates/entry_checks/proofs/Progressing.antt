-- Entries one after the other, as the program goes through them: what the entries from a place on make of the block so far is what all make of the first.
use Rattle.std.proofs.Common.{◌≡◌, ℕ, zero, suc, ◌+◌, List, [], ◌∷◌, ◌++◌, length, Bool, true, false, Option, Some, None, Result, Ok, Err, refl, sym, ap, subst, ◌∙◌, drop, slice_get, bytes_eq, arith}
use Rattle.std.specs.Prelude.{not, is_some}
use Rattle.std.proofs.lemmas.List.{append_assoc}
use Rattle.spec_documents.specs.Tree.{Tree}
use Rattle.spec_messages.specs.Message.{Message, wanted}
use Rattle.spec_messages.specs.Block.{IsBlock}
use Rattle.spec_sealing.specs.Entries.{Entry, SignedEntry, entry_in}
use Rattle.n32_values.proofs.Trees.{drop_at}
use Rattle.spec_exchange.specs.Chain.{◌>>=◌, unless, or_refused}
use Rattle.spec_exchange.specs.Route.{is_subsequence, in_route}
use Rattle.spec_exchange.specs.EntryChecks.{Claim, Verdict, Verifying, Terms, Progress, claim_of, is_signed, entry_applied, applied, entries_from, entries_applied}
use Rattle.spec_exchange.specs.EntryRefusals.{EntryRefusal, BadForm, OffRoute, OtherTag}
use Rattle.spec_exchange.specs.AcceptRefusals.{OfEntry}
use Rattle.spec_exchange.proofs.ChainLemmas.{bind_then, wanted_ok, ok_same}
use Rattle.entry_checks.specs.Verifiers.{Meaning, verdict}
use Rattle.entry_checks.specs.Steps.{behind, checked_on, Stepped, changed, entry_on, Went}
use Rattle.entry_checks.specs.Answers.{Made}
use Rattle.entry_checks.proofs.Routes.{behind-in, not_behind}
use Rattle.entry_checks.proofs.Sayings.{AllSaid}

abbrev pub progress : List (List ℕ) → Tree → Message → Progress
progress identities block holed = record { identities = identities; block = block; holed = holed }

abbrev paired : Entry → List (List ℕ) → Entry × List (List ℕ)
paired x rest = (x, rest)

abbrev stepped : Entry → List (List ℕ) → Tree × Message → Stepped
stepped x rest r = record { identity = x.identity; rest = rest; block = r.0; holed = r.1 }

abbrev pub after : List (List ℕ) → Stepped → Progress
after identities s = progress (identities ++ s.identity ∷ []) s.block s.holed

-- the identities are in the route, and what comes behind them is in its rest
abbrev pub HasPassed : List (List ℕ) → (route rest : List (List ℕ)) → Type 0
HasPassed identities route rest = (ys : List (List ℕ)) → is_subsequence (identities ++ ys) route ≡ is_subsequence ys rest

-- ---- one entry

made_of : (ids : List (List ℕ)) (x : Entry) (later : List (List ℕ)) (y : Result (Tree × Message) EntryRefusal)
    → (y >>= λ r. Ok (progress (ids ++ x.identity ∷ []) r.0 r.1)) ≡ ((y >>= λ r. Ok (stepped x later r)) >>= λ s. Ok (after ids s))
unfolding ◌>>=◌
made_of ids x later (Ok r) = refl
made_of ids x later (Err why) = refl

verified_of : (t : Terms) (ids : List (List ℕ)) (j : Tree) (c : Message) (x : Entry) (later : List (List ℕ)) (d u : Result (Unit {0}) EntryRefusal)
    → ((d >>= λ _. u >>= λ _. Ok x) >>= λ z. applied t (progress ids j c) z)
    ≡ ((((d >>= λ _. u >>= λ _. Ok later) >>= λ l. Ok (paired x l)) >>= λ z. changed t z.0 j c >>= λ r. Ok (stepped z.0 z.1 r)) >>= λ s. Ok (after ids s))
unfolding ◌>>=◌
verified_of t ids j c x later (Ok a) (Ok b) = made_of ids x later (changed t x j c)
verified_of t ids j c x later (Ok a) (Err why) = refl
verified_of t ids j c x later (Err why) u = refl

on_route : (t : Terms) (ids : List (List ℕ)) (j : Tree) (c : Message) (x : Entry) (b : Bool) (o : Option (List (List ℕ))) (d u : Result (Unit {0}) EntryRefusal) → b ≡ is_some o
    → ((unless (not b) OffRoute >>= λ _. d >>= λ _. u >>= λ _. Ok x) >>= λ z. applied t (progress ids j c) z)
    ≡ ((((wanted o OffRoute >>= λ later. d >>= λ _. u >>= λ _. Ok later) >>= λ l. Ok (paired x l)) >>= λ z. changed t z.0 j c >>= λ r. Ok (stepped z.0 z.1 r)) >>= λ s. Ok (after ids s))
unfolding ◌>>=◌
on_route t ids j c x true (Some later) d u e = verified_of t ids j c x later d u
on_route t ids j c x false None d u e = refl
on_route t ids j c x true None d u e = cc
on_route t ids j c x false (Some later) d u e = cc

-- an identity is in the route behind the others where it has a place in the rest
next_in : (ids route rest : List (List ℕ)) (identity : List ℕ) → HasPassed ids route rest → in_route (ids ++ identity ∷ []) route ≡ is_some (behind identity rest)
next_in ids route rest identity passed = passed (identity ∷ []) ∙ by (behind identity rest) refl
  where
    by : (o : Option (List (List ℕ))) → behind identity rest ≡ o → is_subsequence (identity ∷ []) rest ≡ is_some (behind identity rest)
    by None e = not_behind identity [] rest e ∙ ap is_some (sym e)
    by (Some later) e = behind-in identity [] rest later e ∙ ap is_some (sym e)

of_form : (t : Terms) (v : Claim → Verdict) (ids : List (List ℕ)) (j : Tree) (c : Message) (rest : List (List ℕ)) (r : Result SignedEntry (List ℕ)) → HasPassed ids t.route rest
    → ((or_refused BadForm r >>= λ x. unless (not (in_route (ids ++ x.entry.identity ∷ []) t.route)) OffRoute >>= λ _. is_signed (v (claim_of x)) >>= λ _. unless (not (bytes_eq x.entry.tag t.tag)) OtherTag >>= λ _. Ok x.entry) >>= λ z. applied t (progress ids j c) z)
    ≡ (((or_refused BadForm r >>= λ x. checked_on t.tag rest v x >>= λ l. Ok (paired x.entry l)) >>= λ z. changed t z.0 j c >>= λ r. Ok (stepped z.0 z.1 r)) >>= λ s. Ok (after ids s))
unfolding ◌>>=◌
of_form t v ids j c rest (Err member) passed = refl
of_form t v ids j c rest (Ok x) passed = on_route t ids j c x.entry (in_route (ids ++ x.entry.identity ∷ []) t.route) (behind x.entry.identity rest) (is_signed (v (claim_of x))) (unless (not (bytes_eq x.entry.tag t.tag)) OtherTag) (next_in ids t.route rest x.entry.identity passed)

-- what the definition makes of an entry, by the rest of the route
step_is : (t : Terms) (v : Verifying) (number : ℕ) (ids : List (List ℕ)) (j : Tree) (c : Message) (e : Tree) (rest : List (List ℕ)) → HasPassed ids t.route rest
    → entry_applied t v number (progress ids j c) e ≡ (entry_on t rest (v number) j c e >>= λ s. Ok (after ids s))
step_is t v number ids j c e rest passed = of_form t (v number) ids j c rest (entry_in e) passed

-- where an entry holds, its identity has its place in the route
went : (t : Terms) (rest : List (List ℕ)) (v : Claim → Verdict) (j : Tree) (c : Message) (e : Tree) (s : Stepped) → entry_on t rest v j c e ≡ Ok s → behind s.identity rest ≡ Some s.rest
went t rest v j c e s h =
    bind_then _ _ s h λ x e_bound h1.
    bind_then _ _ s h1 λ r e_changed h2.
    bind_then _ _ x e_bound λ z e_form b1.
    bind_then _ _ x b1 λ later e_checked b2.
    bind_then _ _ later e_checked λ l e_behind c1.
    bind_then _ _ later c1 λ u1 e_signed c2.
    bind_then _ _ later c2 λ u2 e_tag c3.
    let place : behind z.entry.identity rest ≡ Some l = wanted_ok _ OffRoute l e_behind in
    let P : Stepped → Type 0 = λ s. behind s.identity rest ≡ Some s.rest in
    let Q : Entry × List (List ℕ) → Type 0 = λ y. behind y.0.identity rest ≡ Some y.1 in
    subst P (ok_same {E = EntryRefusal} (stepped x.0 x.1 r) s h2) (subst Q (ok_same {E = EntryRefusal} (z.entry, later) x b2) (subst (λ m. behind z.entry.identity rest ≡ Some m) (ok_same {E = EntryRefusal} l later c3) place))

-- ---- all entries

-- the block so far, the rest of the route, and what is left to do from place i on
pub record IsAt (meaning : Option Meaning) (t : Terms) (j : Tree) (c : Message) (es : List Tree) (i : ℕ) (rest : List (List ℕ)) (w : Tree) : Type 0 where
  pub identities : List (List ℕ)
  pub holed : Message
  pub block : IsBlock w t.values holed
  pub passed : HasPassed identities t.route rest
  pub told : (v : Verifying) → AllSaid meaning (suc i) v → entries_from t v (suc i) (progress identities w holed) (drop i es) ≡ entries_applied t v j c es

pub at_start : (meaning : Option Meaning) (t : Terms) (j : Tree) (c : Message) (es : List Tree) → IsBlock j t.values c → IsAt meaning t j c es 0 t.route j
at_start meaning t j c es b = record { identities = []; holed = c; block = b; passed = λ ys. refl; told = λ v s. refl }

-- the entry at place i, by what the verifier says of it
entry_there : (meaning : Option Meaning) (t : Terms) (j : Tree) (c : Message) (es : List Tree) (i : ℕ) (rest : List (List ℕ)) (w : Tree) (h : IsAt meaning t j c es i rest w) (e : Tree) (v : Verifying) (d : Claim → Verdict)
    → slice_get es i ≡ Some e → AllSaid meaning (suc i) v → ((x : Claim) → v (suc i) x ≡ d x)
    → ((or_refused (OfEntry (suc i)) (entry_on t rest d w h.holed e >>= λ s. Ok (after h.identities s))) >>= λ q. entries_from t v (suc (suc i)) q (drop (i + 1) es)) ≡ entries_applied t v j c es
entry_there meaning t j c es i rest w h e v d is said same =
    let made : entry_applied t v (suc i) (progress h.identities w h.holed) e ≡ (entry_on t rest d w h.holed e >>= λ s. Ok (after h.identities s)) =
    step_is t v (suc i) h.identities w h.holed e rest h.passed ∙ ap (λ d. entry_on t rest d w h.holed e >>= λ s. Ok (after h.identities s)) (λ k x. same x k) in
    ap (λ r. or_refused (OfEntry (suc i)) r >>= λ q. entries_from t v (suc (suc i)) q (drop (i + 1) es)) (sym made)
    ∙ (ap (entries_from t v (suc i) (progress h.identities w h.holed)) (sym (drop_at es i e is)) ∙ h.told v said)

goes_on : (t : Terms) (v : Verifying) (number : ℕ) (ids : List (List ℕ)) (es : List Tree) (o : Result Stepped EntryRefusal) (s : Stepped) → o ≡ Ok s
    → ((or_refused (OfEntry number) (o >>= λ s. Ok (after ids s))) >>= λ q. entries_from t v (suc number) q es) ≡ entries_from t v (suc number) (after ids s) es
unfolding ◌>>=◌
goes_on t v number ids es o s e = rw e

stops : (t : Terms) (v : Verifying) (number : ℕ) (ids : List (List ℕ)) (es : List Tree) (o : Result Stepped EntryRefusal) (why : EntryRefusal) → o ≡ Err why
    → ((or_refused (OfEntry number) (o >>= λ s. Ok (after ids s))) >>= λ q. entries_from t v (suc number) q es) ≡ Err (OfEntry number why)
unfolding ◌>>=◌
stops t v number ids es o why e = rw e

pub at_next : (meaning : Option Meaning) (t : Terms) (j : Tree) (c : Message) (es : List Tree) (i : ℕ) (rest : List (List ℕ)) (w : Tree) (h : IsAt meaning t j c es i rest w) (e : Tree) (w2 : Tree) (rest2 : List (List ℕ)) → slice_get es i ≡ Some e
    → Went t.values w2 rest2 (entry_on t rest (verdict meaning true false) w h.holed e) → IsAt meaning t j c es (i + 1) rest2 w2
at_next meaning t j c es i rest w h e w2 rest2 is g =
    let s : Stepped = record { identity = g.identity; rest = rest2; block = w2; holed = g.holed } in
    let place = went t rest (verdict meaning true false) w h.holed e s g.made in
    let more : suc (suc i) ≡ suc (i + 1) = omega arith in
    record {
      identities = h.identities ++ g.identity ∷ [];
      holed = g.holed;
      block = g.block;
      passed = λ ys. ap (λ l. is_subsequence l t.route) (append_assoc h.identities (g.identity ∷ []) ys) ∙ (h.passed (g.identity ∷ ys) ∙ behind-in g.identity ys rest rest2 place);
      told = λ v said.
          let now = entry_there meaning t j c es i rest w h e v (verdict meaning true false) is (λ k l x. said k (omega (arith, l)) x) (λ x. said (suc i) (omega arith) x) in
          ap (λ n. entries_from t v n (after h.identities s) (drop (i + 1) es)) (sym more) ∙ (sym (goes_on t v (suc i) h.identities (drop (i + 1) es) (entry_on t rest (verdict meaning true false) w h.holed e) s g.made) ∙ now);
    }

past : (i : ℕ) (es : List Tree) → i ≡ length es → drop i es ≡ []
past zero [] e = refl
past (suc i) [] e = refl
past zero (x ∷ xs) e = cc
past (suc i) (x ∷ xs) e = let less : i ≡ length xs = cc in past i xs less

pub at_end : (meaning : Option Meaning) (t : Terms) (j : Tree) (c : Message) (es : List Tree) (i : ℕ) (rest : List (List ℕ)) (w : Tree) (v : Verifying) → i ≡ length es → AllSaid meaning (suc i) v → IsAt meaning t j c es i rest w
    → Made t.values w (entries_applied t v j c es)
at_end meaning t j c es i rest w v e said h = record {
  identities = h.identities;
  holed = h.holed;
  outcome = sym (h.told v said) ∙ ap (entries_from t v (suc i) (progress h.identities w h.holed)) (past i es e);
  block = h.block;
}

pub at_refusal : (meaning : Option Meaning) (t : Terms) (j : Tree) (c : Message) (es : List Tree) (i : ℕ) (rest : List (List ℕ)) (w : Tree) (h : IsAt meaning t j c es i rest w) (e : Tree) (v : Verifying) (d : Claim → Verdict) (why : EntryRefusal) → slice_get es i ≡ Some e
    → AllSaid meaning (suc i) v → ((x : Claim) → v (suc i) x ≡ d x) → entry_on t rest d w h.holed e ≡ Err why → entries_applied t v j c es ≡ Err (OfEntry (suc i) why)
at_refusal meaning t j c es i rest w h e v d why is said same refused =
    sym (entry_there meaning t j c es i rest w h e v d is said same) ∙ stops t v (suc i) h.identities (drop (i + 1) es) (entry_on t rest d w h.holed e) why refused
