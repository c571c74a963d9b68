-- What entries that all hold tell: each is bound to its document, and they make a chain of allowed changes of its block.
use Rattle.std.proofs.Common.{◌≡◌, ℕ, suc, Bool, true, false, List, [], ◌∷◌, ◌++◌, length, Option, Some, None, Result, Ok, Err, refl, ap, sym, subst, ◌∙◌}
use Rattle.std.specs.Prelude.{not}
use Rattle.std.proofs.lemmas.Slice.Eq.{bytes_eq-Decides}
use Rattle.spec_documents.specs.Tree.{Tree, is_ordered}
use Rattle.spec_documents.specs.Patch.{Op}
use Rattle.spec_messages.specs.Message.{Message, Kind, of_request, of_response, wanted}
use Rattle.spec_messages.specs.Policy.{Policy}
use Rattle.spec_messages.specs.Block.{IsBlock, clear_message}
use Rattle.spec_messages.specs.Fault.{BlockFault, block_fault}
use Rattle.spec_messages.specs.Entry.{OpWhy, EntryApplied}
use Rattle.spec_messages.specs.Outcome.{entry_outcome, Ground, entry_on, AppliedOn}
use Rattle.spec_messages.specs.Changed.{ChainApplied}
use Rattle.spec_messages.specs.Rebuilt.{FillFault, fill_fault}
use Rattle.spec_messages.specs.Split.{filled, fill_whole}
use Rattle.spec_records.specs.Records.{Record, mapping_sent}
use Rattle.spec_documents.proofs.Chains.{bind_at, bind_err}
use Rattle.spec_sealing.specs.Entries.{Entry, SignedEntry, entry_in, entry_ops}
use Rattle.spec_exchange.specs.Chain.{◌>>=◌, unless, or_refused}
use Rattle.spec_exchange.specs.Rebuilding.{of_block, read_block, unless_fault, filled_with}
use Rattle.spec_exchange.specs.ReceivingRefusals as receiving
use Rattle.spec_exchange.specs.ReceivingRefusals.{Reconstruction}
use Rattle.spec_exchange.specs.Stages.{Rebuilt, rebuilt}
use Rattle.spec_exchange.specs.EntryRefusals.{EntryRefusal, BadForm, OffRoute, VerifierFailed, OtherTag}
use Rattle.spec_exchange.specs.AcceptRefusals.{Refusal, OfEntry, Unasked, Screened}
use Rattle.spec_exchange.specs.EntryChecks.{Claim, Verdict, Signed, NotSigned, Fails, Verifying, verdict_of, by_meaning, Terms, Progress, claim_of, is_signed, not_allowed, entry_applied, entries_from}
use Rattle.spec_exchange.specs.AcceptDelivered.{IsBound, AreBound, changes}
use Rattle.spec_exchange.specs.Accepting.{stage, sealed_values, terms_of, first_failed}
use Rattle.spec_exchange.specs.Asked.{asked_for, mapping_by}
use Rattle.spec_exchange.specs.Screens.{Passes}
use Rattle.spec_exchange.proofs.ChainLemmas.{bind_then, unless_ok, wanted_ok, ok_same}
use Rattle.spec_exchange.proofs.AcceptLemmas.{refused_ok, sealed_values-is, fill-is}

pub not_not : (b : Bool) → not b ≡ false → b ≡ true
not_not true e = refl
not_not false e = cc

signed_ok : (d : Verdict) (u : Unit {0}) → is_signed d ≡ Ok u → d ≡ Signed
signed_ok Signed u e = refl
signed_ok NotSigned u e = cc
signed_ok Fails u e = cc

-- ---- one entry

-- an entry that holds, and what it makes
record Held (t : Terms) (v : Verifying) (number : ℕ) (p : Progress) (e : Tree) (q : Progress) : Type 0 where
  entry : SignedEntry
  bound : IsBound t v number p.identities e entry
  outcome : entry_outcome t.policy t.mapping entry.entry.identity t.values p.block p.holed (entry_ops entry.entry) ≡ Ok (q.block, q.holed)
  identities : q.identities ≡ p.identities ++ entry.entry.identity ∷ []

held : (t : Terms) (v : Verifying) (number : ℕ) (p : Progress) (e : Tree) (q : Progress) → entry_applied t v number p e ≡ Ok q → Held t v number p e q
held t v number p e q h =
    bind_then _ _ q h λ x e_bound h1.
    bind_then _ _ x e_bound λ s e_form b1.
    bind_then _ _ x b1 λ u1 e_route b2.
    bind_then _ _ x b2 λ u2 e_signed b3.
    bind_then _ _ x b3 λ u3 e_tag b4.
    bind_then _ _ q h1 λ r e_outcome h2.
    let is_x : s.entry ≡ x = ok_same {E = EntryRefusal} _ x b4 in
    let made = refused_ok not_allowed (entry_outcome t.policy t.mapping x.identity t.values p.block p.holed (entry_ops x)) r e_outcome in
    let P : Progress → Type 0 = λ q. Held t v number p e q in
    subst P (ok_same {E = EntryRefusal} _ q h2) (record {
      entry = s;
      bound = record {
        form = refused_ok BadForm (entry_in e) s e_form;
        on_route = not_not _ (unless_ok _ OffRoute u1 e_route);
        signed = signed_ok _ u2 e_signed;
        tag = (bytes_eq-Decides s.entry.tag t.tag).0 (not_not _ (unless_ok _ OtherTag u3 e_tag));
      };
      outcome = ap (λ (z : Entry). entry_outcome t.policy t.mapping z.identity t.values p.block p.holed (entry_ops z)) is_x ∙ made;
      identities = ap (λ (z : Entry). p.identities ++ z.identity ∷ []) (sym is_x);
    })

-- ---- all entries

-- the block that an entry leaves is one
still_block : (pol : Policy) (k : Option ℕ) (ipx : List ℕ) (n : ℕ) (j : Tree) (c : Message) (ops : List Op) (w : Tree) (d : Message) → EntryApplied pol k ipx n j c ops w d → IsBlock j n c → IsBlock w n d
still_block pol k ipx n j c [] w d h b = subst (λ x. IsBlock x n d) h.0 (subst (λ x. IsBlock j n x) h.1 b)
still_block pol k ipx n j c (op ∷ ops) w d h b = still_block pol k ipx n h.0 h.1 ops w d h.3 h.2.block

-- entries that hold, each bound, and the chain of what they make
pub record Chained (t : Terms) (v : Verifying) (number : ℕ) (p : Progress) (es : List Tree) (q : Progress) : Type 0 where
  pub entries : List SignedEntry
  pub bound : AreBound t v number p.identities es entries
  pub applied : ChainApplied t.policy t.mapping t.values p.block p.holed (changes entries) q.block q.holed

module _ (made : (g : Ground) (ops : List Op) (r : Tree × Message) → entry_on g ops ≡ Ok r → AppliedOn g ops r) (t : Terms) (v : Verifying) where
  pub chained : (number : ℕ) (p : Progress) (es : List Tree) (q : Progress) → IsBlock p.block t.values p.holed → entries_from t v number p es ≡ Ok q → Chained t v number p es q
  chained number p [] q b h =
      let same : p ≡ q = ok_same {E = Refusal} p q h in
      record { entries = []; bound = tt; applied = (ap (λ (z : Progress). z.block) same, ap (λ (z : Progress). z.holed) same) }
  chained number p (e ∷ es) q b h =
      bind_then _ _ q h λ p2 e_entry h1.
      let x = held t v number p e p2 (refused_ok (OfEntry number) (entry_applied t v number p e) p2 e_entry) in
      let ops = entry_ops x.entry.entry in
      let step = made (record { policy = t.policy; mapping = t.mapping; ipx = x.entry.entry.identity; holes = t.values; tree = p.block; clear = p.holed; block = b }) ops (p2.block, p2.holed) x.outcome in
      let rest = chained (suc number) p2 es q (still_block t.policy t.mapping x.entry.entry.identity t.values p.block p.holed ops p2.block p2.holed step b) h1 in
      record {
        entries = x.entry ∷ rest.entries;
        bound = (x.bound, subst (λ ids. AreBound t v (suc number) ids es rest.entries) x.identities rest.bound);
        applied = (p2.block, p2.holed, step, rest.applied);
      }

-- ---- the block of a rebuilt message

read-block : (o : Option BlockFault) (c : Option Message) (m : Message) → of_block o c ≡ Ok m → (o ≡ None) × (c ≡ Some m)
read-block (Some why) c m e = cc
read-block None None m e = cc
read-block None (Some d) m e = (refl, cc)

-- a rebuilt message is of a block whose names are in order
pub rebuilt-block : (back : (j : Tree) (n : ℕ) (c : Message) → is_ordered j ≡ true → block_fault j n ≡ None → clear_message j ≡ Some c → IsBlock j n c)
    → (j : Tree) (plain : List ℕ) (m : Rebuilt) → is_ordered j ≡ true → rebuilt j plain ≡ Ok m → IsBlock j (length (sealed_values plain)) m.holed
rebuilt-block back j plain m ordered e =
    bind_then _ _ m e λ vs e_values e1.
    bind_then _ _ m e1 λ holed e_block e2.
    bind_then _ _ m e2 λ content e_fill e3.
    let r = read-block (block_fault j (length vs)) (clear_message j) holed (refused_ok _ (read_block j (length vs)) holed e_block) in
    let listed = sealed_values-is plain vs (wanted_ok _ _ vs e_values) in
    let P : Rebuilt → Type 0 = λ m. IsBlock j (length (sealed_values plain)) m.holed in
    subst P (ok_same {E = receiving.Refusal} _ m e3) (subst (λ ws. IsBlock j (length ws) holed) (sym listed) (back j (length vs) holed ordered r.0 r.1))

fault-none : (o : Option FillFault) (x m : Message) → unless_fault o x ≡ Ok m → o ≡ None
fault-none None x m e = refl
fault-none (Some why) x m e = cc

-- the values fill it
pub rebuilt-filled : (none : (vs : List Tree) (m : Message) → fill_fault vs m ≡ None → filled vs m ≡ Some (fill_whole vs m))
    → (j : Tree) (plain : List ℕ) (m : Rebuilt) → rebuilt j plain ≡ Ok m → filled (sealed_values plain) m.holed ≡ Some m.content
rebuilt-filled none j plain m e =
    bind_then _ _ m e λ vs e_values e1.
    bind_then _ _ m e1 λ holed e_block e2.
    bind_then _ _ m e2 λ content e_fill e3.
    let made = refused_ok _ (filled_with vs holed) content e_fill in
    let listed = sealed_values-is plain vs (wanted_ok _ _ vs e_values) in
    let P : Rebuilt → Type 0 = λ m. filled (sealed_values plain) m.holed ≡ Some m.content in
    subst P (ok_same {E = receiving.Refusal} _ m e3)
    (ap (λ ws. filled ws holed) listed ∙ (none vs holed (fault-none (fill_fault vs holed) (fill_whole vs holed) content made) ∙ ap (λ z. Some z) (fill-is (fill_fault vs holed) (fill_whole vs holed) content made)))

-- ---- the verifier's failure

-- where a chain refuses, its first step does or a later one
bind_err_then : {A B E P : Type 0} (r : Result A E) (f : A → Result B E) (e : E) → (r >>= f) ≡ Err e → (r ≡ Err e → P) → ((x : A) → r ≡ Ok x → f x ≡ Err e → P) → P
unfolding ◌>>=◌
bind_err_then (Ok x) f e h first later = later x refl h
bind_err_then (Err d) f e h first later = let same : d ≡ e = cc in first (ap (λ z. Err z) same)

-- a claim at which the verifier fails
abbrev pub FailsAt : Verifying → ℕ → Type 0
FailsAt v number = (claim : Claim) × (v number claim ≡ Fails)

fails_is : (d : Verdict) → is_signed d ≡ Err VerifierFailed → d ≡ Fails
fails_is Signed e = cc
fails_is NotSigned e = cc
fails_is Fails e = refl

form_err : {P : Type 0} (r : Result SignedEntry (List ℕ)) → or_refused BadForm r ≡ Err VerifierFailed → P
form_err (Ok x) e = cc
form_err (Err m) e = cc

unless_err : {P : Type 0} (b : Bool) (why : EntryRefusal) → (why ≡ VerifierFailed → P) → unless b why ≡ Err VerifierFailed → P
unless_err true why other e = other cc
unless_err false why other e = cc

applied_err : {P : Type 0} (r : Result (Tree × Message) (ℕ × OpWhy)) → or_refused not_allowed r ≡ Err VerifierFailed → P
applied_err (Ok x) e = cc
applied_err (Err why) e = cc

entry_fails : (t : Terms) (v : Verifying) (number : ℕ) (p : Progress) (e : Tree) → entry_applied t v number p e ≡ Err VerifierFailed → FailsAt v number
entry_fails t v number p e h =
    bind_err_then _ _ VerifierFailed h
    (λ h1. bind_err_then _ _ VerifierFailed h1 (λ b. form_err (entry_in e) b) λ s e_form h2.
    bind_err_then _ _ VerifierFailed h2 (λ b. unless_err _ OffRoute (λ z. cc) b) λ u1 e_route h3.
    bind_err_then _ _ VerifierFailed h3 (λ b. (claim_of s, fails_is _ b)) λ u2 e_signed h4.
    bind_err_then _ _ VerifierFailed h4 (λ b. unless_err _ OtherTag (λ z. cc) b) λ u3 e_tag h5. cc)
    λ x e_bound h1. bind_err_then _ _ VerifierFailed h1 (λ b. applied_err _ b) λ r e_made h2. cc

of_entry : {A : Type 0} (number k : ℕ) (r : Result A EntryRefusal) (why : EntryRefusal) → or_refused (OfEntry k) r ≡ Err (OfEntry number why) → (k ≡ number) × (r ≡ Err why)
of_entry number k (Ok x) why e = cc
of_entry number k (Err d) why e = (cc, cc)

pub entries_fail : (t : Terms) (v : Verifying) (k : ℕ) (p : Progress) (es : List Tree) (number : ℕ) → entries_from t v k p es ≡ Err (OfEntry number VerifierFailed) → FailsAt v number
entries_fail t v k p [] number h = cc
entries_fail t v k p (e ∷ es) number h =
    bind_err_then _ _ (OfEntry number VerifierFailed) h
    (λ h1. let o = of_entry number k (entry_applied t v k p e) VerifierFailed h1 in subst (FailsAt v) o.0 (entry_fails t v k p e o.1))
    λ q e_made h1. entries_fail t v (suc k) q es number h1

-- a stage before or behind the entries
stage_err : {A P : Type 0} (number : ℕ) (r : Result A receiving.Refusal) → stage r ≡ Err (OfEntry number VerifierFailed) → P
stage_err number (Ok x) e = cc
stage_err number (Err d) e = cc

asked_err : {P : Type 0} (number : ℕ) (records : List Record) (node : List ℕ) (id : ℕ) (kind : Kind) (message : ℕ) → asked_for records node id kind message ≡ Err (OfEntry number VerifierFailed) → P
asked_err number records node id of_request message e = cc
asked_err {P} number records node id of_response message e = by (mapping_sent node id message records) refl
  where
    by : (o : Option (Option ℕ)) → mapping_sent node id message records ≡ o → P
    by None h = let f = sym (bind_err _ _ Unasked (ap (λ z. wanted z Unasked) h)) ∙ e in cc
    by (Some k) h = let f = sym (bind_at _ _ k (ap (λ z. wanted z Unasked) h)) ∙ e in cc

screen_err : {P : Type 0} (number : ℕ) (b : Bool) → unless b Screened ≡ Err (OfEntry number VerifierFailed) → P
screen_err number true e = cc
screen_err number false e = cc

pub accepting_fails : (passes : Passes) (v : Verifying) (records : List Record) (node : List ℕ) (t : Tree) (number : ℕ) → first_failed passes v records node t ≡ Err (OfEntry number VerifierFailed) → FailsAt v number
accepting_fails passes v records node t number h =
    let e = OfEntry number VerifierFailed in
    bind_err_then _ _ e h (stage_err number _) λ d e_form h1.
    bind_err_then _ _ e h1 (stage_err number _) λ k e_keys h2.
    bind_err_then _ _ e h2 (stage_err number _) λ plain e_open h3.
    bind_err_then _ _ e h3 (stage_err number _) λ u3 e_first h4.
    bind_err_then _ _ e h4 (asked_err number records node d.context d.kind d.message) λ by e_asked h5.
    bind_err_then _ _ e h5 (stage_err number _) λ m e_made h6.
    bind_err_then _ _ e h6 (stage_err number _) λ u6 e_sealed h7.
    bind_err_then _ _ e h7 (entries_fail (terms_of k.context d (mapping_by by k.context.policy m.content) (sealed_values plain)) v 1 (record { identities = []; block = d.block; holed = m.holed }) d.entries number) λ p e_entries h8.
    bind_err_then _ _ e h8 (screen_err number _) λ u8 e_screen h9.
    bind_err_then _ _ e h9 (stage_err number _) λ u9 e_room h10. cc

-- a verifier that tells its meaning and fails nowhere
meant-never : (b : Bool) → verdict_of b ≡ Fails → ⊥
meant-never true e = cc
meant-never false e = cc

pub by_meaning-never : (meaning : Claim → Bool) (number : ℕ) → FailsAt (by_meaning meaning None) number → ⊥
by_meaning-never meaning number f = meant-never (meaning f.0) f.1
