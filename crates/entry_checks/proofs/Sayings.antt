-- The choice of the verifier that a refusal shows.
use Rattle.std.proofs.Common.{◌≡◌, ℕ, ◌<◌, ◌≤◌, Bool, true, false, Option, Some, None, Result, Err, IfSome, refl, sym, ap, ap₂, subst, ◌∙◌, if◌then◌else◌, arith}
use Rattle.std.specs.Prelude.{◌==◌}
use Rattle.std.proofs.lemmas.Bool.{eq-eqb, ne_eqb}
use Rattle.n32_outside.specs.Causes.{Rose}
use Rattle.spec_documents.specs.Gives.{Tells}
use Rattle.spec_exchange.specs.EntryChecks.{Claim, Verifying, Progress, is_entry}
use Rattle.spec_exchange.specs.EntryRefusals.{EntryRefusal}
use Rattle.spec_exchange.specs.AcceptRefusals.{Refusal, OfEntry}
use Rattle.entry_checks.specs.declared.refused.StepFault.{StepFault}
use Rattle.entry_checks.specs.declared.refused.StepFault.TheVariants.{Refused, NoMemory}
use Rattle.entry_checks.specs.declared.refused.EntryWhy.{EntryWhy}
use Rattle.entry_checks.specs.declared.refused.EntriesFault.{EntriesFault}
use Rattle.entry_checks.specs.declared.refused.EntriesFault.TheVariants as all
use Rattle.entry_checks.specs.declared.refused.RefusedEntry.{RefusedEntry}
use Rattle.entry_checks.specs.Verifiers.{Meaning, Saying, verdict, verifying}
use Rattle.entry_checks.specs.Answers.{IsOfVerifier}
use Rattle.entry_checks.specs.Views.{told, why_view}
use Rattle.entry_checks.specs.Steps.{Numbers, step_told, fault_says, fault_fails}

-- the entries before this number are signed
abbrev pub AllSaid : Option Meaning → (number : ℕ) → Verifying → Type 0
AllSaid meaning number v = (k : ℕ) → k < number → (x : Claim) → v k x ≡ verdict meaning true false x

abbrev pub always : Saying
always = record { said = λ k. true; failing = None }

abbrev pub failing_at : (number : ℕ) → Bool → Option ℕ
failing_at number b = if b then Some number else None

-- each entry is signed, but for what the fault at this number shows
abbrev pub saying_at : (number : ℕ) → StepFault → Saying
saying_at number f = record { said = λ k. if k == number then fault_says f else true; failing = failing_at number (fault_fails f) }

before_it : (number k : ℕ) (b : Bool) → k < number → is_entry (failing_at number b) k ≡ false
before_it number k true l = ne_eqb number k (λ e. omega (arith, e, l))
before_it number k false l = refl

at_it : (number : ℕ) (b : Bool) → is_entry (failing_at number b) number ≡ b
at_it number true = eq-eqb number number refl
at_it number false = refl

pub said_before : (meaning : Option Meaning) (number : ℕ) (f : StepFault) → AllSaid meaning number (verifying meaning (saying_at number f))
said_before meaning number f k l x =
    let other : (k == number) ≡ false = ne_eqb k number (λ e. omega (arith, e, l)) in
    ap₂ (λ s b. verdict meaning s b x) (ap (λ b. if b then fault_says f else true) other) (before_it number k (fault_fails f) l)

pub said_at : (meaning : Option Meaning) (number : ℕ) (f : StepFault) (x : Claim) → verifying meaning (saying_at number f) number x ≡ verdict meaning (fault_says f) (fault_fails f) x
said_at meaning number f x =
    let it : (number == number) ≡ true = eq-eqb number number refl in
    ap₂ (λ s b. verdict meaning s b x) (ap (λ b. if b then fault_says f else true) it) (at_it number (fault_fails f))

-- ---- the count

pub rose_later : (before mid now : ℕ) → before ≤ mid → Rose mid now → Rose before now
rose_later before mid now l r = omega (arith, l, r)

pub failing_rose : (number before now : ℕ) (b : Bool) → (b ≡ true → Rose before now) → IfSome (failing_at number b) (λ k. Rose before now)
failing_rose number before now true rose = rose refl
failing_rose number before now false rose = tt

refused_same : {A : Type 0} (x y : RefusedEntry) (g : EntriesFault) → g ≡ all.Refused x → (let r : Result A EntriesFault = Err g in r) ≡ Err (all.Refused y) → x ≡ y
refused_same x y g e h = cc

pub of_verifier : (number : ℕ) (f : StepFault) (g : EntriesFault) {A : Type 0} → Numbers number f g → IsOfVerifier {A = A} (Err g) → fault_fails f ≡ true
of_verifier number (Refused why) g is v =
    let made : RefusedEntry = record { entry = number; why = why } in
    let same_all : made ≡ v.refused = refused_same made v.refused g is v.is in
    let same : why ≡ v.refused.why = ap (λ (r : RefusedEntry). r.why) same_all in
    ap (λ (y : EntryWhy). fault_fails (Refused y)) (same ∙ v.verifier)
of_verifier number NoMemory g is v = cc

-- what is told of the whole where the entry of this number is refused
pub numbered_tells : (number : ℕ) (f : StepFault) (g : EntriesFault) (result : Result Progress Refusal) → Numbers number f g → ((why : EntryRefusal) → step_told f ≡ Some why → result ≡ Err (OfEntry number why)) → Tells (told g) result
numbered_tells number (Refused why) g result is first = subst (λ g. Tells (told g) result) (sym is) (first (why_view why) refl)
numbered_tells number NoMemory g result is first = subst (λ g. Tells (told g) result) (sym is) tt
