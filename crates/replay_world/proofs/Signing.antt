-- The signing that an event goes by.
use Rattle.std.proofs.Common.{◌≡◌, ℕ, List, [], Option, Some, None, Result, Ok, Err, refl, sym}
use Rattle.std.specs.Prelude.{IsOk}
use Rattle.n32_outside.specs.Causes.{Rose}
use Rattle.n32_outside.specs.declared.algorithm.JwsAlg.{JwsAlg}
use Rattle.jws_flat.specs.View.{alg_view}
use Rattle.jws_flat.specs.Signing.{SignsAs}
use Rattle.ipx_node.specs.Passes.{Passes}
use Rattle.ipx_node.specs.declared.passing.PassFault.{PassFault}
use Rattle.ipx_node.specs.declared.passing.PassFault.TheVariants as passing
use Rattle.replay_world.specs.Refusing.{of_passing}
use Rattle.prins_document.specs.View.{part_name}
use Rattle.prins_document.specs.declared.document.WireMember.{WireMember}
use Rattle.spec_documents.specs.Tree.{Tree}
use Rattle.spec_sealing.specs.Received.{Received}
use Rattle.spec_sealing.specs.Passing.{with_room, passed}
use Rattle.spec_script.specs.Choices.{Signer, Signing, Signs, SignerFails}
use Rattle.spec_script.specs.Events.{Pass}
use Rattle.spec_script.specs.Steps.{wire_at, is_full}
use Rattle.script_lines.specs.AnswerTexts as texts
use Rattle.script_lines.specs.declared.refusal.Refusal.TheVariants as refusals
use Rattle.script_lines.specs.declared.unanswered.Unanswered.{Unanswered}
use Rattle.script_lines.specs.declared.unanswered.Unanswered.TheVariants as unanswered
use Rattle.std.proofs.Common.{◌+◌, ◌≤◌, max, arith, ℤ, length, false}
use Rattle.replay_world.specs.Outsiders.{OfSigner, IsMeant, Signed, all_pass, by, event_steps, idle, only_signs}
use Rattle.replay_world.specs.Worlds.{IsShallow, IsSound, state_of}
use Rattle.replay_world.specs.Wires.{HasMore}
use Rattle.replay_world.specs.Handling.{HandlesAlone}
use Rattle.replay_world.specs.declared.world.World.{World}
use Rattle.replay_world.proofs.Documents.{idles_made}
use Rattle.replay_world.proofs.EventSteps.{passed_goes_on, passed_refused, passed_unsigned}
use Rattle.replay_world.proofs.Handling.{alone_done, alone_refused, alone_memory}
use Rattle.replay_world.proofs.Wires.{sound_more}

-- ---- signings that are meant

pub some_signing : (alg : JwsAlg) (told : Option (JwsAlg → List ℕ → List ℕ → List ℕ)) (before after_ : ℕ) → (x : Signing) × IsMeant alg told before after_ x
some_signing alg None before after_ = (Signs (record { algorithm = alg_view alg; sign = λ identity input. [] }), refl)
some_signing alg (Some f) before after_ = (Signs (record { algorithm = alg_view alg; sign = f alg }), refl)

-- where the signer isn't asked
pub signed_any : (before after_ : OfSigner) (P : Signing → Type 0) → ((x : Signing) → P x) → Signed before after_ P
signed_any before after_ P h =
    let x = some_signing before.algorithm before.meaning before.faults after_.faults in
    record { signing = x.0; meant = x.1; holds = h x.0 }

pub signed_on : (before after_ : OfSigner) (P Q : Signing → Type 0) → ((x : Signing) → P x → Q x) → Signed before after_ P → Signed before after_ Q
signed_on before after_ P Q f h = record { signing = h.signing; meant = h.meant; holds = f h.signing h.holds }

-- a signer that signs for the identity as the function
record Meant (alg : JwsAlg) (told : Option (JwsAlg → List ℕ → List ℕ → List ℕ)) (before after_ : ℕ) (identity : List ℕ) (sign : List ℕ → List ℕ) : Type 0 where
  pub signer : Signer
  pub is : IsMeant alg told before after_ (Signs signer)
  pub algorithm : signer.algorithm ≡ alg_view alg
  pub signs : signer.sign identity ≡ sign

meant_by : (alg : JwsAlg) (told : Option (JwsAlg → List ℕ → List ℕ → List ℕ)) (before after_ : ℕ) (identity : List ℕ) (sign : List ℕ → List ℕ) → SignsAs told alg identity sign → Meant alg told before after_ identity sign
meant_by alg None before after_ identity sign as_told = record { signer = record { algorithm = alg_view alg; sign = λ i. sign }; is = refl; algorithm = refl; signs = refl }
meant_by alg (Some f) before after_ identity sign as_told = record { signer = record { algorithm = alg_view alg; sign = f alg }; is = refl; algorithm = refl; signs = sym as_told }

-- ---- passing on

abbrev pub PassesSo : (before after_ : OfSigner) (old new : World) → ℕ → (ipx : List ℕ) → ℤ → Tree → Result (List ℕ) Unanswered → Type 0
PassesSo before after_ old new number ipx wire operations result = Signed before after_ (λ x. HandlesAlone (event_steps all_pass (only_signs x) (Pass ipx wire operations)) old new number result)

pub passed_done : (before after_ : OfSigner) (old new : World) (number : ℕ) (text ipx : List ℕ) (wire : ℤ) (operations t d : Tree) → wire_at old.wire wire ≡ Some t → is_full old.wire ≡ false
    → Passes before.meaning before.algorithm ipx operations t (Ok d) → text ≡ texts.document_answer number d (length old.wire + 1) → HasMore old new d → IsShallow d → IsSound old
    → PassesSo before after_ old new number ipx wire operations (Ok text)
passed_done before after_ old new number text ipx wire operations t d found room p is more low sound =
    let m = meant_by before.algorithm before.meaning before.faults after_.faults ipx p.sign p.by in
    let good : passed m.signer.algorithm ipx operations (m.signer.sign ipx) t ≡ Ok d = rw (m.algorithm, m.signs) p.gives in
    record {
      signing = Signs m.signer;
      meant = m.is;
      holds = alone_done _ old new number text
          (idles_made _ old new number text d (λ records f. passed_goes_on all_pass (state_of old records) (by (only_signs (Signs m.signer)) f) ipx wire operations t d m.signer refl found room good) is more)
          (sound_more old new d more low sound);
    }

passed_formless : (before after_ : OfSigner) (old : World) (number : ℕ) (ipx : List ℕ) (wire : ℤ) (operations t : Tree) (part : WireMember) → wire_at old.wire wire ≡ Some t → is_full old.wire ≡ false
    → Passes before.meaning before.algorithm ipx operations t (Err (passing.Form part)) → IsSound old
    → PassesSo before after_ old old number ipx wire operations (Err (unanswered.Refused (refusals.Form part)))
passed_formless before after_ old number ipx wire operations t part found room p sound =
    let m = meant_by before.algorithm before.meaning before.faults after_.faults ipx p.sign p.by in
    let bad : passed m.signer.algorithm ipx operations (m.signer.sign ipx) t ≡ Err (part_name part) = rw (m.algorithm, m.signs) p.gives in
    record {
      signing = Signs m.signer;
      meant = m.is;
      holds = alone_refused _ old number (refusals.Form part) (λ e. cc) sound
          (λ records f. passed_refused all_pass (state_of old records) (by (only_signs (Signs m.signer)) f) ipx wire operations t (part_name part) m.signer refl found room bad);
    }

-- a document that is passed on is as shallow as those on the wire
pub low_passed : (t d : ℕ) → d ≤ max t 3 → t ≤ 126 → d ≤ 126
low_passed t d h low = omega (arith, h, low)

parts_there : (r : Result Received (List ℕ)) → IsOk r → (parts : Received) × (r ≡ Ok parts)
parts_there (Ok parts) h = (parts, refl)
parts_there (Err e) h = cc

passed_unasked : (before after_ : OfSigner) (old : World) (number : ℕ) (ipx : List ℕ) (wire : ℤ) (operations t : Tree) → wire_at old.wire wire ≡ Some t → is_full old.wire ≡ false
    → IsOk (with_room t) → Rose before.faults after_.faults → IsSound old
    → PassesSo before after_ old old number ipx wire operations (Err (unanswered.Refused refusals.Signer))
passed_unasked before after_ old number ipx wire operations t found room asked rose sound =
    let parts = parts_there (with_room t) asked in
    record {
      signing = SignerFails;
      meant = rose;
      holds = alone_refused _ old number refusals.Signer (λ e. cc) sound
          (λ records f. passed_unsigned all_pass (state_of old records) (by idle f) ipx wire operations t parts.0 refl found room parts.1);
    }

pub passed_not : (before after_ : OfSigner) (old : World) (number : ℕ) (ipx : List ℕ) (wire : ℤ) (operations t : Tree) (e : PassFault) → wire_at old.wire wire ≡ Some t → is_full old.wire ≡ false
    → Passes before.meaning before.algorithm ipx operations t (Err e) → (e ≡ passing.Signer → IsOk (with_room t)) → (e ≡ passing.Signer → Rose before.faults after_.faults) → IsSound old
    → PassesSo before after_ old old number ipx wire operations (Err (of_passing e))
passed_not before after_ old number ipx wire operations t (passing.Form part) found room p asked failed sound = passed_formless before after_ old number ipx wire operations t part found room p sound
passed_not before after_ old number ipx wire operations t passing.Signer found room p asked failed sound = passed_unasked before after_ old number ipx wire operations t found room (asked refl) (failed refl) sound
passed_not before after_ old number ipx wire operations t passing.NoMemory found room p asked failed sound = signed_any before after_ _ λ x. alone_memory _ old old number sound refl
