-- What an accepted document tells.
use Rattle.std.proofs.Common.{◌≡◌, ℕ, true, List, [], Option, Some, None, Result, Ok, Err, refl, ap, subst}
use Rattle.std.specs.Prelude.{not, unwrap_or}
use Rattle.std.proofs.lemmas.Bool.{leb-false}
use Rattle.spec_documents.specs.Tree.{Tree}
use Rattle.spec_messages.specs.Message.{Message}
use Rattle.spec_messages.specs.Rebuilt.{FillFault}
use Rattle.spec_records.specs.Records.{Context, Record}
use Rattle.spec_sealing.specs.Received.{Received, received}
use Rattle.spec_sealing.specs.Plaintext.{values_of}
use Rattle.spec_exchange.specs.Chain.{unless, or_refused}
use Rattle.spec_exchange.specs.Rebuilding.{unless_fault}
use Rattle.spec_exchange.specs.ReceivingRefusals as receiving
use Rattle.spec_exchange.specs.ReceivingRefusals.{Form, Reconstruction}
use Rattle.spec_exchange.specs.AcceptRefusals.{Refusal, Screened}
use Rattle.spec_exchange.specs.Stages.{Delivery}
use Rattle.spec_exchange.specs.Screens.{Passes}
use Rattle.spec_exchange.specs.EntryChecks.{Verifying}
use Rattle.spec_exchange.specs.Accepting.{stage, sealed_values, is_passed, first_failed}
use Rattle.spec_exchange.proofs.ChainLemmas.{bind_then, none_ok, unless_ok, ok_same, IsNew}

-- ---- stages

pub stage_ok : {A : Type 0} (r : Result A receiving.Refusal) (x : A) → stage r ≡ Ok x → r ≡ Ok x
stage_ok (Ok y) x e = cc
stage_ok (Err d) x e = cc

pub form_ok : (r : Result Received (List ℕ)) (d : Received) → stage (or_refused Form r) ≡ Ok d → r ≡ Ok d
form_ok (Ok x) d e = cc
form_ok (Err m) d e = cc

-- ---- what stands behind a document that is accepted

-- a delivery that passed all stages: of this document, new, and with room for its record
pub record Passed (records : List Record) (node : List ℕ) (t : Tree) (y : Delivery) : Type 0 where
  pub parts : Received
  pub form : received t ≡ Ok parts
  pub id_is : y.id ≡ parts.context
  pub new : IsNew records node y

pub accepted-passed : (passes : Passes) (v : Verifying) (records : List Record) (node : List ℕ) (t : Tree) (y : Delivery) → first_failed passes v records node t ≡ Ok y → Passed records node t y
accepted-passed passes v records node t y e =
    bind_then _ _ y e λ d e_form e1.
    bind_then _ _ y e1 λ c e_context e2.
    bind_then _ _ y e2 λ plain e_opened e3.
    bind_then _ _ y e3 λ u3 e_first e4.
    bind_then _ _ y e4 λ by e_asked e5.
    bind_then _ _ y e5 λ m e_rebuilt e6.
    bind_then _ _ y e6 λ u6 e_sealed e7.
    bind_then _ _ y e7 λ p e_entries e8.
    bind_then _ _ y e8 λ u8 e_screen e9.
    bind_then _ _ y e9 λ u9 e_room e10.
    let P : Delivery → Type 0 = λ y. Passed records node t y in
    subst P (ok_same {E = Refusal} _ y e10) (record {
      parts = d;
      form = form_ok (received t) d e_form;
      id_is = refl;
      new = record {
        node_is = refl;
        never = none_ok _ _ u3 (stage_ok _ u3 e_first);
        room = leb-false _ _ (unless_ok _ _ u9 (stage_ok _ u9 e_room));
      };
    })

-- ---- the values that fill a message

pub fill-is : (o : Option FillFault) (x m : Message) → unless_fault o x ≡ Ok m → x ≡ m
fill-is None x m e = cc
fill-is (Some why) x m e = cc

pub refused_ok : {A D E : Type 0} (f : D → E) (r : Result A D) (x : A) → or_refused f r ≡ Ok x → r ≡ Ok x
refused_ok f (Ok y) x e = cc
refused_ok f (Err d) x e = cc

pub sealed_values-is : (plain : List ℕ) (vs : List Tree) → values_of plain ≡ Some vs → sealed_values plain ≡ vs
sealed_values-is plain vs e = ap (λ o. unwrap_or o []) e

-- ---- the screen

pub passed_by : (passes : Passes) (x : Context) (m : Message) → passes m x.plmn ≡ true → is_passed passes x m ≡ Ok tt
passed_by passes x m e = ap (λ b. unless (not b) Screened) e
