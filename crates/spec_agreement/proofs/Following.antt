-- A script's run and its handshakes: the records and the starts keep the invariant of handshakes with the documents that were made, which stand on the wire.
use Rattle.std.proofs.Common.{◌≡◌, ℕ, zero, suc, Bool, true, false, List, [], ◌∷◌, ◌++◌, length, pos, Option, Some, None, Result, Ok, Err, refl, sym, subst, ⊎_elim}
use Rattle.std.specs.Prelude.{⊤, ◌==◌, option_map, slice_get, if◌then◌else◌, bytes_eq}
use Rattle.std.specs.List.{list_any}
use Rattle.std.proofs.lemmas.Bool.{or_cases, eqb-true}
use Rattle.spec_documents.specs.Tree.{Tree}
use Rattle.spec_records.specs.Records.{Record}
use Rattle.spec_exchange.specs.Outside.{Cause, Outcome, with_put}
use Rattle.spec_handshake.specs.Documents.{Document, document_tree}
use Rattle.spec_handshake.specs.Refusals as handshake
use Rattle.spec_handshake.specs.Starts.{Start}
use Rattle.spec_handshake.specs.Forms.{IsPlmn}
use Rattle.spec_handshake.specs.Runs.{with_made, made_by}
use Rattle.spec_handshake.specs.Agreement.{Invariant}
use Rattle.spec_script.specs.Steps.{Site, State, Step, Answer, with_sent, after, next_number, plmn_at, wire_at, call_answer, shakes}
use Rattle.spec_script.proofs.StateLemmas.{numbered}
use Rattle.spec_agreement.specs.ByHandshakes.{number_told}

-- ---- what a run keeps

-- the number is that of a document that was made
pub record Names (wire : List Tree) (made : List Document) (number : ℕ) : Type 0 where
  pub place : ℕ
  pub document : Document
  pub is_made : slice_get made place ≡ Some document
  pub on_wire : wire_at wire (pos number) ≡ Some (document_tree document)

abbrev pub AreSited : List Site → Type 0
AreSited [] = ⊤
AreSited (x ∷ xs) = IsPlmn x.plmn × AreSited xs

-- the documents with these numbers were made for handshakes
pub record Follows (s : State) (numbers : List ℕ) : Type 0 where
  pub made : List Document
  pub stands : Invariant s.records s.starts made
  pub names : (k : ℕ) → list_any (λ n. n == k) numbers ≡ true → Names s.wire made k
  pub sited : AreSited s.sites

-- ---- networks

pub sited_at : (sites : List Site) (node plmn : List ℕ) → AreSited sites → plmn_at sites node ≡ Some plmn → IsPlmn plmn
sited_at [] node plmn h e = cc
sited_at (x ∷ xs) node plmn h e = by (bytes_eq x.node node) (λ f. sited_at xs node plmn h.1 f) e
  where
    by : (b : Bool) → (plmn_at xs node ≡ Some plmn → IsPlmn plmn) → (if b then Some x.plmn else plmn_at xs node) ≡ Some plmn → IsPlmn plmn
    by true rest f = let same : x.plmn ≡ plmn = cc in subst IsPlmn same h.0
    by false rest f = rest f

pub sited_more : (sites : List Site) (x : Site) → AreSited sites → IsPlmn x.plmn → AreSited (sites ++ x ∷ [])
sited_more [] x h e = (e, tt)
sited_more (y ∷ ys) x h e = (h.0, sited_more ys x h.1 e)

-- ---- documents stay where they are

front_stays : {A : Type 0} (xs ys : List A) (i : ℕ) (x : A) → slice_get xs i ≡ Some x → slice_get (xs ++ ys) i ≡ Some x
front_stays [] ys i x e = cc
front_stays (z ∷ zs) ys zero x e = e
front_stays (z ∷ zs) ys (suc i) x e = front_stays zs ys i x e

last_there : {A : Type 0} (xs : List A) (x : A) → slice_get (xs ++ x ∷ []) (length xs) ≡ Some x
last_there [] x = refl
last_there (y ∷ ys) x = last_there ys x

made_stays : (made : List Document) (o : Option Document) (i : ℕ) (d : Document) → slice_get made i ≡ Some d → slice_get (with_made made o) i ≡ Some d
made_stays made None i d e = e
made_stays made (Some x) i d e = front_stays made (x ∷ []) i d e

wire_stays : (wire : List Tree) (o : Option Tree) (k : ℕ) (t : Tree) → wire_at wire (pos k) ≡ Some t → wire_at (with_sent wire o) (pos k) ≡ Some t
wire_stays wire None k t e = e
wire_stays wire (Some u) zero t e = cc
wire_stays wire (Some u) (suc n) t e = front_stays wire (u ∷ []) n t e

names_stay : (wire : List Tree) (o : Option Tree) (made : List Document) (d : Option Document) (k : ℕ) → Names wire made k → Names (with_sent wire o) (with_made made d) k
names_stay wire o made d k h = record {
  place = h.place;
  document = h.document;
  is_made = made_stays made d h.place h.document h.is_made;
  on_wire = wire_stays wire o k (document_tree h.document) h.on_wire;
}

-- ---- steps

-- a step that makes nothing for a handshake
pub goes_on : (s : State) (numbers : List ℕ) (h : Follows s numbers) (r : Step) → Invariant (with_put s.records r.put) r.starts h.made → AreSited r.sites → Follows (after s r) numbers
goes_on s numbers h r inv sited = record { made = h.made; stands = inv; names = λ k e. names_stay s.wire r.sent h.made None k (h.names k e); sited = sited }

-- the number of the document that is made next
abbrev pub next_numbers : State → Option Document → List ℕ
next_numbers s None = []
next_numbers s (Some d) = next_number s ∷ []

-- the state after a document was made
abbrev with_document : State → Option Record → List Start → Option Document → State
with_document s put starts d = record { sites = s.sites; wire = with_sent s.wire (option_map document_tree d); records = with_put s.records put; starts = starts }

document_made : (s : State) (numbers : List ℕ) (h : Follows s numbers) (put : Option Record) (starts : List Start) (d : Option Document)
    → Invariant (with_put s.records put) starts (with_made h.made d) → Follows (with_document s put starts d) (next_numbers s d ++ numbers)
document_made s numbers h put starts None inv = record { made = h.made; stands = inv; names = h.names; sited = h.sited }
document_made s numbers h put starts (Some d) inv = record {
  made = h.made ++ d ∷ [];
  stands = inv;
  names = λ k e. ⊎_elim
      (λ f. let same : next_number s ≡ k = eqb-true (next_number s) k f in subst (Names (s.wire ++ document_tree d ∷ []) (h.made ++ d ∷ [])) same (record { place = length h.made; document = d; is_made = last_there h.made d; on_wire = numbered s (document_tree d) }))
      (λ f. names_stay s.wire (Some (document_tree d)) h.made (Some d) k (h.names k f))
      (or_cases (next_number s == k) (list_any (λ n. n == k) numbers) e);
  sited = h.sited;
}

-- a call of the handshake, which tells the number of the document that it makes
pub shaken : {T : Type 0} (s : State) (numbers : List ℕ) (h : Follows s numbers) (told : T → Answer) (document : T → Option Document) (starts : List Start) (o : Outcome handshake.Refusal T)
    → ((x : T) → number_told (told x) ≡ next_numbers s (document x)) → Invariant (with_put s.records o.put) starts (with_made h.made (made_by document o.result))
    → Follows (after s (shakes s told document starts o)) (number_told (shakes s told document starts o).answer ++ numbers)
shaken {T} s numbers h told document starts o tells inv = by o.result inv
  where
    by : (r : Result T (Cause handshake.Refusal)) → Invariant (with_put s.records o.put) starts (with_made h.made (made_by document r))
        → Follows (after s (shakes s told document starts (record { result = r; put = o.put }))) (number_told (call_answer told r) ++ numbers)
    by (Ok x) i = let P : List ℕ → Type 0 = λ ns. Follows (with_document s o.put starts (document x)) (ns ++ numbers) in subst P (sym (tells x)) (document_made s numbers h o.put starts (document x) i)
    by (Err e) i = document_made s numbers h o.put starts None i
