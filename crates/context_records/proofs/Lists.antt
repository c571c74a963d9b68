-- Lists that are read and written item by item.
use Rattle.std.proofs.Common.{◌≡◌, ℕ, ◌+◌, ◌<◌, List, [], ◌∷◌, ◌++◌, map, take, length, slice_get, Option, Some, None, option_map, refl, sym, ap, ◌∙◌, arith, Result, Ok, Err, IfOk}
use Rattle.std.proofs.lemmas.List.{map-append}
use Rattle.n32_values.proofs.Trees.{take_at}
use Rattle.spec_documents.specs.Tree.{Tree, words}
use Rattle.spec_documents.specs.Text.{is_identity}
use Rattle.spec_messages.specs.Message.{text_if, onto_read}
use Rattle.spec_records.specs.RecordDocument.{identities}

onto_none : (o : Option (List ℕ)) → onto_read o (Some []) ≡ option_map (λ s. s ∷ []) o
onto_none None = refl
onto_none (Some s) = refl

pub one_identity : (ts : List Tree) (t : Tree) → (length ts ≡ 0 → ⊥) → (1 < length ts → ⊥) → slice_get ts 0 ≡ Some t → identities ts ≡ option_map (λ s. s ∷ []) (text_if is_identity t)
one_identity [] t some few e = absurd (some refl)
one_identity (u ∷ []) t some few e = let same : u ≡ t = cc in onto_none (text_if is_identity u) ∙ ap (λ v. option_map (λ s. s ∷ []) (text_if is_identity v)) same
one_identity (u ∷ v ∷ ts) t some few e = absurd (few (omega arith))

pub texts_step : (texts : List (List ℕ)) (i : ℕ) (s : List ℕ) (list new : List Tree) (t : Tree) → slice_get texts i ≡ Some s → list ≡ map words (take i texts) → new ≡ list ++ t ∷ [] → t ≡ words s → new ≡ map words (take (i + 1) texts)
texts_step texts i s list new t is h e n =
    e ∙ (λ j. h j ++ n j ∷ []) ∙ sym (ap (map words) (take_at texts i s is) ∙ map-append words (take i texts) (s ∷ []))

-- what holds however a call ends
pub always : {X E : Type 0} (r : Result X E) (P : Type 0) → P → IfOk r (λ _. P)
always (Ok x) P h = h
always (Err e) P h = tt
