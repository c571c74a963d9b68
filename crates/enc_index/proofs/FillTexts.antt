-- Texts and values filled, one piece at a time.
use Rattle.std.proofs.Common.{◌≡◌, ℕ, zero, suc, ◌^◌, ◌<◌, List, [], ◌∷◌, ◌++◌, length, true, false, Option, Some, None, option_map, slice_get, refl, sym, ap, ap₂, ◌∙◌, append-nil, if◌then◌else◌}
use Rattle.spec_documents.specs.Tree.{Tree, null, members, Members}
use Rattle.spec_documents.specs.Text.{joined}
use Rattle.spec_documents.specs.Hole.{HolePlace, value_at, text_value, hole_or, object_or}
use Rattle.doc_forms.specs.Capped.{capped}
use Rattle.enc_index.specs.Filling.{is_unfit, first_unfit}
use Rattle.enc_index.proofs.Capping.{value_at-capped}

-- ---- values

pub value_none : (vs : List Tree) (i : ℕ) → None ≡ slice_get vs i → null ≡ value_at vs i
value_none [] i e = refl
value_none (v ∷ vs) zero e = cc
value_none (v ∷ vs) (suc i) e = value_none vs i e

-- a hole whose index is held
pub text_held : (o : Option ℕ) (vs : List Tree) (s : List ℕ) (i : ℕ) → length vs < 2 ^ 32 → Some i ≡ option_map capped o → text_value (value_at vs i) ≡ hole_or o vs s
text_held None vs s i fits e = cc
text_held (Some n) vs s i fits e = let is : i ≡ capped n = cc in ap (λ k. text_value (value_at vs k)) is ∙ ap text_value (value_at-capped vs n fits)

pub object_held : (o : Option ℕ) (vs : List Tree) (ms : Members) (i : ℕ) → length vs < 2 ^ 32 → Some i ≡ option_map capped o → value_at vs i ≡ object_or o vs ms
object_held None vs ms i fits e = cc
object_held (Some n) vs ms i fits e = let is : i ≡ capped n = cc in ap (value_at vs) is ∙ value_at-capped vs n fits

pub object_none : (o : Option ℕ) (vs : List Tree) (ms : Members) → None ≡ option_map capped o → members ms ≡ object_or o vs ms
object_none None vs ms e = refl
object_none (Some n) vs ms e = cc

-- ---- pieces

-- each piece behind its separator
abbrev pub later : ℕ → List (List ℕ) → List ℕ
later c [] = []
later c (p ∷ ps) = c ∷ (p ++ later c ps)

pub joined-later : (c : ℕ) (p : List ℕ) (ps : List (List ℕ)) → joined c (p ∷ ps) ≡ p ++ later c ps
joined-later c p [] = sym (append-nil p)
joined-later c p (q ∷ ps) = ap (λ r. p ++ c ∷ r) (joined-later c q ps)

-- ---- unfit values

pub unfit_passed : (i n : ℕ) (h : HolePlace) (v : Tree) (hs gs : List HolePlace) (vs us : List Tree) → n ≡ suc i → hs ≡ h ∷ gs → vs ≡ v ∷ us → is_unfit h v ≡ false → first_unfit i hs vs ≡ first_unfit n gs us
unfit_passed i n h v hs gs vs us next eh ev fine =
    ap₂ (first_unfit i) eh ev ∙ ap (λ b. if b then Some i else first_unfit (suc i) gs us) fine ∙ ap (λ m. first_unfit m gs us) (sym next)

pub unfit_found : (i : ℕ) (h : HolePlace) (v : Tree) (hs gs : List HolePlace) (vs us : List Tree) → hs ≡ h ∷ gs → vs ≡ v ∷ us → is_unfit h v ≡ true → first_unfit i hs vs ≡ Some i
unfit_found i h v hs gs vs us eh ev unfit = ap₂ (first_unfit i) eh ev ∙ ap (λ b. if b then Some i else first_unfit (suc i) gs us) unfit
