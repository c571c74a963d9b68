-- Texts of a grammar that are read, and identities of intermediaries among them.
use Rattle.std.proofs.Common.{◌≡◌, ℕ, suc, List, [], ◌∷◌, length, Bool, true, false, nat_le, cond, Option, Some, None, refl, ap, subst}
use Rattle.std.specs.List.{list_all}
use Rattle.std.specs.Option.{option_and_then}
use Rattle.spec_documents.specs.Tree.{Tree, null, truth, whole, words, items, members, items_in}
use Rattle.spec_documents.specs.Text.{is_identity}
use Rattle.spec_messages.specs.Message.{text_if, text_in, onto_read, all_read}
use Rattle.spec_records.specs.RecordDocument.{identities, ipx_in, are_ipx}

pub passes : (test : List ℕ → Bool) (t : Tree) (s : List ℕ) → text_if test t ≡ Some s → test s ≡ true
passes test null s e = cc
passes test (truth b) s e = cc
passes test (whole z) s e = cc
passes test (words w) s e = tested (test w) refl e
  where
    tested : (b : Bool) → test w ≡ b → cond b (Some w) None ≡ Some s → test s ≡ true
    tested true f e = let same : w ≡ s = cc in subst (λ z. test z ≡ true) same f
    tested false f e = cc
passes test (items ts) s e = cc
passes test (members ms) s e = cc

pub passes_in : (test : List ℕ → Bool) (o : Option Tree) (s : List ℕ) → text_in test o ≡ Some s → test s ≡ true
passes_in test None s e = cc
passes_in test (Some t) s e = passes test t s e

-- ---- intermediaries

record AllPass (test : List ℕ → Bool) (ts : List Tree) (ss : List (List ℕ)) : Type 0 where
  pub all : list_all test ss ≡ true
  pub count : length ss ≡ length ts

all_pass : (test : List ℕ → Bool) (ts : List Tree) (ss : List (List ℕ)) → all_read (text_if test) ts ≡ Some ss → AllPass test ts ss
all_pass test [] ss e = let same : [] ≡ ss = cc in subst (λ z. AllPass test [] z) same (record { all = refl; count = refl })
all_pass test (t ∷ ts) ss e = step (text_if test t) refl (all_read (text_if test) ts) (λ ys g. all_pass test ts ys g) e
  where
    step : (o : Option (List ℕ)) → text_if test t ≡ o → (rest : Option (List (List ℕ))) → ((ys : List (List ℕ)) → rest ≡ Some ys → AllPass test ts ys) → onto_read o rest ≡ Some ss → AllPass test (t ∷ ts) ss
    step None f rest g e = cc
    step (Some s) f None g e = cc
    step (Some s) f (Some ys) g e =
        let same : s ∷ ys ≡ ss = cc in
        let more = g ys refl in
        subst (λ z. AllPass test (t ∷ ts) z) same (record { all = rw (passes test t s f) more.all; count = ap suc more.count })

pub identities_named : (ts : List Tree) (ss : List (List ℕ)) → identities ts ≡ Some ss → are_ipx ss ≡ true
identities_named ts ss e = tested (nat_le (length ts) 1) refl e
  where
    tested : (b : Bool) → nat_le (length ts) 1 ≡ b → cond b (all_read (text_if is_identity) ts) None ≡ Some ss → are_ipx ss ≡ true
    tested true f e = let h = all_pass is_identity ts ss e in rw (h.count, f) h.all
    tested false f e = cc

pub ipx_named : (o : Option Tree) (ss : List (List ℕ)) → ipx_in o ≡ Some ss → are_ipx ss ≡ true
ipx_named o ss e = step (items_in o) e
  where
    step : (l : Option (List Tree)) → option_and_then identities l ≡ Some ss → are_ipx ss ≡ true
    step None e = cc
    step (Some ts) e = identities_named ts ss e
