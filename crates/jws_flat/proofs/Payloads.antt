-- A payload that was read is that of an object.
use Rattle.std.proofs.Common.{◌≡◌, ◌≢◌, ℕ, List, Bool, true, false, Option, Some, None, Result, Ok, Err, refl, sym, ap, subst, ◌∙◌, cond, codes}
use Rattle.std.specs.Prelude.{is_none}
use Rattle.spec_documents.specs.Chain.{◌>>=◌}
use Rattle.spec_documents.specs.Text.{is_identity}
use Rattle.spec_documents.specs.Tree.{Tree, Members, get_member}
use Rattle.spec_messages.specs.Message.{any_text, text_at, wanted}
use Rattle.spec_sealing.specs.Header.{object_in}
use Rattle.spec_sealing.specs.Jwe.{bytes_at, text_with}
use Rattle.spec_sealing.specs.Jws.{Jws, algorithm_of, jws_in, payload_in}
use Rattle.spec_sealing.specs.Entries.{Entry, entry_of, operations_in}

chain_ok : {A B E : Type 0} (r : Result A E) (f : A → Result B E) (y : B) → (r >>= f) ≡ Ok y → (x : A) × (r ≡ Ok x) × (f x ≡ Ok y)
unfolding ◌>>=◌
chain_ok (Ok x) f y e = (x, refl, e)
chain_ok (Err why) f y e = cc

there : {X E : Type 0} (o : Option X) (e : E) (x : X) → wanted o e ≡ Ok x → o ≡ Some x
there None e x h = cc
there (Some y) e x h = cc

-- a text that was read
some_text : (b : Bool) (text p : List ℕ) → cond b None (Some text) ≡ Some p → (b ≡ false) × (text ≡ p)
some_text true text p e = cc
some_text false text p e = (refl, cc)

is_read : (o : Option (List ℕ)) (p : List ℕ) → text_with payload_in o ≡ Some p → is_none (payload_in p) ≡ false
is_read None p e = cc
is_read (Some text) p e = let parts = some_text (is_none (payload_in text)) text p e in ap (λ s. is_none (payload_in s)) (sym parts.1) ∙ parts.0

same_payload : (r : Result Jws (List ℕ)) (x y : Jws) → r ≡ Ok x → r ≡ Ok y → x.payload ≡ y.payload
same_payload r x y e f = let is : x ≡ y = cc in ap (λ w. w.payload) is

abbrev refused : Result Entry (List ℕ)
refused = Err (codes "payload")

-- what else may refuse an entry
later : (i : Option (List ℕ)) (o : Option (Option Tree)) (g : Option (List ℕ)) → (wanted i (codes "identity") >>= λ identity. wanted o (codes "operations") >>= λ operations. wanted g (codes "tag") >>= λ tag. Ok (record { identity = identity; operations = operations; tag = tag }))
    ≢ refused
unfolding ◌>>=◌
later None o g e = cc
later (Some i) None g e = cc
later (Some i) (Some o) None e = cc
later (Some i) (Some o) (Some g) e = cc

of_object : (found : Option Members) → is_none found ≡ false → (wanted found (codes "payload") >>= λ ms.
    wanted (text_at is_identity (codes "identity") ms) (codes "identity") >>= λ identity.
    wanted (operations_in (get_member (codes "operations") ms)) (codes "operations") >>= λ operations.
    wanted (text_at any_text (codes "tag") ms) (codes "tag") >>= λ tag.
    Ok (record { identity = identity; operations = operations; tag = tag })) ≢ refused
unfolding ◌>>=◌
of_object None e = cc
of_object (Some ms) e = later (text_at is_identity (codes "identity") ms) (operations_in (get_member (codes "operations") ms)) (text_at any_text (codes "tag") ms)

pub payload-read : (t : Tree) (w : Jws) → jws_in t ≡ Ok w → entry_of w.payload ≢ Err (codes "payload")
payload-read t w e =
    let ms = chain_ok (wanted (object_in t) (codes "entry")) _ w e in
    let protected = chain_ok (wanted (text_at any_text (codes "protected") ms.0) (codes "protected")) _ w ms.2 in
    let algorithm = chain_ok (wanted (algorithm_of protected.0) (codes "protected")) _ w protected.2 in
    let payload = chain_ok (wanted (text_with payload_in (text_at any_text (codes "payload") ms.0)) (codes "payload")) _ w algorithm.2 in
    let signature = chain_ok (wanted (bytes_at (codes "signature") ms.0) (codes "signature")) _ w payload.2 in
    let same : payload.0 ≡ w.payload = same_payload _ _ w refl signature.2 in
    let read = is_read (text_at any_text (codes "payload") ms.0) payload.0 (there _ (codes "payload") payload.0 payload.1) in
    subst (λ p. entry_of p ≢ Err (codes "payload")) same (of_object (payload_in payload.0) read)
