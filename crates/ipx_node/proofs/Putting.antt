-- A member that is put twice is the last one, as the entries' list after null.
use Rattle.std.proofs.Common.{◌≡◌, ℕ, List, [], ◌∷◌, ◌++◌, Option, Ordering, Less, Equal, Greater, refl, ap, ◌∙◌}
use Rattle.std.specs.Prelude.{unwrap_or}
use Rattle.std.specs.Ordering.{match_ordering}
use Rattle.spec_documents.specs.Tree.{Tree, null, items, Members, no_members, member, trees, items_in, name_cmp, get_member, put_member}
use Rattle.spec_documents.proofs.TreeLemmas.{name_self}

step : (k l : List ℕ) (u v w : Tree) (ms : Members) (o : Ordering) → name_cmp k l ≡ o → put_member k u (put_member k v ms) ≡ put_member k u ms
    → put_member k u (match_ordering o (member k v (member l w ms)) (member l v ms) (member l w (put_member k v ms)))
    ≡ match_ordering o (member k u (member l w ms)) (member l u ms) (member l w (put_member k u ms))
step k l u v w ms Less e h = rw (name_self k) refl
step k l u v w ms Equal e h = rw e refl
step k l u v w ms Greater e h = rw e (ap (member l w) h)

pub put_put : (k : List ℕ) (u v : Tree) (ms : Members) → put_member k u (put_member k v ms) ≡ put_member k u ms
put_put k u v no_members = rw (name_self k) refl
put_put k u v (member l w ms) = step k l u v w ms (name_cmp k l) refl (put_put k u v ms)

-- null is put at k, then the list of what stood there and one item more
pub appended : (k : List ℕ) (ms between after : Members) (earlier : Option Tree) (xs ys : List Tree) (e : Tree) → between ≡ put_member k null ms → earlier ≡ get_member k ms → xs ≡ unwrap_or (items_in earlier) [] → ys ≡ xs ++ e ∷ []
    → after ≡ put_member k (items (trees ys)) between → after ≡ put_member k (items (trees (unwrap_or (items_in (get_member k ms)) [] ++ e ∷ []))) ms
appended k ms between after earlier xs ys e is_between is_earlier is_xs is_ys is_after =
    is_after ∙ (ap (put_member k (items (trees ys))) is_between ∙ (put_put k (items (trees ys)) null ms
    ∙ ap (λ zs. put_member k (items (trees zs)) ms) (is_ys ∙ ap (λ zs. zs ++ e ∷ []) (is_xs ∙ ap (λ o. unwrap_or (items_in o) []) is_earlier))))
