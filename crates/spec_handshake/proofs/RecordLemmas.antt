-- What the questions on records answer after one record more.
use Rattle.std.proofs.Common.{◌≡◌, ℕ, Bool, true, false, ◌||◌, List, [], ◌∷◌, ◌++◌, refl, ap, ◌∙◌}
use Rattle.std.specs.Prelude.{bytes_eq}
use Rattle.std.specs.List.{list_any}
use Rattle.std.proofs.lemmas.List.Elements.{filter-append}
use Rattle.std.proofs.lemmas.List.Folds.{list_any-append}
use Rattle.std.proofs.lemmas.Bool.{and_parts, and_from, eqb-true, eq-eqb, or_left}
use Rattle.std.proofs.lemmas.Slice.Eq.{bytes_eq-Decides}
use Rattle.spec_records.specs.Records.{Record, node_of, context_of, is_of, own, is_offered, takes_id, used, offered}

own-append : (node : List ℕ) (id : ℕ) (xs ys : List Record) → own node id (xs ++ ys) ≡ own node id xs ++ own node id ys
own-append node id xs ys = filter-append (is_of node id) xs ys

pub is_of-self : (r : Record) → is_of (node_of r) (context_of r) r ≡ true
is_of-self r = and_from _ _ ((bytes_eq-Decides (node_of r) (node_of r)).1 refl) (eq-eqb (context_of r) (context_of r) refl)

pub is_of-names : (node : List ℕ) (id : ℕ) (r : Record) → is_of node id r ≡ true → (node_of r ≡ node) × (context_of r ≡ id)
is_of-names node id r e = let p = and_parts (bytes_eq (node_of r) node) _ e in ((bytes_eq-Decides (node_of r) node).0 p.0, eqb-true (context_of r) id p.1)

pub own-one : (node : List ℕ) (id : ℕ) (r : Record) → is_of node id r ≡ true → own node id (r ∷ []) ≡ r ∷ []
own-one node id r e = rw e

pub own-other : (node : List ℕ) (id : ℕ) (r : Record) → is_of node id r ≡ false → own node id (r ∷ []) ≡ []
own-other node id r e = rw e

pub used-append : (node : List ℕ) (id : ℕ) (xs ys : List Record) → used node id (xs ++ ys) ≡ (used node id xs || used node id ys)
used-append node id xs ys = ap (list_any takes_id) (own-append node id xs ys) ∙ list_any-append takes_id (own node id xs) (own node id ys)

pub offered-append : (node : List ℕ) (id : ℕ) (xs ys : List Record) → offered node id (xs ++ ys) ≡ (offered node id xs || offered node id ys)
offered-append node id xs ys = ap (list_any is_offered) (own-append node id xs ys) ∙ list_any-append is_offered (own node id xs) (own node id ys)

-- a test over the records of one context, at one record of it
pub one_found : (p : Record → Bool) (node : List ℕ) (id : ℕ) (r : Record) → is_of node id r ≡ true → p r ≡ true → list_any p (own node id (r ∷ [])) ≡ true
one_found p node id r e h = ap (list_any p) (own-one node id r e) ∙ or_left (p r) false h
