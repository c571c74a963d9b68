-- The document of a record nests a few levels deep.
use Rattle.std.proofs.Common.{◌≤◌, ℕ, max, List, [], ◌∷◌, map, Bool, Option, Some, None, arith, codes}
use Rattle.std.specs.declared.cmp.Ordering.{Ordering}
use Rattle.std.specs.declared.cmp.Ordering.TheVariants.{Less, Equal, Greater}
use Rattle.std.specs.Ordering.{match_ordering}
use Rattle.spec_documents.specs.Tree.{Tree, truth, words, Members, no_members, member, put_member, trees, name_cmp, depth, items_depth, members_depth}
use Rattle.spec_documents.specs.Fields.{fields}
use Rattle.spec_messages.specs.Policy.{Element, Mapping, Policy}
use Rattle.spec_messages.specs.PolicyDocument.{with_member, grants_tree, element_tree, list_of, mapping_tree, sort_tree, sort_text, location_text, policy_tree}
use Rattle.spec_records.specs.Records.{Record, Offered, Opened, Keyed, Sent, Delivered, Closed}
use Rattle.spec_records.specs.RecordDocument.{mapping_tree as number_or_null, record_tree}

put_depth : (k : List ℕ) (u : Tree) (ms : Members) → members_depth (put_member k u ms) ≤ max (depth u) (members_depth ms)
put_depth k u no_members = omega arith
put_depth k u (member l w ms) = by (name_cmp k l) (put_depth k u ms)
  where
    by : (o : Ordering) → members_depth (put_member k u ms) ≤ max (depth u) (members_depth ms)
        → members_depth (match_ordering o (member k u (member l w ms)) (member l u ms) (member l w (put_member k u ms))) ≤ max (depth u) (members_depth (member l w ms))
    by Less h = omega arith
    by Equal h = omega arith
    by Greater h = omega arith

-- a member that is perhaps there
with_depth : {A : Type 0} (f : A → Tree) (k : List ℕ) (o : Option A) (ms : Members) (n : ℕ) → ((x : A) → depth (f x) ≤ n) → members_depth ms ≤ n → members_depth (with_member f k o ms) ≤ n
with_depth f k None ms n each h = h
with_depth f k (Some x) ms n each h = omega (arith, put_depth k (f x) ms, each x)

list_depth : {A : Type 0} (f : A → Tree) (n : ℕ) (xs : List A) → ((x : A) → depth (f x) ≤ n) → items_depth (trees (map f xs)) ≤ n
list_depth f n [] each = omega arith
list_depth f n (x ∷ xs) each = omega (arith, each x, list_depth f n xs each)

grants_depth : (gs : List (List ℕ × Bool)) → members_depth (fields (map (λ g. (g.0, truth g.1)) gs)) ≤ 0
grants_depth [] = omega arith
grants_depth (g ∷ gs) = omega (arith, grants_depth gs)

grants_level : (gs : List (List ℕ × Bool)) → depth (grants_tree gs) ≤ 1
grants_level gs = omega (arith, grants_depth gs)

named_level : (e : Element) → members_depth (put_member (codes "ieType") (words (sort_text e.sort)) (put_member (codes "ieLoc") (words (location_text e.place)) no_members)) ≤ 1
named_level e = omega arith

-- the members of an element
members_level : (e : Element) (ms : Members) → members_depth ms ≤ 1
    → members_depth (with_member grants_tree (codes "isModifiableByIpx") e.by_ipx (with_member truth (codes "isModifiable") e.modifiable (with_member words (codes "rspIe") e.in_response (with_member words (codes "reqIe") e.in_request ms)))) ≤ 1
members_level e ms h =
    with_depth grants_tree _ e.by_ipx _ 1 grants_level
    (with_depth truth _ e.modifiable _ 1 (λ b. omega arith)
    (with_depth words _ e.in_response _ 1 (λ s. omega arith)
    (with_depth words _ e.in_request _ 1 (λ s. omega arith) h)))

element_level : (e : Element) → depth (element_tree e) ≤ 2
element_level e = omega (arith, members_level e (put_member (codes "ieType") (words (sort_text e.sort)) (put_member (codes "ieLoc") (words (location_text e.place)) no_members)) (named_level e))

mapping_level : (g : Mapping) → depth (mapping_tree g) ≤ 4
mapping_level g = omega (arith, list_depth element_tree 2 g.elements element_level)

policy_level : (p : Policy) → depth (policy_tree p) ≤ 6
policy_level p = omega (arith, list_depth mapping_tree 4 p.mappings mapping_level, list_depth sort_tree 0 p.sorts (λ s. omega arith))

names_level : (ss : List (List ℕ)) → depth (list_of words ss) ≤ 1
names_level ss = omega (arith, list_depth words 0 ss (λ s. omega arith))

number_level : (o : Option ℕ) → depth (number_or_null o) ≤ 0
number_level None = omega arith
number_level (Some n) = omega arith

pub record_level : (r : Record) → depth (record_tree r) ≤ 7
record_level (Offered node id) = omega arith
record_level (Opened x) = omega (arith, policy_level x.policy, names_level x.own_ipx, names_level x.peer_ipx)
record_level (Keyed node id k) = omega arith
record_level (Sent node id kind seq message mapping) = omega (arith, number_level mapping)
record_level (Delivered node id kind message mapping) = omega (arith, number_level mapping)
record_level (Closed node id) = omega arith
