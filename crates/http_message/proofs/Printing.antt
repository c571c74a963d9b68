-- Lists of headers as trees.
use Rattle.std.proofs.Common.{codes, None, drop, length, append_assoc, append-nil, arith, ◌<◌, ◌≡◌, ℕ, List, [], ◌∷◌, ◌++◌, ◌+◌, map, take, Some, slice_get, refl, sym, ap, ◌∙◌}
use Rattle.std.proofs.lemmas.List.{map-append}
use Rattle.n32_values.proofs.Trees.{take_at}
use Rattle.n32_values.proofs.Trees.{drop_at}
use Rattle.spec_documents.specs.Text.{joined}
use Rattle.spec_documents.specs.Tree.{Tree, item, items, trees, Members, put_member}
use Rattle.spec_messages.specs.Block.{header_tree, list_tree, part_text, path_text, value_text, query_text}
use Rattle.http_message.specs.Reading.{header_view, part_view, pair_view}
use Rattle.spec_messages.specs.Printing.{header_pair, with_headers}
use Rattle.http_message.specs.Printing.{later_pairs}
use Rattle.spec_messages.specs.Message as spec
use Rattle.http_message.specs.declared.message.Header.{Header}
use Rattle.http_message.specs.declared.message.Part.{Part}
use Rattle.http_message.specs.declared.message.Pair.{Pair}

abbrev pub tree_of_header : Header → Tree
tree_of_header h = header_tree (header_pair (header_view h))

pub header_trees : (hs : List Header) → list_tree header_tree (map header_pair (map header_view hs)) ≡ trees (map tree_of_header hs)
header_trees [] = refl
header_trees (h ∷ hs) = ap (item (tree_of_header h)) (header_trees hs)

pub headers_more : (hs : List Header) (i : ℕ) (h : Header) → slice_get hs i ≡ Some h → map tree_of_header (take (i + 1) hs) ≡ map tree_of_header (take i hs) ++ tree_of_header h ∷ []
headers_more hs i h is = ap (map tree_of_header) (take_at hs i h is) ∙ map-append tree_of_header (take i hs) (h ∷ [])

-- ---- texts of parts

pub path_more : (ps : List Part) (i : ℕ) (p : Part) (out all : List ℕ) → slice_get ps i ≡ Some p → out ++ path_text (map part_view (drop i ps)) ≡ all
    → ((out ++ 47 ∷ []) ++ part_text (part_view p)) ++ path_text (map part_view (drop (i + 1) ps)) ≡ all
path_more ps i p out all is h = append_assoc (out ++ 47 ∷ []) (part_text (part_view p)) _ ∙ append_assoc out (47 ∷ []) _ ∙ (rw (drop_at ps i p is) at h)

pub later_more : (ps : List Pair) (i : ℕ) (p : Pair) (out all : List ℕ) → slice_get ps i ≡ Some p → out ++ later_pairs (map pair_view (drop i ps)) ≡ all
    → ((out ++ 38 ∷ []) ++ value_text (pair_view p).name (pair_view p).value) ++ later_pairs (map pair_view (drop (i + 1) ps)) ≡ all
later_more ps i p out all is h = append_assoc (out ++ 38 ∷ []) (value_text (pair_view p).name (pair_view p).value) _ ∙ append_assoc out (38 ∷ []) _ ∙ (rw (drop_at ps i p is) at h)

-- a step of the loop that writes a path
pub path_step : (ps : List Part) (i : ℕ) (p : Part) (out mid new all : List ℕ) → slice_get ps i ≡ Some p → mid ≡ out ++ 47 ∷ [] → new ≡ mid ++ part_text (part_view p)
    → out ++ path_text (map part_view (drop i ps)) ≡ all → new ++ path_text (map part_view (drop (i + 1) ps)) ≡ all
path_step ps i p out mid new all is slash text h = ap (λ t. t ++ path_text (map part_view (drop (i + 1) ps))) (text ∙ ap (λ t. t ++ part_text (part_view p)) slash) ∙ path_more ps i p out all is h

pub later_step : (ps : List Pair) (i : ℕ) (p : Pair) (out mid new all : List ℕ) → slice_get ps i ≡ Some p → mid ≡ out ++ 38 ∷ [] → new ≡ mid ++ value_text (pair_view p).name (pair_view p).value
    → out ++ later_pairs (map pair_view (drop i ps)) ≡ all → new ++ later_pairs (map pair_view (drop (i + 1) ps)) ≡ all
later_step ps i p out mid new all is amp text h = ap (λ t. t ++ later_pairs (map pair_view (drop (i + 1) ps))) (text ∙ ap (λ t. t ++ value_text (pair_view p).name (pair_view p).value) amp) ∙ later_more ps i p out all is h

joined_later : (p : spec.Pair) (ps : List spec.Pair) → joined 38 (map (λ q. value_text q.name q.value) (p ∷ ps)) ≡ value_text p.name p.value ++ later_pairs ps
joined_later p [] = sym (append-nil (value_text p.name p.value))
joined_later p (q ∷ ps) = ap (λ t. value_text p.name p.value ++ 38 ∷ t) (joined_later q ps)

pub query_from : (ps : List Pair) (p : Pair) → slice_get ps 0 ≡ Some p → query_text (map pair_view ps) ≡ Some (value_text (pair_view p).name (pair_view p).value ++ later_pairs (map pair_view (drop 1 ps)))
query_from [] p is = cc
query_from (q ∷ ps) p is = let same : q ≡ p = cc in ap Some (joined_later (pair_view q) (map pair_view ps) ∙ ap (λ r. value_text (pair_view r).name (pair_view r).value ++ later_pairs (map pair_view ps)) same)

pub no_query : (ps : List Pair) → length ps ≡ 0 → query_text (map pair_view ps) ≡ None
no_query [] h = refl
no_query (p ∷ ps) h = absurd (omega arith)

pub no_headers : (hs : List Header) (ms : Members) → length hs ≡ 0 → with_headers (map header_view hs) ms ≡ ms
no_headers [] ms h = refl
no_headers (x ∷ hs) ms h = absurd (omega arith)

pub some_headers : (hs : List Header) (ms : Members) → 0 < length hs → with_headers (map header_view hs) ms ≡ put_member (codes "headers") (items (list_tree header_tree (map header_pair (map header_view hs)))) ms
some_headers [] ms h = absurd (omega arith)
some_headers (x ∷ hs) ms h = refl
