-- The texts of a line, filled, are read to the parts, filled.
use Rattle.std.proofs.Common.{◌≡◌, ℕ, List, [], ◌∷◌, map, Bool, true, false, not, ◌&&◌, ◌==◌, Option, Some, None, option_map, refl, sym, ap, ap₂, ◌∙◌, if◌then◌else◌}
use Rattle.std.proofs.lemmas.Bool.{and_parts, and_from}
use Rattle.std.specs.List.{list_all}
use Rattle.spec_documents.specs.Tree.{Tree, null, truth, whole, words, items, members}
use Rattle.spec_documents.specs.Text.{is_uri_byte, is_query_byte, is_segment, is_query_name, is_query_value, onto_first, pieces, joined, cut_at}
use Rattle.spec_documents.specs.Hole.{value_at, text_hole, text_value, is_words, hole_or, filled_text, but_first, filled_path, filled_value, filled_pair, filled_query}
use Rattle.spec_messages.specs.Message.{Part, clear, hole_part, Pair, all_read, onto_read, segments_of, pair_of, query_of}
use Rattle.spec_messages.specs.Split.{fill_part, fill_pair, has_text, has_value}
use Rattle.spec_messages.specs.Block.{hole_or_clear, block_parts}
use Rattle.spec_documents.proofs.HeadLemmas.{no_hole, avoids, avoids_by, pieces_more, pieces_one, cut_there, cut_not}
use Rattle.spec_documents.proofs.GuardLemmas.{all-append}
use Rattle.spec_messages.proofs.LineRead.{query_node}
use Rattle.spec_messages.proofs.HoleReads.{onto_some}

-- ---- pieces

some_piece : (c : ℕ) (s : List ℕ) → (p : List ℕ) × (ps : List (List ℕ)) × (pieces c s ≡ p ∷ ps)
some_piece c [] = ([], [], refl)
some_piece c (b ∷ bs) = by (b == c) (pieces c bs)
  where
    by : (t : Bool) (qs : List (List ℕ)) → (p : List ℕ) × (ps : List (List ℕ)) × ((if t then [] ∷ qs else onto_first b qs) ≡ p ∷ ps)
    by true qs = ([], qs, refl)
    by false [] = (b ∷ [], [], refl)
    by false (q ∷ qs) = (b ∷ q, qs, refl)

pieces-joined : (c : ℕ) (p : List ℕ) (ps : List (List ℕ)) → list_all (avoids c) (p ∷ ps) ≡ true → pieces c (joined c (p ∷ ps)) ≡ p ∷ ps
pieces-joined c p [] a = pieces_one c p (and_parts (avoids c p) _ a).0
pieces-joined c p (q ∷ ps) a =
    let h = and_parts (avoids c p) _ a in
    pieces_more c p (joined c (q ∷ ps)) h.0 ∙ ap (λ r. p ∷ r) (pieces-joined c q ps h.1)

-- ---- one text

pub clear_is : (b : Bool) (s : List ℕ) (p : Part) → (if b then Some (clear s) else None) ≡ Some p → (b ≡ true) × (clear s ≡ p)
clear_is true s p e = (refl, cc)
clear_is false s p e = cc

words_text : (test : List ℕ → Bool) (v : Tree) → is_words test v ≡ true → test (text_value v) ≡ true
words_text test null e = cc
words_text test (truth b) e = cc
words_text test (whole z) e = cc
words_text test (words s) e = e
words_text test (items ts) e = cc
words_text test (members ms) e = cc

-- what a part's text is filled to passes the test, and is the part, filled
text_filled : (ok : List ℕ → Bool) (vs : List Tree) (s : List ℕ) (o : Option ℕ) (p : Part) → hole_or_clear ok s o ≡ Some p → has_text ok vs p ≡ true → (ok (hole_or o vs s) ≡ true) × (fill_part vs p ≡ clear (hole_or o vs s))
text_filled ok vs s None p e h =
    let k = clear_is (ok s) s p e in (k.0, ap (fill_part vs) (sym k.1))
text_filled ok vs s (Some n) p e h =
    let is : hole_part n ≡ p = cc in
    (words_text ok (value_at vs n) (ap (has_text ok vs) is ∙ h), ap (fill_part vs) (sym is))

-- a text that passes the test is read as itself
read_clear : (f : ℕ → Bool) (ok : List ℕ → Bool) → f 123 ≡ false → ((s : List ℕ) → ok s ≡ true → list_all f s ≡ true) → (s : List ℕ) → ok s ≡ true → hole_or_clear ok s (text_hole s) ≡ Some (clear s)
read_clear f ok brace all s e = ap (hole_or_clear ok s) (no_hole f s brace (all s e)) ∙ rw e refl

read_segment : (s : List ℕ) → is_segment s ≡ true → block_parts.segment s ≡ Some (clear s)
read_segment = read_clear is_uri_byte is_segment refl (λ s e. e)

read_value : (s : List ℕ) → is_query_value s ≡ true → block_parts.value s ≡ Some (clear s)
read_value = read_clear is_query_byte is_query_value refl (λ s e. e)

-- ---- paths

segments_filled : (vs : List Tree) (ps : List (List ℕ)) (ss : List Part) → all_read block_parts.segment ps ≡ Some ss → list_all (has_text is_segment vs) ss ≡ true
    → (list_all (avoids 47) (map (filled_text vs) ps) ≡ true) × (all_read block_parts.segment (map (filled_text vs) ps) ≡ Some (map (fill_part vs) ss))
segments_filled vs [] ss e h = let is : [] ≡ ss = cc in (refl, ap (λ (xs : List Part). Some (map (fill_part vs) xs)) is)
segments_filled vs (p ∷ ps) ss e h =
    let s = onto_some (block_parts.segment p) (all_read block_parts.segment ps) ss e in
    let g = and_parts (has_text is_segment vs s.0) _ (ap (list_all (has_text is_segment vs)) (sym s.4) ∙ h) in
    let one = text_filled is_segment vs p (text_hole p) s.0 s.2 g.0 in
    let rest = segments_filled vs ps s.1 s.3 g.1 in (
      and_from _ _ (avoids_by is_uri_byte 47 refl (filled_text vs p) one.0) rest.0,
      ap₂ onto_read (read_segment (filled_text vs p) one.0 ∙ ap Some (sym one.1)) rest.1 ∙ ap (λ (xs : List Part). Some (map (fill_part vs) xs)) (sym s.4),
    )

path_pieces_filled : (vs : List Tree) (qs : List (List ℕ)) (p : List ℕ) (ps : List (List ℕ)) (ss : List Part) → qs ≡ p ∷ ps → all_read block_parts.segment qs ≡ Some ss → list_all (has_text is_segment vs) ss ≡ true
    → segments_of block_parts.segment (joined 47 ([] ∷ map (filled_text vs) qs)) ≡ Some (map (fill_part vs) ss)
path_pieces_filled vs qs p ps ss is e h =
    let k = segments_filled vs (p ∷ ps) ss (ap (all_read block_parts.segment) (sym is) ∙ e) h in
    ap (λ (xs : List (List ℕ)). segments_of block_parts.segment (joined 47 ([] ∷ map (filled_text vs) xs))) is
    ∙ ap (all_read block_parts.segment) (pieces-joined 47 (filled_text vs p) (map (filled_text vs) ps) k.0)
    ∙ k.1

pub path_filled : (vs : List Tree) (s : List ℕ) (ss : List Part) → segments_of block_parts.segment s ≡ Some ss → list_all (has_text is_segment vs) ss ≡ true → segments_of block_parts.segment (filled_path vs s) ≡ Some (map (fill_part vs) ss)
path_filled vs [] ss e h = cc
path_filled vs (b ∷ bs) ss e h = by (b == 47) e
  where
    by : (t : Bool) → (if t then all_read block_parts.segment (pieces 47 bs) else None) ≡ Some ss
        → segments_of block_parts.segment (joined 47 (but_first (filled_text vs) (if t then [] ∷ pieces 47 bs else onto_first b (pieces 47 bs)))) ≡ Some (map (fill_part vs) ss)
    by true e = let k = some_piece 47 bs in path_pieces_filled vs (pieces 47 bs) k.0 k.1 ss k.2 e h
    by false e = cc

-- ---- queries

name_avoids : (c : ℕ) → (is_query_byte c && not (c == 61)) ≡ false → (s : List ℕ) → is_query_name s ≡ true → avoids c s ≡ true
name_avoids c n s e = avoids_by (λ b. is_query_byte b && not (b == 61)) c n s e

bare_is : (b : Bool) (name : List ℕ) (q : Pair) → (if b then Some (record { name = name; value = None }) else None) ≡ Some q → (b ≡ true) × (record { name = name; value = None } ≡ q)
bare_is true name q e = (refl, cc)
bare_is false name q e = cc

valued_is : (b : Bool) (name : List ℕ) (o : Option Part) (q : Pair) → (if b then option_map (λ p. record { name = name; value = Some p }) o else None) ≡ Some q → (b ≡ true) × (p : Part) × (o ≡ Some p) × (record { name = name; value = Some p } ≡ q)
valued_is true name None q e = cc
valued_is true name (Some p) q e = (refl, p, refl, cc)
valued_is false name o q e = cc

read_valued : (name s : List ℕ) (p : Part) → is_query_name name ≡ true → block_parts.value s ≡ Some p → pair_of block_parts.value (name, Some s) ≡ Some (record { name = name; value = Some p })
read_valued name s p n v = rw (n, v) refl

value_filled : (vs : List Tree) (name : List ℕ) (v : Option (List ℕ)) (q : Pair) → pair_of block_parts.value (name, v) ≡ Some q → has_value vs q.value ≡ true
    → (avoids 38 (filled_value vs name v) ≡ true) × (pair_of block_parts.value (cut_at 61 (filled_value vs name v)) ≡ Some (fill_pair vs q))
value_filled vs name None q e h =
    let k = bare_is (is_query_name name) name q e in (
      name_avoids 38 refl name k.0,
      ap (pair_of block_parts.value) (cut_not 61 name (name_avoids 61 refl name k.0)) ∙ e ∙ ap Some (sym k.1 ∙ ap (fill_pair vs) k.1),
    )
value_filled vs name (Some s) q e h =
    let k = valued_is (is_query_name name) name (block_parts.value s) q e in
    let one = text_filled is_query_value vs s (text_hole s) k.1 k.2 (ap (λ (x : Pair). has_value vs x.value) k.3 ∙ h) in (
      all-append (λ b. not (b == 38)) name (61 ∷ filled_text vs s) (name_avoids 38 refl name k.0) (avoids_by is_query_byte 38 refl (filled_text vs s) one.0),
      ap (pair_of block_parts.value) (cut_there 61 name (filled_text vs s) (name_avoids 61 refl name k.0))
          ∙ read_valued name (filled_text vs s) (clear (filled_text vs s)) k.0 (read_value (filled_text vs s) one.0)
          ∙ ap (λ p. Some (record { name = name; value = Some p })) (sym one.1)
          ∙ ap (λ x. Some (fill_pair vs x)) k.3,
    )

pairs_filled : (vs : List Tree) (ps : List (List ℕ)) (qs : List Pair) → all_read (λ p. pair_of block_parts.value (cut_at 61 p)) ps ≡ Some qs → list_all (λ p. has_value vs p.value) qs ≡ true
    → (list_all (avoids 38) (map (filled_pair vs) ps) ≡ true) × (all_read (λ p. pair_of block_parts.value (cut_at 61 p)) (map (filled_pair vs) ps) ≡ Some (map (fill_pair vs) qs))
pairs_filled vs [] qs e h = let is : [] ≡ qs = cc in (refl, ap (λ (xs : List Pair). Some (map (fill_pair vs) xs)) is)
pairs_filled vs (p ∷ ps) qs e h =
    let s = onto_some (pair_of block_parts.value (cut_at 61 p)) (all_read (λ p. pair_of block_parts.value (cut_at 61 p)) ps) qs e in
    let g = and_parts (has_value vs s.0.value) _ (ap (list_all (λ p. has_value vs p.value)) (sym s.4) ∙ h) in
    let one = value_filled vs (cut_at 61 p).0 (cut_at 61 p).1 s.0 s.2 g.0 in
    let rest = pairs_filled vs ps s.1 s.3 g.1 in (
      and_from _ _ one.0 rest.0,
      ap₂ onto_read one.1 rest.1 ∙ ap (λ (xs : List Pair). Some (map (fill_pair vs) xs)) (sym s.4),
    )

query_pieces_filled : (vs : List Tree) (rs : List (List ℕ)) (p : List ℕ) (ps : List (List ℕ)) (qs : List Pair) → rs ≡ p ∷ ps → all_read (λ p. pair_of block_parts.value (cut_at 61 p)) rs ≡ Some qs → list_all (λ p. has_value vs p.value) qs ≡ true
    → all_read (λ p. pair_of block_parts.value (cut_at 61 p)) (pieces 38 (joined 38 (map (filled_pair vs) rs))) ≡ Some (map (fill_pair vs) qs)
query_pieces_filled vs rs p ps qs is e h =
    let k = pairs_filled vs (p ∷ ps) qs (ap (all_read (λ p. pair_of block_parts.value (cut_at 61 p))) (sym is) ∙ e) h in
    ap (λ (xs : List (List ℕ)). all_read (λ p. pair_of block_parts.value (cut_at 61 p)) (pieces 38 (joined 38 (map (filled_pair vs) xs)))) is
    ∙ ap (all_read (λ p. pair_of block_parts.value (cut_at 61 p))) (pieces-joined 38 (filled_pair vs p) (map (filled_pair vs) ps) k.0)
    ∙ k.1

pub query_filled : (vs : List Tree) (o : Option (List ℕ)) (qs : List Pair) → query_of block_parts.value (query_node o) ≡ Some qs → list_all (λ p. has_value vs p.value) qs ≡ true → query_of block_parts.value (query_node (option_map (filled_query vs) o)) ≡ Some (map (fill_pair vs) qs)
query_filled vs None qs e h = let is : [] ≡ qs = cc in ap (λ (xs : List Pair). Some (map (fill_pair vs) xs)) is
query_filled vs (Some s) qs e h = let k = some_piece 38 s in query_pieces_filled vs (pieces 38 s) k.0 k.1 qs k.2 e h
