-- What is computed of an operation and an entry is what their definitions say.
use Rattle.std.proofs.Common.{◌≡◌, ℕ, suc, ◌+◌, List, [], ◌∷◌, ◌++◌, length, Bool, true, false, not, ◌&&◌, Option, Some, None, Result, Ok, Err, refl, sym, ap, ap₂, ◌∙◌, subst, inl, inr, is_some, if◌then◌else◌, arith}
use Rattle.std.proofs.lemmas.Bool.{and_parts, and_from, eqb-true, eq-eqb}
use Rattle.std.proofs.lemmas.Slice.Eq.{bytes_eq-Decides}
use Rattle.std.specs.Prelude.{◌⊎◌, bytes_eq}
use Rattle.spec_documents.specs.Tree.{Tree, is_ordered}
use Rattle.spec_documents.specs.Place.{Pointer, ◌>>=◌}
use Rattle.spec_documents.specs.Patch.{Op}
use Rattle.spec_documents.specs.Hole.{HolePlace, HoleFault, places}
use Rattle.spec_messages.specs.Message.{Message}
use Rattle.spec_messages.specs.Policy.{Policy, Address}
use Rattle.spec_messages.specs.Block.{IsBlock, clear_message}
use Rattle.spec_messages.specs.Fault.{BlockFault, block_fault}
use Rattle.spec_messages.specs.Entry.{OpWhy, hole_value, into_hole, patch, hole_taken, too_large, metadata, not_block, hole_moved, not_modifiable, op_result, first_fixed, Allowed, Refused, OpCause, EntryApplied}
use Rattle.spec_messages.specs.Outcome.{same_pointer, same_part, same_place, same_place_list, same_places, message_or, read_again, unless_fixed, compared, operation_outcome, numbered_cause, outcome_from}
use Rattle.spec_documents.proofs.TreeLemmas.{bind_ok}
use Rattle.spec_messages.proofs.AllowedLemmas.{block_places}
use Rattle.spec_messages.proofs.BlockOrder.{block-ordered}
use Rattle.spec_messages.proofs.BlockLaws.{block-clear, clear-block, block-faultless}

-- ---- places

pointer_self : (p : Pointer) → same_pointer p p ≡ true
pointer_self [] = refl
pointer_self (x ∷ p) = and_from (bytes_eq x x) _ ((bytes_eq-Decides x x).1 refl) (pointer_self p)

pointer_is : (p q : Pointer) → same_pointer p q ≡ true → p ≡ q
pointer_is [] [] e = refl
pointer_is [] (y ∷ q) e = cc
pointer_is (x ∷ p) [] e = cc
pointer_is (x ∷ p) (y ∷ q) e =
    let h = and_parts (bytes_eq x y) _ e in
    ap₂ ◌∷◌ ((bytes_eq-Decides x y).0 h.0) (pointer_is p q h.1)

part_self : (o : Option ℕ) → same_part o o ≡ true
part_self None = refl
part_self (Some n) = eq-eqb n n refl

part_is : (o p : Option ℕ) → same_part o p ≡ true → o ≡ p
part_is None None e = refl
part_is None (Some n) e = cc
part_is (Some m) None e = cc
part_is (Some m) (Some n) e = ap Some (eqb-true m n e)

list_self : (ps : List HolePlace) → same_place_list ps ps ≡ true
list_self [] = refl
list_self (p ∷ ps) = and_from (same_place p p) _ (and_from (same_pointer p.pointer p.pointer) _ (pointer_self p.pointer) (part_self p.part)) (list_self ps)

place_is : (p q : HolePlace) → same_place p q ≡ true → p ≡ q
place_is p q e =
    let h = and_parts (same_pointer p.pointer q.pointer) _ e in
    ap₂ (λ x y. record { pointer = x; part = y }) (pointer_is p.pointer q.pointer h.0) (part_is p.part q.part h.1)

list_is : (ps qs : List HolePlace) → same_place_list ps qs ≡ true → ps ≡ qs
list_is [] [] e = refl
list_is [] (q ∷ qs) e = cc
list_is (p ∷ ps) [] e = cc
list_is (p ∷ ps) (q ∷ qs) e = let h = and_parts (same_place p q) _ e in ap₂ ◌∷◌ (place_is p q h.0) (list_is ps qs h.1)

places_is : (r s : Result (List HolePlace) HoleFault) → same_places r s ≡ true → r ≡ s
places_is (Ok ps) (Ok qs) e = ap Ok (list_is ps qs e)
places_is (Ok ps) (Err w) e = cc
places_is (Err w) s e = cc

places_same : (j w : Tree) (n : ℕ) (c : Message) → IsBlock j n c → places w n ≡ places j n → same_places (places w n) (places j n) ≡ true
places_same j w n c b e = let ps = block_places j n c b in ap₂ same_places (e ∙ ps.1) ps.1 ∙ list_self ps.0

-- ---- the result read again

abbrev Read : ℕ → Tree → Type 0
Read n w = ((d : Message) × IsBlock w n d × (read_again n w ≡ Ok d)) ⊎ (((d : Message) → IsBlock w n d → ⊥) × (read_again n w ≡ Err not_block))

reads : (n : ℕ) (w : Tree) (d : Message) → IsBlock w n d → read_again n w ≡ Ok d
reads n w d b =
    ap₂ (λ (f : Bool) r. if f then r else Err not_block)
    (and_from (is_ordered w) _ (block-ordered w n d b) (ap (λ o. not (is_some o)) (block-faultless w n d b)))
    (ap message_or (block-clear w n d b))

none_of : (o : Option BlockFault) → not (is_some o) ≡ true → o ≡ None
none_of None e = refl
none_of (Some f) e = cc

read_cases : (n : ℕ) (w : Tree) → Read n w
read_cases n w = by (is_ordered w && not (is_some (block_fault w n))) refl (clear_message w) refl
  where
    clash : (d : Message) → IsBlock w n d → read_again n w ≡ Err not_block → ⊥
    clash d b e = let no : Ok d ≡ Err not_block = sym (reads n w d b) ∙ e in cc

    by : (f : Bool) → is_ordered w && not (is_some (block_fault w n)) ≡ f → (o : Option Message) → clear_message w ≡ o → Read n w
    by false e o g = let r = ap (λ f. if f then message_or (clear_message w) else Err not_block) e in inr (λ d b. clash d b r, r)
    by true e None g = let r = ap₂ (λ f o. if f then message_or o else Err not_block) e g in inr (λ d b. clash d b r, r)
    by true e (Some d) g =
        let p = and_parts (is_ordered w) _ e in
        inl (d, clear-block w n d p.0 (none_of (block_fault w n) p.1) g, ap₂ (λ f o. if f then message_or o else Err not_block) e g)

-- ---- an operation

chosen : (b : Bool) (r : Result (Tree × Message) OpWhy) (x : Tree × Message) → (if b then r else Err hole_moved) ≡ Ok x → (b ≡ true) × (r ≡ Ok x)
chosen true r x e = (refl, e)
chosen false r x e = cc

not_fixed : (o : Option Address) (y x : Tree × Message) → unless_fixed o y ≡ Ok x → (o ≡ None) × (y ≡ x)
not_fixed None y x e = (refl, cc)
not_fixed (Some a) y x e = cc

pub outcome-made : (pol : Policy) (k : Option ℕ) (ipx : List ℕ) (n : ℕ) (j : Tree) (c : Message) (op : Op) (r : Tree × Message) → operation_outcome pol k ipx n j c op ≡ Ok r → Allowed pol k ipx n j c op r.0 r.1
outcome-made pol k ipx n j c op r e =
    let w = bind_ok (op_result j op) (λ w. read_again n w >>= λ d. compared pol k ipx n j c w d) r e in
    let d = bind_ok (read_again n w.0) (λ d. compared pol k ipx n j c w.0 d) r w.2 in
    let same = chosen (same_places (places w.0 n) (places j n)) (unless_fixed (first_fixed pol k ipx c d.0) (w.0, d.0)) r d.2 in
    let free = not_fixed (first_fixed pol k ipx c d.0) (w.0, d.0) r same.1 in
    subst (λ (x : Tree × Message). Allowed pol k ipx n j c op x.0 x.1) free.1 (record {
      made = w.1;
      block = block_is w.0 d.0 d.1 (read_cases n w.0);
      still = places_is (places w.0 n) (places j n) same.0;
      may = free.0;
    })
  where
    block_is : (w : Tree) (d : Message) → read_again n w ≡ Ok d → Read n w → IsBlock w n d
    block_is w d e (inl (x, b, f)) = let both : Ok x ≡ Ok d = sym f ∙ e in let same : x ≡ d = cc in subst (IsBlock w n) same b
    block_is w d e (inr (never, f)) = let clash : Err not_block ≡ Ok d = sym f ∙ e in cc

pub outcome-allowed : (pol : Policy) (k : Option ℕ) (ipx : List ℕ) (n : ℕ) (j : Tree) (c : Message) (op : Op) (r : Tree × Message) → IsBlock j n c → Allowed pol k ipx n j c op r.0 r.1 → operation_outcome pol k ipx n j c op ≡ Ok r
outcome-allowed pol k ipx n j c op r b a =
    ap (λ x. x >>= λ w. read_again n w >>= λ d. compared pol k ipx n j c w d) a.made
    ∙ (ap (λ x. x >>= λ d. compared pol k ipx n j c r.0 d) (reads n r.0 r.1 a.block)
    ∙ ap₂ (λ (f : Bool) o. if f then unless_fixed o (r.0, r.1) else Err hole_moved) (places_same j r.0 n c b a.still) a.may)

-- the reasons that only a result can give
after : (pol : Policy) (k : Option ℕ) (ipx : List ℕ) (n : ℕ) (j : Tree) (c : Message) (op : Op) (w : Tree) (why : OpWhy) → IsBlock j n c → (read_again n w >>= λ d. compared pol k ipx n j c w d) ≡ Err why → Refused pol k ipx n j c op (Ok w) why
after pol k ipx n j c op w why b e = by (read_cases n w)
  where
    fixed : (d : Message) → IsBlock w n d → places w n ≡ places j n → (o : Option Address) → first_fixed pol k ipx c d ≡ o → unless_fixed o (w, d) ≡ Err why → Refused pol k ipx n j c op (Ok w) why
    fixed d x same None f e = cc
    fixed d x same (Some a) f e = let is : not_modifiable a ≡ why = cc in subst (Refused pol k ipx n j c op (Ok w)) is (d, x, same, f)

    moved : (d : Message) → IsBlock w n d → (f : Bool) → same_places (places w n) (places j n) ≡ f → (if f then unless_fixed (first_fixed pol k ipx c d) (w, d) else Err hole_moved) ≡ Err why → Refused pol k ipx n j c op (Ok w) why
    moved d x true f e = fixed d x (places_is (places w n) (places j n) f) (first_fixed pol k ipx c d) refl e
    moved d x false f e =
        let is : hole_moved ≡ why = cc in
        subst (Refused pol k ipx n j c op (Ok w)) is (d, x, λ same. let no : true ≡ false = sym (places_same j w n c b same) ∙ f in cc)

    by : Read n w → Refused pol k ipx n j c op (Ok w) why
    by (inl (d, x, r)) = moved d x (same_places (places w n) (places j n)) refl (sym (ap (λ y. y >>= λ d. compared pol k ipx n j c w d) r) ∙ e)
    by (inr (never, r)) =
        let both : Err not_block ≡ Err why = sym (ap (λ y. y >>= λ d. compared pol k ipx n j c w d) r) ∙ e in
        let is : not_block ≡ why = cc in
        subst (Refused pol k ipx n j c op (Ok w)) is never

pub outcome-refused : (pol : Policy) (k : Option ℕ) (ipx : List ℕ) (n : ℕ) (j : Tree) (c : Message) (op : Op) (why : OpWhy) → IsBlock j n c → operation_outcome pol k ipx n j c op ≡ Err why → OpCause pol k ipx n j c op why
outcome-refused pol k ipx n j c op why b e = by (op_result j op) e
  where
    by : (r : Result Tree OpWhy) → (r >>= λ w. read_again n w >>= λ d. compared pol k ipx n j c w d) ≡ Err why → Refused pol k ipx n j c op r why
    by (Err first) e = cc
    by (Ok w) e = after pol k ipx n j c op w why b e

pub outcome-cause : (pol : Policy) (k : Option ℕ) (ipx : List ℕ) (n : ℕ) (j : Tree) (c : Message) (op : Op) (why : OpWhy) → IsBlock j n c → OpCause pol k ipx n j c op why → operation_outcome pol k ipx n j c op ≡ Err why
outcome-cause pol k ipx n j c op why b h = by (op_result j op) why h
  where
    same_message : (w : Tree) (d : Message) → IsBlock w n d → (read_again n w >>= λ d. compared pol k ipx n j c w d) ≡ compared pol k ipx n j c w d
    same_message w d x = ap (λ y. y >>= λ d. compared pol k ipx n j c w d) (reads n w d x)

    differ : (w : Tree) (f : Bool) → same_places (places w n) (places j n) ≡ f → (places w n ≡ places j n → ⊥) → f ≡ false
    differ w true e never = absurd (never (places_is (places w n) (places j n) e))
    differ w false e never = refl

    unread : (w : Tree) → ((d : Message) → IsBlock w n d → ⊥) → Read n w → (read_again n w >>= λ d. compared pol k ipx n j c w d) ≡ Err not_block
    unread w never (inl x) = absurd (never x.0 x.1)
    unread w never (inr x) = ap (λ y. y >>= λ d. compared pol k ipx n j c w d) x.1

    by : (r : Result Tree OpWhy) (why : OpWhy) → Refused pol k ipx n j c op r why → (r >>= λ w. read_again n w >>= λ d. compared pol k ipx n j c w d) ≡ Err why
    by (Err first) why h = ap Err (sym h)
    by (Ok w) hole_value h = absurd h
    by (Ok w) into_hole h = absurd h
    by (Ok w) (patch x) h = absurd h
    by (Ok w) hole_taken h = absurd h
    by (Ok w) too_large h = absurd h
    by (Ok w) metadata h = absurd h
    by (Ok w) not_block h = unread w h (read_cases n w)
    by (Ok w) hole_moved h =
        same_message w h.0 h.1 ∙ ap (λ f. if f then unless_fixed (first_fixed pol k ipx c h.0) (w, h.0) else Err hole_moved) (differ w (same_places (places w n) (places j n)) refl h.2)
    by (Ok w) (not_modifiable a) h =
        same_message w h.0 h.1 ∙ ap₂ (λ (f : Bool) o. if f then unless_fixed o (w, h.0) else Err hole_moved) (places_same j w n c b h.2) h.3

-- ---- an entry

numbered_ok : (i : ℕ) (r : Result (Tree × Message) OpWhy) (x : Tree × Message) → numbered_cause i r ≡ Ok x → r ≡ Ok x
numbered_ok i (Ok y) x e = let is : y ≡ x = cc in ap Ok is
numbered_ok i (Err why) x e = cc

pub entry-made : (pol : Policy) (k : Option ℕ) (ipx : List ℕ) (n i : ℕ) (ops : List Op) (j : Tree) (c : Message) (r : Tree × Message) → outcome_from pol k ipx n i ops j c ≡ Ok r → EntryApplied pol k ipx n j c ops r.0 r.1
entry-made pol k ipx n i [] j c r e = let is : (j, c) ≡ r = cc in (ap (λ (x : Tree × Message). x.0) is, ap (λ (x : Tree × Message). x.1) is)
entry-made pol k ipx n i (op ∷ ops) j c r e =
    let x = bind_ok (numbered_cause i (operation_outcome pol k ipx n j c op)) (λ r. outcome_from pol k ipx n (suc i) ops r.0 r.1) r e in
    ((x.0).0, (x.0).1, outcome-made pol k ipx n j c op x.0 (numbered_ok i _ x.0 x.1), entry-made pol k ipx n (suc i) ops (x.0).0 (x.0).1 r x.2)

pub entry-applied : (pol : Policy) (k : Option ℕ) (ipx : List ℕ) (n i : ℕ) (ops : List Op) (j : Tree) (c : Message) (r : Tree × Message) → IsBlock j n c → EntryApplied pol k ipx n j c ops r.0 r.1 → outcome_from pol k ipx n i ops j c ≡ Ok r
entry-applied pol k ipx n i [] j c r b a = ap₂ (λ x y. Ok (x, y)) a.0 a.1
entry-applied pol k ipx n i (op ∷ ops) j c r b a =
    ap (λ x. numbered_cause i x >>= λ r. outcome_from pol k ipx n (suc i) ops r.0 r.1) (outcome-allowed pol k ipx n j c op (a.0, a.1) b a.2)
    ∙ entry-applied pol k ipx n (suc i) ops a.0 a.1 r (a.2).block a.3

-- the operations before the refused one, it, and those after it
pub record RefusedAt (pol : Policy) (k : Option ℕ) (ipx : List ℕ) (n i : ℕ) (ops : List Op) (j : Tree) (c : Message) (m : ℕ) (why : OpWhy) : Type 0 where
  pub earlier : List Op
  pub operation : Op
  pub later : List Op
  pub are : ops ≡ earlier ++ operation ∷ later
  pub number : m ≡ i + length earlier
  pub reached : Tree
  pub message : Message
  pub applied : EntryApplied pol k ipx n j c earlier reached message
  pub cause : OpCause pol k ipx n reached message operation why

pub entry-refused : (pol : Policy) (k : Option ℕ) (ipx : List ℕ) (n i : ℕ) (ops : List Op) (j : Tree) (c : Message) (m : ℕ) (why : OpWhy) → IsBlock j n c → outcome_from pol k ipx n i ops j c ≡ Err (m, why) → RefusedAt pol k ipx n i ops j c m why
entry-refused pol k ipx n i [] j c m why b e = cc
entry-refused pol k ipx n i (op ∷ ops) j c m why b e = by (operation_outcome pol k ipx n j c op) refl e (λ r x f. entry-refused pol k ipx n (suc i) ops r.0 r.1 m why x f)
  where
    by : (r : Result (Tree × Message) OpWhy) → operation_outcome pol k ipx n j c op ≡ r → (numbered_cause i r >>= λ r. outcome_from pol k ipx n (suc i) ops r.0 r.1) ≡ Err (m, why)
        → ((r : Tree × Message) → IsBlock r.0 n r.1 → outcome_from pol k ipx n (suc i) ops r.0 r.1 ≡ Err (m, why) → RefusedAt pol k ipx n (suc i) ops r.0 r.1 m why) → RefusedAt pol k ipx n i (op ∷ ops) j c m why
    by (Err first) f e more =
        let is : (i, first) ≡ (m, why) = cc in
        let number : i ≡ m = ap (λ (x : ℕ × OpWhy). x.0) is in
        record {
          earlier = [];
          operation = op;
          later = ops;
          are = refl;
          number = omega (arith, number);
          reached = j;
          message = c;
          applied = (refl, refl);
          cause = outcome-refused pol k ipx n j c op why b (f ∙ ap (λ (x : ℕ × OpWhy). Err x.1) is);
        }
    by (Ok r) f e more =
        let a = outcome-made pol k ipx n j c op r f in
        let h = more r a.block e in
        let number : m ≡ suc i + length h.earlier = h.number in
        record {
          earlier = op ∷ h.earlier;
          operation = h.operation;
          later = h.later;
          are = ap (λ l. op ∷ l) h.are;
          number = omega (arith, number);
          reached = h.reached;
          message = h.message;
          applied = (r.0, r.1, a, h.applied);
          cause = h.cause;
        }

pub entry-cause : (pol : Policy) (k : Option ℕ) (ipx : List ℕ) (n i : ℕ) (before : List Op) (op : Op) (later : List Op) (j : Tree) (c : Message) (w : Tree) (d : Message) (why : OpWhy) → IsBlock j n c → EntryApplied pol k ipx n j c before w d
    → OpCause pol k ipx n w d op why → outcome_from pol k ipx n i (before ++ op ∷ later) j c ≡ Err (i + length before, why)
entry-cause pol k ipx n i [] op later j c w d why b a h =
    let here : OpCause pol k ipx n j c op why = subst (λ t. OpCause pol k ipx n t c op why) (sym a.0) (subst (λ m. OpCause pol k ipx n w m op why) (sym a.1) h) in
    let more : i ≡ i + 0 = omega arith in
    ap (λ x. numbered_cause i x >>= λ r. outcome_from pol k ipx n (suc i) later r.0 r.1) (outcome-cause pol k ipx n j c op why b here) ∙ ap (λ x. Err (x, why)) more
entry-cause pol k ipx n i (p ∷ before) op later j c w d why b a h =
    let more : suc i + length before ≡ i + suc (length before) = omega arith in
    ap (λ x. numbered_cause i x >>= λ r. outcome_from pol k ipx n (suc i) (before ++ op ∷ later) r.0 r.1) (outcome-allowed pol k ipx n j c p (a.0, a.1) b a.2)
    ∙ (entry-cause pol k ipx n (suc i) before op later a.0 a.1 w d why (a.2).block a.3 h ∙ ap (λ x. Err (x, why)) more)
