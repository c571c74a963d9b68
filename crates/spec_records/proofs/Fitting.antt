-- The keys of an open context fit its suite.
use Rattle.std.proofs.Common.{◌≡◌, ℕ, Bool, true, false, List, [], ◌∷◌, Option, Some, None, refl, cond, subst, ◌∙◌}
use Rattle.std.specs.Option.{option_or}
use Rattle.spec_records.specs.Records.{Suite, KeySet, Context, Record, Offered, Opened, Keyed, Sent, Delivered, Closed, keys_fit, keyed_for, keys_behind, opened_context, first_of, opening, open_context, closed, own, keys}

keyed-fits : (s : Suite) (r : Record) (k : KeySet) → keyed_for s r ≡ Some k → keys_fit s k ≡ true
keyed-fits s (Offered n i) k e = cc
keyed-fits s (Opened x) k e = cc
keyed-fits s (Keyed n i j) k e = tested (keys_fit s j) refl e
  where
    tested : (b : Bool) → keys_fit s j ≡ b → cond b (Some j) None ≡ Some k → keys_fit s k ≡ true
    tested true f e = let same : j ≡ k = cc in subst (λ z. keys_fit s z ≡ true) same f
    tested false f e = cc
keyed-fits s (Sent n i k' q m p) k e = cc
keyed-fits s (Delivered n i k' m p) k e = cc
keyed-fits s (Closed n i) k e = cc

behind-fits : (x : Context) (rs : List Record) (k : KeySet) → keys_behind (Some x) rs ≡ Some k → keys_fit x.suite k ≡ true
behind-fits x [] k e = cc
behind-fits x (r ∷ rs) k e = found (keyed_for x.suite r) refl e (λ e. behind-fits x rs k e)
  where
    found : (o : Option KeySet) → keyed_for x.suite r ≡ o → option_or o (keys_behind (Some x) rs) ≡ Some k → (keys_behind (Some x) rs ≡ Some k → keys_fit x.suite k ≡ true) → keys_fit x.suite k ≡ true
    found None f e more = more e
    found (Some j) f e more = keyed-fits x.suite r k (f ∙ e)

after-opening : (rs : List Record) (x : Context) (k : KeySet) → first_of opened_context rs ≡ Some x → keys_behind None rs ≡ Some k → keys_fit x.suite k ≡ true
after-opening [] x k e f = cc
after-opening (r ∷ rs) x k e f = found (opened_context r) e f (λ e f. after-opening rs x k e f)
  where
    found : (o : Option Context) → option_or o (first_of opened_context rs) ≡ Some x → keys_behind o rs ≡ Some k → (first_of opened_context rs ≡ Some x → keys_behind None rs ≡ Some k → keys_fit x.suite k ≡ true) → keys_fit x.suite k ≡ true
    found None e f more = more e f
    found (Some y) e f more = let same : y ≡ x = cc in subst (λ z. keys_fit z.suite k ≡ true) same (behind-fits y rs k f)

pub fitting_keys : (node : List ℕ) (id : ℕ) (records : List Record) (x : Context) (k : KeySet) → open_context node id records ≡ Some x → keys node id records ≡ Some k → keys_fit x.suite k ≡ true
fitting_keys node id records x k e f = opened (closed node id records) e
  where
    opened : (b : Bool) → cond b None (opening node id records) ≡ Some x → keys_fit x.suite k ≡ true
    opened true e = cc
    opened false e = after-opening (own node id records) x k e f
