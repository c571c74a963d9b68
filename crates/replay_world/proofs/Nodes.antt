-- What adding a node and beginning one anew leave of a world.
use Rattle.std.proofs.Common.{◌≡◌, ℕ, List, [], ◌∷◌, ◌++◌, Bool, true, false, cond, is_some, Some, None, Ok, refl, sym, ap, ◌∙◌, bytes_eq, codes}
use Rattle.std.proofs.lemmas.Slice.Eq.{bytes_eq-Decides}
use Rattle.std.proofs.lemmas.List.{map-append}
use Rattle.context_store.specs.Stores.{Stored}
use Rattle.spec_script.specs.Events.{AddNode, Restart}
use Rattle.spec_handshake.specs.Starts.{without_node}
use Rattle.spec_script.specs.Steps as spec
use Rattle.spec_script.specs.Steps.{Fine, plmn_at, adds_node, restarts, step}
use Rattle.spec_script.specs.Answers.{answer_text}
use Rattle.replay_world.specs.Worlds.{site_view, sites_view, state_of, AreDistinct}
use Rattle.replay_world.specs.Outsiders.{all_pass, idle, by, unasked}
use Rattle.replay_world.proofs.Parts.{StoreStays, Idles}
use Rattle.replay_world.specs.declared.world.Site.{Site}
use Rattle.replay_world.specs.declared.world.World.{World}
use Rattle.replay_world.proofs.EventSteps.{node_is_new, restarts_node}

-- ---- no node stands twice

flipped : (x y : List ℕ) → bytes_eq x y ≡ false → bytes_eq y x ≡ false
flipped x y h = by_test (bytes_eq y x) refl
  where
    by_test : (b : Bool) → bytes_eq y x ≡ b → bytes_eq y x ≡ false
    by_test true e = let same : bytes_eq x y ≡ true = (bytes_eq-Decides x y).1 (sym ((bytes_eq-Decides y x).0 e)) in cc
    by_test false e = e

-- a node that is none of the first stays unknown behind another name
still_unknown : (sites : List spec.Site) (site : spec.Site) (node : List ℕ) → plmn_at sites node ≡ None → bytes_eq site.node node ≡ false → plmn_at (sites ++ site ∷ []) node ≡ None
still_unknown [] site node none other = rw other refl
still_unknown (x ∷ xs) site node none other = by_test (bytes_eq x.node node) none (λ e. still_unknown xs site node e other)
  where
    by_test : (b : Bool) → cond b (Some x.plmn) (plmn_at xs node) ≡ None → (plmn_at xs node ≡ None → plmn_at (xs ++ site ∷ []) node ≡ None) → cond b (Some x.plmn) (plmn_at (xs ++ site ∷ []) node) ≡ None
    by_test true e more = cc
    by_test false e more = more e

record IsOther (x : spec.Site) (xs : List spec.Site) (node : List ℕ) : Type 0 where
  pub name : bytes_eq x.node node ≡ false
  pub rest : is_some (plmn_at xs node) ≡ false

is_other : (x : spec.Site) (xs : List spec.Site) (node : List ℕ) → is_some (plmn_at (x ∷ xs) node) ≡ false → IsOther x xs node
is_other x xs node h = by_test (bytes_eq x.node node) refl h
  where
    by_test : (b : Bool) → bytes_eq x.node node ≡ b → is_some (cond b (Some x.plmn) (plmn_at xs node)) ≡ false → IsOther x xs node
    by_test true e h = cc
    by_test false e h = record { name = e; rest = h }

pub distinct_more : (sites : List spec.Site) (site : spec.Site) → AreDistinct sites → is_some (plmn_at sites site.node) ≡ false → AreDistinct (sites ++ site ∷ [])
distinct_more [] site distinct new = (refl, tt)
distinct_more (x ∷ xs) site distinct new =
    let other = is_other x xs site.node new in
    (still_unknown xs site x.node distinct.0 (flipped x.node site.node other.name), distinct_more xs site distinct.1 other.rest)

-- ---- steps

pub sites_more : (old new : List Site) (site : Site) → new ≡ old ++ site ∷ [] → sites_view new ≡ sites_view old ++ site_view site ∷ []
sites_more old new site more = ap sites_view more ∙ map-append site_view old (site ∷ [])

pub idles_added : (old new : World) (number : ℕ) (text : List ℕ) (site : Site)
    → is_some (plmn_at (sites_view old.sites) site.node) ≡ false → text ≡ answer_text number (Fine (codes "node")) → new.sites ≡ old.sites ++ site ∷ [] → new.hands ≡ old.hands → new.wire ≡ old.wire → StoreStays old.store new.store
    → Idles (unasked (AddNode site.node site.plmn)) old new number (Ok text)
idles_added old new number text site unknown is sites starts wire store = record {
  step = adds_node (state_of old []) site.node site.plmn;
  same = λ records f. node_is_new all_pass (state_of old records) (by idle f) site.node site.plmn unknown;
  puts_none = refl;
  told = (is, refl);
  sites = sites_more old.sites new.sites site sites;
  wire = wire;
  starts = starts;
  store = store;
}

-- the store is stale then
pub forgotten : (old new : Stored) → new.records ≡ old.records → new.fresh ≡ false → StoreStays old new
forgotten old new records stale = record { fresh = λ e. cc; records = records }

pub idles_restarted : (old new : World) (number : ℕ) (text node : List ℕ)
    → is_some (plmn_at (sites_view old.sites) node) ≡ true → text ≡ answer_text number (Fine (codes "restart")) → new.sites ≡ old.sites → new.hands ≡ without_node node old.hands → new.wire ≡ old.wire → StoreStays old.store new.store
    → Idles (unasked (Restart node)) old new number (Ok text)
idles_restarted old new number text node known is sites starts wire store = record {
  step = restarts (state_of old []) node;
  same = λ records f. restarts_node all_pass (state_of old records) (by idle f) node known;
  puts_none = refl;
  told = (is, refl);
  sites = ap sites_view sites;
  wire = wire;
  starts = starts;
  store = store;
}
