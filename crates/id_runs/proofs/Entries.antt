-- One more entry: what each id has then.
use Rattle.std.proofs.Common.{◌≡◌, ◌∙◌, ℕ, Bool, true, false, cond, not, ◌||◌, ◌==◌, nat_eq, List, [], ◌∷◌, ◌++◌, Option, Some, None, is_some, if◌then◌else◌, refl, ap, sym}
use Rattle.std.specs.Option.{option_or}
use Rattle.id_runs.specs.Runs.{IsRuns, IsInRun, entry_of, with_entry, has_run}
use Rattle.id_runs.proofs.Rising.{has_at}
use Rattle.id_runs.specs.declared.run_list.Run.{Run}
use Rattle.id_runs.specs.declared.run_list.Entry.{Entry}

pub entry_more : (x id : ℕ) (e : Entry) (es : List (ℕ × Entry)) → entry_of x (es ++ (id, e) ∷ []) ≡ option_or (entry_of x es) (if x == id then Some e else None)
entry_more x id e [] = refl
entry_more x id e (p ∷ es) = step (nat_eq x p.0) (entry_of x (es ++ (id, e) ∷ [])) (entry_of x es) (entry_more x id e es)
  where
    step : (b : Bool) (o q : Option Entry) → o ≡ option_or q (if x == id then Some e else None) → cond b (Some p.1) o ≡ option_or (cond b (Some p.1) q) (if x == id then Some e else None)
    step true o q h = refl
    step false o q h = h

-- what each id has, with the entry of one more
pub with_entry_told : (x id : ℕ) (e : Entry) (es : List (ℕ × Entry)) → entry_of id es ≡ None → entry_of x (with_entry id e es) ≡ option_or (entry_of x es) (if x == id then Some e else None)
with_entry_told x id e es none = ap (λ o. entry_of x (if is_some o then es else es ++ (id, e) ∷ [])) none ∙ entry_more x id e es

-- an id in a run has its entry
pub some_there : (i id : ℕ) (runs : List Run) (es : List (ℕ × Entry)) → IsRuns runs es → IsInRun i id runs → entry_of id es ≡ None → ⊥
some_there i id runs es h inside none =
    let is : has_run id runs ≡ true = has_at id i runs inside.it inside.there inside.inside in
    let other : has_run id runs ≡ false = h.same id ∙ ap is_some none in
    let clash : true ≡ false = sym is ∙ other in
    cc

-- an id in no run has none
pub none_there : (id : ℕ) (runs : List Run) (es : List (ℕ × Entry)) → IsRuns runs es → has_run id runs ≡ false → entry_of id es ≡ None
none_there id runs es h not = split (entry_of id es) (sym (h.same id) ∙ not)
  where
    split : (o : Option Entry) → is_some o ≡ false → o ≡ None
    split None e = refl
    split (Some y) e = cc

pub none_from : (o : Option Entry) (b : Bool) → not b ≡ true → b ≡ is_some o → o ≡ None
none_from None b h e = refl
none_from (Some y) true h e = cc
none_from (Some y) false h e = cc

-- a new id goes last
pub with_new : (id : ℕ) (e : Entry) (es : List (ℕ × Entry)) → entry_of id es ≡ None → with_entry id e es ≡ es ++ (id, e) ∷ []
with_new id e es none = ap (λ o. if is_some o then es else es ++ (id, e) ∷ []) none
