-- What calls move, and what they do to the items of a keeper.
use Rattle.std.specs.Prelude.{◌≡◌, ◌⊎◌, ℕ, ◌<◌, List, [], ◌∷◌, ◌++◌, length, slice_get, Option, None, Some, Result, Ok, Err, IfOk}
use Rattle.std.specs.Option.{option_map}
use Rattle.n32_outside.specs.declared.faults.OutFault.{OutFault}
use Rattle.n32_outside.specs.declared.faults.OutFault.TheVariants.{Failed, NoMemory}

-- at least one byte of a piece that has one
abbrev pub MovesSome : {E : Type 0} → Result ℕ E → List ℕ → Type 0
MovesSome result piece = 0 < length piece → IfOk result (λ count. 0 < count)

-- the same items are told, or still none
abbrev pub Stays : Option (List (List ℕ)) → Option (List (List ℕ)) → Type 0
Stays old new = new ≡ old

-- the items and that one more are told, or still none
abbrev pub Gains : Option (List (List ℕ)) → Option (List (List ℕ)) → List ℕ → Type 0
Gains old new item = new ≡ option_map (λ items. items ++ item ∷ []) old

-- a put adds its item; after a fault the item may be there; where memory was refused it isn't
abbrev pub Puts : {T : Type 0} → Option (List (List ℕ)) → Option (List (List ℕ)) → Result T OutFault → List ℕ → Type 0
Puts old new (Ok _) item = Gains old new item
Puts old new (Err Failed) item = Stays old new ⊎ Gains old new item
Puts old new (Err NoMemory) item = Stays old new

-- a load finds the item of that number among the items told, and none exactly at or past their end
abbrev pub Loads : Option (List (List ℕ)) → Result (Option (List ℕ)) OutFault → ℕ → Type 0
Loads (Some items) (Ok found) number = found ≡ slice_get items number
Loads None (Ok found) number = Unit {0}
Loads held (Err _) number = Unit {0}
