-- What putting a document on the wire leaves of a world.
use Rattle.std.specs.Prelude.{◌≡◌, [], ◌∷◌, ◌++◌, Result, Ok, Err}
use Rattle.spec_documents.specs.Tree.{Tree}
use Rattle.spec_script.specs.Steps.{wire_bytes}
use Rattle.replay_world.specs.declared.world.World.{World}

-- the document stands last, with its bytes, and all else is as it was
pub record HasMore (old new : World) (t : Tree) : Type 0 where
  pub wire : new.wire ≡ old.wire ++ t ∷ []
  pub bytes : new.wire_bytes ≡ wire_bytes new.wire
  pub sites : new.sites ≡ old.sites
  pub hands : new.hands ≡ old.hands
  pub store : new.store ≡ old.store

-- where memory was refused the world is as it was
abbrev pub GoesOn : {A E : Type 0} → (old new : World) → Tree → Result A E → Type 0
GoesOn old new t (Ok x) = HasMore old new t
GoesOn old new t (Err e) = new ≡ old
