-- The load at the start of `replay` and of `exercise`: the world that it makes, and how a text that is no record ends the run, before anything is read or written.
use Rattle.std.specs.Prelude.{◌≡◌, ◌≤◌, ⊤, ℕ, List, [], length, Option, IfSome}
use Rattle.n32_outside.specs.Contents.{Stays}
use Rattle.spec_records.specs.Records.{record_limit}
use Rattle.context_store.specs.Stores.{Holds, IsFirstBad}
use Rattle.replay_world.specs.Worlds.{IsReady}
use Rattle.replay_world.specs.declared.world.World.{World}
use Rattle.replay_runs.specs.declared.status.Status.{Status}
use Rattle.replay_runs.specs.declared.status.Status.TheVariants as status

-- a world without nodes, documents and starts, over the records that are held
pub record IsBegun (held : Option (List (List ℕ))) (w : World) : Type 0 where
  pub ready : IsReady held w
  pub sites : w.sites ≡ []
  pub wire : w.wire ≡ []
  pub hands : w.hands ≡ []
  pub holds : Holds held w.store.records
  pub few : length w.store.records ≤ record_limit

-- source and sink are as they were, and the same is held
pub record Untouched {S O : Type 0} (source source' : S) (sink sink' : O) (held held' : Option (List (List ℕ))) : Type 0 where
  pub source_stays : source' ≡ source
  pub sink_stays : sink' ≡ sink
  pub held_stays : Stays held held'

-- record k, which is the first that is none, ends the run, unless the keeper failed or memory was refused
abbrev pub IsRefused : ℕ → Status → Type 0
IsRefused k (status.Journal j) = j ≡ k
IsRefused k status.KeeperFault = ⊤
IsRefused k status.NoMemory = ⊤
IsRefused k status.Done = ⊥
IsRefused k status.Words = ⊥
IsRefused k status.ReadFault = ⊥
IsRefused k status.WriteFault = ⊥
IsRefused k (status.LineTooLong n) = ⊥
IsRefused k status.ScriptTooLarge = ⊥

-- a record is named only where it is the first that is none
abbrev pub NamesBad : Option (List (List ℕ)) → Status → Type 0
NamesBad held (status.Journal k) = IfSome held (λ texts. IsFirstBad texts k)
NamesBad held status.KeeperFault = ⊤
NamesBad held status.NoMemory = ⊤
NamesBad held status.Done = ⊤
NamesBad held status.Words = ⊤
NamesBad held status.ReadFault = ⊤
NamesBad held status.WriteFault = ⊤
NamesBad held (status.LineTooLong n) = ⊤
NamesBad held status.ScriptTooLarge = ⊤

-- at the statuses of the load P holds
abbrev pub AtLoad : Type 0 → Status → Type 0
AtLoad P (status.Journal k) = P
AtLoad P status.KeeperFault = P
AtLoad P status.NoMemory = ⊤
AtLoad P status.Done = ⊤
AtLoad P status.Words = ⊤
AtLoad P status.ReadFault = ⊤
AtLoad P status.WriteFault = ⊤
AtLoad P (status.LineTooLong n) = ⊤
AtLoad P status.ScriptTooLarge = ⊤
