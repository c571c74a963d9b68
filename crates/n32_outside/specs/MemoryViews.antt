-- What is seen of a source, a sink and a keeper in memory.
use Rattle.std.specs.Prelude.{ℕ, List, drop}
use Rattle.n32_outside.specs.declared.memory.MemSource.{MemSource}
use Rattle.n32_outside.specs.declared.memory.MemSink.{MemSink}
use Rattle.n32_outside.specs.declared.memory_keeper.MemKeeper.{MemKeeper}
use Rattle.n32_outside.specs.declared.calls.FailItem.{FailItem}

-- the bytes that are left
abbrev pub source_left : MemSource → List ℕ
source_left s = drop s.at s.bytes

-- the numbers of the calls that fail
abbrev pub source_fails : MemSource → List ℕ
source_fails s = s.fails

-- the number of the next call
abbrev pub source_call : MemSource → ℕ
source_call s = s.call

-- how many calls have failed
abbrev pub source_faults : MemSource → ℕ
source_faults s = s.faults

-- the bytes that were written
abbrev pub sink_written : MemSink → List ℕ
sink_written s = s.bytes.items

-- the numbers of the calls that fail
abbrev pub sink_fails : MemSink → List ℕ
sink_fails s = s.fails

-- the number of the next call
abbrev pub sink_call : MemSink → ℕ
sink_call s = s.call

-- how many calls have failed
abbrev pub sink_faults : MemSink → ℕ
sink_faults s = s.faults

-- the items that it holds
abbrev pub keeper_held : MemKeeper → List (List ℕ)
keeper_held k = k.items

-- the calls that fail
abbrev pub keeper_fails : MemKeeper → List FailItem
keeper_fails k = k.fails

-- the number of the next call
abbrev pub keeper_call : MemKeeper → ℕ
keeper_call k = k.call

-- how many calls have failed
abbrev pub keeper_faults : MemKeeper → ℕ
keeper_faults k = k.faults
