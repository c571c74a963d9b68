-- The statuses of a run: their texts and numbers (this project's own).
use Rattle.std.specs.Prelude.{ℕ, List, [], ◌++◌, codes}
use Rattle.std.specs.Fmt.{decimal}
use Rattle.script_loop.specs.declared.ending.Ending.{Ending}
use Rattle.script_loop.specs.declared.ending.Ending.TheVariants as endings
use Rattle.context_store.specs.declared.faults.OpenFault.{OpenFault}
use Rattle.context_store.specs.declared.faults.OpenFault.TheVariants as loads
use Rattle.replay_runs.specs.declared.status.Status.{Status}
use Rattle.replay_runs.specs.declared.status.Status.TheVariants.{Done, Words, ReadFault, WriteFault, LineTooLong, ScriptTooLarge, Journal, KeeperFault, NoMemory}

-- the text on standard error
abbrev pub status_text : Status → List ℕ
status_text Done = []
status_text Words = codes "usage: n32_replay blocks | replay [FILE] | exercise N"
status_text ReadFault = codes "n32_replay: read fault"
status_text WriteFault = codes "n32_replay: write fault"
status_text (LineTooLong n) = codes "n32_replay: line " ++ (decimal n ++ codes " too long")
status_text ScriptTooLarge = codes "n32_replay: script too large"
status_text (Journal k) = codes "n32_replay: bad record " ++ decimal k
status_text KeeperFault = codes "n32_replay: keeper fault"
status_text NoMemory = codes "n32_replay: no memory"

-- the exit status of the program
abbrev pub exit_number : Status → ℕ
exit_number Done = 0
exit_number Words = 2
exit_number ReadFault = 3
exit_number WriteFault = 4
exit_number (LineTooLong n) = 5
exit_number ScriptTooLarge = 6
exit_number (Journal k) = 7
exit_number KeeperFault = 8
exit_number NoMemory = 9

-- the status of an ending of the reading loop
abbrev pub status_of : Ending → Status
status_of endings.Done = Done
status_of endings.ReadFault = ReadFault
status_of endings.WriteFault = WriteFault
status_of (endings.LineTooLong n) = LineTooLong n
status_of endings.ScriptTooLarge = ScriptTooLarge
status_of endings.NoMemory = NoMemory

-- the status of a load of the records that failed
abbrev pub load_status : OpenFault → Status
load_status (loads.Journal k) = Journal k
load_status loads.Keeper = KeeperFault
load_status loads.NoMemory = NoMemory
