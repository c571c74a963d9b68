-- What is seen of a keeper over a file.
use Rattle.std.specs.Prelude.{ℕ}
use Rattle.n32_outside.specs.declared.file_keeper.FileKeeper.{FileKeeper}

-- how often the system has failed
abbrev pub file_faults : {T File Dir : Type 0} → FileKeeper T File Dir → ℕ
file_faults k = k.faults
