use Rattle.std.proofs.Common.{◌≡◌, ◌+◌, take, drop}
use Rattle.spec_messages.specs.Fault.{first_pathless}
use Rattle.block_forms.specs.Paths.{paths_of}
use Rattle.block_forms.proofs.paths.read_paths.Given as goal

abbrev pub invariant-loop-i : goal.invariant-loop-i
invariant-loop-i l = record {
  paths : l.paths ≡ paths_of (take l.i l.list);
  first : first_pathless (l.i + 1) (drop l.i l.list) ≡ first_pathless 1 l.list;
}
