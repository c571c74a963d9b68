use Rattle.std.proofs.Common.{◌≡◌, map, drop}
use Rattle.json_patch6902.specs.View.{op_view}
use Rattle.spec_script.specs.Altering.{altered}
use Rattle.replay_world.specs.Worlds.{IsShallow}
use Rattle.replay_world.proofs.passing.alter_all.Given as goal

-- what the operations that are left make of the document so far is what all make of the first
abbrev pub invariant-loop-op : goal.invariant-loop-op
invariant-loop-op l = record {
  rest : altered (map op_view (drop l.op-index l.op-items)) l.altered ≡ altered (map op_view l.operations) l.document;
  low : IsShallow l.altered;
}
