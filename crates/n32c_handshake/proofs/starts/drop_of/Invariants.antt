use Rattle.std.proofs.Common.{◌≡◌, ◌++◌, ◌-◌, ◌≤◌, map, take, drop, length, vec_len}
use Rattle.spec_handshake.specs.Starts.{without_node}
use Rattle.n32c_handshake.specs.View.{start_view}
use Rattle.n32c_handshake.proofs.starts.drop_of.Given as goal

abbrev pub invariant-loop-i : goal.invariant-loop-i
invariant-loop-i l = record {
  within : l.i ≤ length l.starts.items;
  kept : take l.i (map start_view l.starts.items) ++ without_node l.node (drop l.i (map start_view l.starts.items)) ≡ without_node l.node (map start_view l.fn.starts.items);
}

abbrev pub decreases-loop-i : goal.decreases-loop-i
decreases-loop-i l = vec_len l.starts - l.i
