use Rattle.std.proofs.Common.{◌≡◌, ◌+◌, ◌≤◌, ◌^◌, ◌-◌, min, length, drop}
use Rattle.json.specs.Print.{escape}
use Rattle.n32_values.proofs.length.quoted_length.Given as goal

abbrev pub invariant-loop-i : goal.invariant-loop-i
invariant-loop-i l = record {
  rest : min (l.total + length (escape (drop l.i l.bytes))) (2 ^ 64 - 1) ≡ min (1 + length (escape l.bytes)) (2 ^ 64 - 1);
  fits : l.total ≤ 2 ^ 64 - 1;
}
