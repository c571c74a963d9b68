-- The operation that a value of the program is, and the number that a refusal to read one tells.
use Rattle.std.specs.Prelude.{ℕ, Option, Some, None}
use Rattle.spec_documents.specs.Patch as spec
use Rattle.n32_values.specs.View.{tree_of}
use Rattle.json_patch6902.specs.declared.op.Op.{Op}
use Rattle.json_patch6902.specs.declared.op.Op.TheVariants.{Add, Remove, Replace, Move, Copy, Test}
use Rattle.json_patch6902.specs.declared.reading.OpsRead.{OpsRead}
use Rattle.json_patch6902.specs.declared.reading.OpsRead.TheVariants.{Form, NoMemory}

abbrev pub op_view : Op → spec.Op
op_view (Add p v) = spec.add p (tree_of v)
op_view (Remove p) = spec.remove p
op_view (Replace p v) = spec.replace p (tree_of v)
op_view (Move from p) = spec.move from p
op_view (Copy from p) = spec.copy from p
op_view (Test p v) = spec.test p (tree_of v)

abbrev pub told : OpsRead → Option ℕ
told (Form k) = Some k
told NoMemory = None
