use Rattle.std.proofs.Common.{◌≡◌, Err}
use Rattle.n32_values.specs.declared.read.DocFault.TheVariants.{Syntax, Number}
use Rattle.script_lines.proofs.LineTree.{tree_read, syntax_read, number_read}
use Rattle.script_lines.proofs.line_reading.read_line_in.Goals as goal

pub returns-in-Ok-clause-gives : goal.returns-in-Ok-clause-gives
returns-in-Ok-clause-gives c = tree_read c.args.line.now _ c.in-Ok.ensures.tree

pub returns-in-Err-Syntax-clause-gives : goal.returns-in-Err-Syntax-clause-gives
returns-in-Err-Syntax-clause-gives c = let is : c.read_doc_in.result ≡ Err Syntax = cc in syntax_read c.args.line.now (c.read_doc_in.ensures.syntax is)

pub returns-in-Err-Number-clause-gives : goal.returns-in-Err-Number-clause-gives
returns-in-Err-Number-clause-gives c = let is : c.read_doc_in.result ≡ Err Number = cc in number_read c.args.line.now (c.read_doc_in.ensures.number is)
